use Rattle.std.proofs.Common.{ap, arith, length, map, sym, ◌∙◌}
use Rattle.std.specs.Prelude.{nat_eq}
use Rattle.std.specs.HashSet.{contains}
use Rattle.argos_base.specs.SignalSets.{lists}
use Rattle.c_step.specs.CStep.{assigned_after, nothing_assigned}
use Rattle.c_step.specs.Views.{statement_of}
use Rattle.c_step.proofs.DraftSteps.{none_marked}
use Rattle.c_step.proofs.draft.Draft.new.Goals as goal

pub returns-clause-sound : goal.returns-clause-sound
returns-clause-sound c = record {
  bits = none_marked (contains nat_eq c.new-6.result.bits) c.new-6.ensures.bits ∙ ap (λ xs. lists (assigned_after nothing_assigned (map statement_of xs)).bits) (sym c.new-4.ensures.items);
  words = none_marked (contains nat_eq c.new-6.result.words) c.new-6.ensures.words ∙ ap (λ xs. lists (assigned_after nothing_assigned (map statement_of xs)).words) (sym c.new-4.ensures.items);
  outs = none_marked (contains nat_eq c.new-6.result.outs) c.new-6.ensures.outs ∙ ap (λ xs. lists (assigned_after nothing_assigned (map statement_of xs)).outs) (sym c.new-4.ensures.items);
  few = omega (arith, ap length c.new-3.ensures.items);
}
