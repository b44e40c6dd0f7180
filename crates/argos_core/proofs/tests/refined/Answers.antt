use Rattle.std.proofs.Common.{ap, ◌∙◌}
use Rattle.argos_core.specs.Views.{process_of}
use Rattle.argos_core.proofs.SmallPrograms.{refined_is}
use Rattle.argos_core.proofs.tests.refined.Goals as goal

pub returns : goal.returns
returns c =
    refined_is c.automaton.result c.in_ok-new.field-0.value c.in_ok-p.p c.in_ok-state-2.field-0 c.in_ok-state.field-0 c.in_ok-vec-2.field-0.items c.in_ok-vec.field-0.items c.automaton.ensures c.in_ok-vec-2.ensures.items (ap process_of c.in_ok-new.ensures.ok ∙ c.automaton-inside.ensures) c.in_ok-vec.ensures.items
    c.in_ok-p.ensures c.in_ok-state-2.ensures c.in_ok-state.ensures
