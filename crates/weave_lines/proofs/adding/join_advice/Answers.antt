use Rattle.std.proofs.Common.{ℕ, List, map, IsTrue, ◌∙◌, sym, subst}
use Rattle.argos_aspects.specs.Views.{seen_of, advice_of}
use Rattle.eqn_core.specs.Equations.{Equations}
use Rattle.eqn_core.specs.Ordered.{all_below}
use Rattle.eqn_core.specs.Views.{equations_from}
use Rattle.weave_lines.specs.Systems.{IsJoined}
use Rattle.weave_lines.proofs.WholeLines.{joined-system}
use Rattle.weave_lines.proofs.adding.join_advice.Goals as goal

pub ordered_of-ordered-requires : goal.ordered_of-ordered-requires
ordered_of-ordered-requires c =
    (joined-system c.args.base.now c.args.observer.now _ _ (equations_from c.in_ok-system.system) (map seen_of c.args.seen.now) (advice_of c.args.advice.now) c.in_ok-codes.codes.items c.deref-2.result.now c.system.ensures.system c.system-2.ensures.system c.deref-2.ensures.value c.requires.join c.requires.short c.in_ok-codes.ensures
    (subst (λ (l : List ℕ). IsTrue (all_below 65536 l)) (c.deref.ensures.value ∙ sym c.deref-2.ensures.value) c.codes_fit.ensures) c.in_ok-system.ensures).0

pub returns : goal.returns
returns c =
    subst (λ (E : Equations). IsJoined c.args.base.now c.args.observer.now (map seen_of c.args.seen.now) (advice_of c.args.advice.now) E) (sym c.ordered_of-ordered.ensures)
    (joined-system c.args.base.now c.args.observer.now _ _ (equations_from c.in_ok-system.system) (map seen_of c.args.seen.now) (advice_of c.args.advice.now) c.in_ok-codes.codes.items c.deref-2.result.now c.system.ensures.system c.system-2.ensures.system c.deref-2.ensures.value c.requires.join c.requires.short c.in_ok-codes.ensures
    (subst (λ (l : List ℕ). IsTrue (all_below 65536 l)) (c.deref.ensures.value ∙ sym c.deref-2.ensures.value) c.codes_fit.ensures) c.in_ok-system.ensures).1
