use Rattle.std.proofs.Common.{map, ap, ◌∙◌, arith}
use Rattle.std.proofs.lemmas.Grind.{common_steps}
use Rattle.eqn_core.specs.Equations.{word_lines}
use Rattle.eqn_core.specs.Views.{line_of}
use Rattle.eqn_core.proofs.Places.{HasPlaces-counted}
use Rattle.eqn_core.proofs.stepper.Stepper.begin.Goals as goal

pub invariant_of-result : goal.invariant_of-result
invariant_of-result c =
    let system = c.system-system.result.now in
    HasPlaces-counted system c.args.ordered _ _ _ c.count_words-count.result c.system-system.ensures.system (c.count_words-count.ensures.count ∙ ap (λ ls. word_lines (map line_of ls)) c.deref.ensures.value) (grind (arith, common_steps)) (grind (arith, common_steps)) (grind (arith, common_steps))
