use Rattle.std.proofs.Common.{map, ap, arith}
use Rattle.std.proofs.lemmas.Grind.{common_steps}
use Rattle.eqn_core.specs.Views.{line_of, equations_from}
use Rattle.eqn_core.proofs.InOrder.{walk_at, next_below}
use Rattle.eqn_core.proofs.stepper.react.Goals as goal

pub evaluate-requires-clause-order : goal.evaluate-requires-clause-order
evaluate-requires-clause-order c = walk_at (equations_from c.args.system.now) _ _ c.requires.ordered c.requires.places.memory_places (ap (map line_of) c.deref.ensures.value)

pub take_words-requires-clause-exist : goal.take_words-requires-clause-exist
take_words-requires-clause-exist c = next_below (equations_from c.args.system.now) _ _ c.requires.ordered (grind (arith, common_steps)) c.deref-3.ensures.value
