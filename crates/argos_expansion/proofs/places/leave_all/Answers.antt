use Rattle.std.proofs.Common.{drop, ap, ◌∙◌}
use Rattle.std.proofs.lemmas.List.{drop-drop}
use Rattle.argos_expansion.proofs.places.leave_all.Goals as goal

pub loop-spot-preserved : goal.loop-spot-preserved
loop-spot-preserved c = c.in_ok-leave.ensures ∙ ap (drop 1) c.loop-spot.invariant ∙ drop-drop 1 c.loop-spot._spot-index c.args.scope.now
