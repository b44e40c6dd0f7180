use Rattle.std.proofs.Common.{drop, ap, ◌∙◌}
use Rattle.std.proofs.lemmas.List.{drop-drop}
use Rattle.argos_names.proofs.rules.signals.leave_all.Goals as goal

pub loop-signal-preserved : goal.loop-signal-preserved
loop-signal-preserved c = c.in_ok-leave.ensures ∙ ap (drop 1) c.loop-signal.invariant ∙ drop-drop 1 c.loop-signal._signal-index c.args.scope.now
