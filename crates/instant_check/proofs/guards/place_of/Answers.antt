use Rattle.std.proofs.Common.{sym, ◌∙◌}
use Rattle.instant_check.proofs.Places.{found}
use Rattle.instant_check.proofs.guards.place_of.Goals as goal

pub returns : goal.returns
returns c = found c.args.signals.now c.loop-signal.place (record { 0 = 0 }) c.args.signal c.loop-signal.invariant (sym c.ne.ensures ∙ c.loop-signal-test.false)
