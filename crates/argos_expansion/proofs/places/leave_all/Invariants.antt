use Rattle.std.proofs.Common.{◌≡◌, drop}
use Rattle.argos_expansion.proofs.places.leave_all.Given as goal

-- so many have left
abbrev pub invariant-loop-spot : goal.invariant-loop-spot
invariant-loop-spot l = l.scope ≡ drop l._spot-index l.initial.scope
