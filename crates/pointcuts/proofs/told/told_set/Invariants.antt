use Rattle.std.proofs.Common.{◌≡◌, take}
use Rattle.argos_grammar.specs.Views.{marks_of}
use Rattle.pointcuts.specs.Pointcuts.{told}
use Rattle.pointcuts.proofs.told.told_set.Given as goal

-- what the spots so far tell
abbrev pub invariant-loop-spot : goal.invariant-loop-spot
invariant-loop-spot l = l.set ≡ told l.names (marks_of (take l.spot-index l.spots))
