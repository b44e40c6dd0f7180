use Rattle.std.proofs.Common.{take}
use Rattle.argos_expansion.specs.inner.FirstPlaces.{AreFirst}
use Rattle.argos_expansion.proofs.first_names.firsts_of.Given as goal

-- the first places among the names so far
abbrev pub invariant-loop-k : goal.invariant-loop-k
invariant-loop-k l = AreFirst (take l.k l.names) l.firsts
