use Rattle.std.proofs.Common.{◌≡◌, ◌+◌, ◌-◌, ◌≤◌, ◌++◌, drop, length}
use Rattle.std.specs.List.{range_with_len}
use Rattle.argos_grammar.specs.Views.{marks_of}
use Rattle.argos_expansion.specs.Expansion.{paired}
use Rattle.argos_expansion.proofs.places.declare_backwards.Given as goal

-- the last names are there
abbrev pub invariant-loop-k : goal.invariant-loop-k
invariant-loop-k l = (l.scope ≡ paired (marks_of (drop l.k l.spots)) (range_with_len (l.first + l.k) (length l.spots - l.k)) ++ l.initial.scope) × (l.k ≤ length l.spots)

abbrev pub decreases-loop-k : goal.decreases-loop-k
decreases-loop-k l = l.k
