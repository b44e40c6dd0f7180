use Rattle.std.proofs.Common.{◌≡◌, ◌+◌, drop}
use Rattle.argos_grammar.specs.Views.{marks_of}
use Rattle.argos_expansion.specs.Expansion.{numbered}
use Rattle.argos_expansion.proofs.places.declare_all.Given as goal

-- the names so far, and those that are left
abbrev pub invariant-loop-k : goal.invariant-loop-k
invariant-loop-k l = numbered (marks_of (drop l.k l.spots)) (l.first + l.k) l.scope ≡ numbered (marks_of l.spots) l.first l.initial.scope
