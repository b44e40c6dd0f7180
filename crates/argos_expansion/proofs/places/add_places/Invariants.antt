use Rattle.std.proofs.Common.{◌≡◌, ◌++◌, drop, map}
use Rattle.argos_core.specs.Views.{numbers}
use Rattle.argos_grammar.specs.Views.{marks_of}
use Rattle.argos_expansion.specs.Expansion.{number_at}
use Rattle.argos_expansion.proofs.places.add_places.Given as goal

-- the places so far, and those that are left
abbrev pub invariant-loop-spot : goal.invariant-loop-spot
invariant-loop-spot l = numbers l.places.items ++ map (number_at l.scope) (marks_of (drop l.spot-index l.spots)) ≡ numbers l.initial.places.items ++ map (number_at l.scope) (marks_of l.spots)
