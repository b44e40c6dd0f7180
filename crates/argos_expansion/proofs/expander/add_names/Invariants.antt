use Rattle.std.proofs.Common.{◌≡◌, ◌++◌, drop, map}
use Rattle.argos_grammar.specs.Views.{marks_of}
use Rattle.argos_expansion.proofs.expander.add_names.Given as goal

-- the names so far, and those that are left
abbrev pub invariant-loop-spot : goal.invariant-loop-spot
invariant-loop-spot l = l.names.items ++ map (λ m. m.name) (marks_of (drop l.spot-index l.spots)) ≡ l.initial.names.items ++ map (λ m. m.name) (marks_of l.spots)
