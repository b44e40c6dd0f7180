use Rattle.std.proofs.Common.{◌≡◌, ◌++◌, drop, length}
use Rattle.argos_grammar.specs.Views.{marks_of}
use Rattle.argos_names.specs.Scope.{names_in}
use Rattle.argos_scope.proofs.tables.table_of.Given as goal

-- the names so far and those that are left are all
abbrev pub invariant-loop-spot : goal.invariant-loop-spot
invariant-loop-spot l = (l.table ++ names_in (marks_of (drop l.spot-index l.spots)) ≡ names_in (marks_of l.spots)) × (length l.table ≡ l.spot-index)
