use Rattle.std.proofs.Common.{◌≡◌, ◌++◌, drop}
use Rattle.argos_report.specs.inner.Told.{names_behind}
use Rattle.argos_report.proofs.sets.add_names.Given as goal

-- with the names that are left come all
abbrev pub invariant-loop-k : goal.invariant-loop-k
invariant-loop-k l = names_behind l.names.items ++ drop l.k l.table ≡ names_behind l.initial.names.items ++ l.table
