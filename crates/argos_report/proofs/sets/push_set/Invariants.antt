use Rattle.std.proofs.Common.{◌≡◌, ◌++◌}
use Rattle.trace_io.specs.Lines.{set_text}
use Rattle.argos_report.specs.inner.Told.{names_behind}
use Rattle.argos_report.proofs.Joining.{told, present_from}
use Rattle.argos_report.proofs.sets.push_set.Given as goal

-- with the names that are left comes the whole text
abbrev pub invariant-loop-k : goal.invariant-loop-k
invariant-loop-k l = l.text.items ++ told l.some (present_from l.set l.names l.k) ≡ l.initial.text.items ++ set_text l.set (names_behind l.names)
