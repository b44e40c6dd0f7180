use Rattle.std.proofs.Common.{◌≡◌, ◌++◌, drop}
use Rattle.argos_core.specs.ModuleViews.{module_of}
use Rattle.argos_report.specs.Reports.{signal_names}
use Rattle.argos_report.specs.inner.Told.{names_behind}
use Rattle.argos_report.proofs.sets.signal_names.Given as goal

-- with the locals that are left come all
abbrev pub invariant-loop-local : goal.invariant-loop-local
invariant-loop-local l = names_behind l.names.items ++ drop l.local-index l.«module».locals.items ≡ signal_names (module_of l.«module»)
