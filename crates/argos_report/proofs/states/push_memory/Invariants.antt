use Rattle.std.proofs.Common.{◌≡◌, ◌++◌}
use Rattle.std.specs.Prelude.{nat_lt}
use Rattle.argos_core.specs.ModuleViews.{module_of}
use Rattle.argos_report.specs.States.{memory_text}
use Rattle.argos_report.proofs.Joining.{joined, items_left}
use Rattle.argos_report.proofs.states.push_memory.Given as goal

-- with the items that are left comes the whole text
abbrev pub invariant-loop-register : goal.invariant-loop-register
invariant-loop-register l = l.text.items ++ joined (nat_lt 0 l.register) (items_left l.states-items l.memory l.register) ≡ l.initial.text.items ++ memory_text (module_of l.«module») l.memory
