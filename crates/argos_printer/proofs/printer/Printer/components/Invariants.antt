use Rattle.std.proofs.Common.{◌≡◌, ◌++◌, drop}
use Rattle.argos_printer.proofs.Spaced.{spaced_each}
use Rattle.argos_printer.proofs.ProcessWords.{component_each}
use Rattle.argos_printer.proofs.printer.Printer.components.Given as goal

-- the text so far, and the components that are left
abbrev pub invariant-loop-component : goal.invariant-loop-component
invariant-loop-component l = l.self.text.items ++ spaced_each component_each (drop l.component-index l.components) ≡ l.initial.self.text.items ++ spaced_each component_each l.components
