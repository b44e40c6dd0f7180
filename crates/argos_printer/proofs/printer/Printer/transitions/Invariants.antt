use Rattle.std.proofs.Common.{◌≡◌, ◌++◌, drop}
use Rattle.argos_printer.proofs.Spaced.{spaced_each}
use Rattle.argos_printer.proofs.GuardWords.{trans_each}
use Rattle.argos_printer.proofs.printer.Printer.transitions.Given as goal

-- the text so far, and the transitions that are left
abbrev pub invariant-loop-transition : goal.invariant-loop-transition
invariant-loop-transition l = l.self.text.items ++ spaced_each trans_each (drop l.transition-index l.transitions) ≡ l.initial.self.text.items ++ spaced_each trans_each l.transitions
