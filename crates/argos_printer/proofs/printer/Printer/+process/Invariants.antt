use Rattle.std.proofs.Common.{◌≡◌, ◌++◌, drop}
use Rattle.argos_printer.proofs.Spaced.{spaced_each}
use Rattle.argos_printer.proofs.ProcessWords.{process_behind, state_each}
use Rattle.argos_printer.proofs.printer.Printer.+process.Given as goal

-- the text so far, and the processes that are left
abbrev pub invariant-processes-loop-process : goal.invariant-processes-loop-process
invariant-processes-loop-process l = l.self.text.items ++ spaced_each process_behind (drop l.process-index l.others) ≡ l.initial.self.text.items ++ spaced_each process_behind l.others

-- the text so far, and the states that are left
abbrev pub invariant-states-loop-state : goal.invariant-states-loop-state
invariant-states-loop-state l = l.self.text.items ++ spaced_each state_each (drop l.state-index l.states) ≡ l.initial.self.text.items ++ spaced_each state_each l.states
