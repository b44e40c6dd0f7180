use Rattle.std.proofs.Common.{◌≡◌, ◌++◌, drop}
use Rattle.argos_printer.proofs.Spaced.{spaced_each}
use Rattle.argos_printer.proofs.Texts.{set_behind}
use Rattle.argos_printer.proofs.printer.Printer.sets.Given as goal

-- the text so far, and the sets that are left
abbrev pub invariant-loop-set : goal.invariant-loop-set
invariant-loop-set l = l.self.text.items ++ spaced_each set_behind (drop l.set-index l.others) ≡ l.initial.self.text.items ++ spaced_each set_behind l.others
