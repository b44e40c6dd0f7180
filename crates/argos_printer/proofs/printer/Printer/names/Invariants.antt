use Rattle.std.proofs.Common.{◌≡◌, ◌++◌, drop}
use Rattle.argos_printer.proofs.Spaced.{spaced_each, name_behind}
use Rattle.argos_printer.proofs.printer.Printer.names.Given as goal

-- the text so far, and the names that are left
abbrev pub invariant-loop-name : goal.invariant-loop-name
invariant-loop-name l = l.self.text.items ++ spaced_each name_behind (drop l.name-index l.others) ≡ l.initial.self.text.items ++ spaced_each name_behind l.others
