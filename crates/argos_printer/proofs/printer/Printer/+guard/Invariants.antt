use Rattle.std.proofs.Common.{◌≡◌, ◌++◌, drop}
use Rattle.argos_grammar.specs.Printed.{name_words}
use Rattle.argos_grammar.specs.Views.{guard_of}
use Rattle.argos_printer.proofs.Spaced.{spaced_each}
use Rattle.argos_printer.proofs.GuardWords.{unit_behind, part_behind}
use Rattle.argos_printer.proofs.printer.Printer.+guard.Given as goal

-- the text so far, and the members that are left
abbrev pub invariant-units-loop-unit : goal.invariant-units-loop-unit
invariant-units-loop-unit l = l.self.text.items ++ spaced_each (unit_behind name_words guard_of) (drop l.unit-index l.others) ≡ l.initial.self.text.items ++ spaced_each (unit_behind name_words guard_of) l.others

abbrev pub invariant-parts-loop-part : goal.invariant-parts-loop-part
invariant-parts-loop-part l = l.self.text.items ++ spaced_each (part_behind name_words guard_of) (drop l.part-index l.others) ≡ l.initial.self.text.items ++ spaced_each (part_behind name_words guard_of) l.others
