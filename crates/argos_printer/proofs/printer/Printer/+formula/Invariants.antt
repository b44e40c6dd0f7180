use Rattle.std.proofs.Common.{◌≡◌, ◌++◌, drop}
use Rattle.argos_grammar.specs.Printed.{atom_words}
use Rattle.argos_grammar.specs.Views.{formula_of}
use Rattle.argos_printer.proofs.Spaced.{spaced_each}
use Rattle.argos_printer.proofs.GuardWords.{unit_behind, part_behind}
use Rattle.argos_printer.proofs.printer.Printer.+formula.Given as goal

-- the text so far, and the members that are left
abbrev pub invariant-factors-loop-factor : goal.invariant-factors-loop-factor
invariant-factors-loop-factor l = l.self.text.items ++ spaced_each (unit_behind atom_words formula_of) (drop l.factor-index l.others) ≡ l.initial.self.text.items ++ spaced_each (unit_behind atom_words formula_of) l.others

abbrev pub invariant-conjuncts-loop-conjunct : goal.invariant-conjuncts-loop-conjunct
invariant-conjuncts-loop-conjunct l = l.self.text.items ++ spaced_each (part_behind atom_words formula_of) (drop l.conjunct-index l.others) ≡ l.initial.self.text.items ++ spaced_each (part_behind atom_words formula_of) l.others
