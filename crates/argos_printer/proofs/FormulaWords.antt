-- The words of the members of a certificate's formula, one after another.
use Rattle.std.proofs.Common.{◌≡◌, ℕ, ◌+◌, ◌<◌, List, ◌++◌, length, get_or, drop, refl}
use Rattle.argos_grammar.specs.Printed.{w, atom_words}
use Rattle.argos_printer.specs.Spaced.{spaced, unit_words, part_words}
use Rattle.argos_grammar.specs.Views.{formula_of}
use Rattle.argos_grammar.specs.declared.trees.CertNode.{CertNode}
use Rattle.argos_printer.proofs.Spaced.{words, spaced_each, spaced_each-drop}
use Rattle.argos_grammar.proofs.FormulaViews.{formula_of-InState, formula_of-Inactive, formula_of-SameCode, formula_of-Not}
use Rattle.argos_printer.proofs.GuardWords.{unit_behind, part_behind, all_words-cons, any_words-cons}

-- the next member of those that are left
pub factors_drop : (fs : List CertNode) (i : ℕ) (x : CertNode) → i < length fs → (get_or fs i x ≡ get_or fs i x) × (spaced_each (unit_behind atom_words formula_of) (drop i fs) ≡ spaced (w "and") ++ (spaced (unit_words atom_words (formula_of (get_or fs i x))) ++ spaced_each (unit_behind atom_words formula_of) (drop (i + 1) fs)))
factors_drop fs i x h = (refl, spaced_each-drop (unit_behind atom_words formula_of) fs i x h)

pub conjuncts_drop : (fs : List CertNode) (i : ℕ) (x : CertNode) → i < length fs → (get_or fs i x ≡ get_or fs i x) × (spaced_each (part_behind atom_words formula_of) (drop i fs) ≡ spaced (w "or") ++ (spaced (part_words atom_words (formula_of (get_or fs i x))) ++ spaced_each (part_behind atom_words formula_of) (drop (i + 1) fs)))
conjuncts_drop fs i x h = (refl, spaced_each-drop (part_behind atom_words formula_of) fs i x h)

pub ruleset formula_list = (words, all_words-cons, any_words-cons, factors_drop, conjuncts_drop, formula_of-InState, formula_of-Inactive, formula_of-SameCode, formula_of-Not)
