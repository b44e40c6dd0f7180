-- The words of the members of a guard, one after another.
use Rattle.std.proofs.Common.{◌≡◌, ℕ, ◌+◌, ◌<◌, List, [], ◌∷◌, ◌++◌, length, get_or, drop, map, refl, ap, ◌∙◌}
use Rattle.std.specs.Prelude.{flat_map}
use Rattle.std.proofs.lemmas.List.Folds.{flat_map-map}
use Rattle.argos_grammar.specs.Forms.{Formula, all, any}
use Rattle.argos_grammar.specs.Printed.{Words, w, name_words, formula_words, and_words, or_words, trans_words}
use Rattle.argos_printer.specs.Spaced.{spaced, unit_words, part_words}
use Rattle.argos_grammar.specs.Views.{guard_of, formulas_of, trans_of}
use Rattle.argos_grammar.specs.declared.trees.GuardTree.{GuardTree}
use Rattle.argos_grammar.specs.declared.trees.TransTree.{TransTree}
use Rattle.argos_printer.proofs.Spaced.{words, spaced-append, spaced_each, spaced_each-drop}

-- a member behind a word, by what its tree stands for
abbrev pub unit_behind : {X A : Type 0} → (A → Words) → (X → Formula A) → X → Words
unit_behind g view x = w "and" ++ unit_words g (view x)

abbrev pub part_behind : {X A : Type 0} → (A → Words) → (X → Formula A) → X → Words
part_behind g view x = w "or" ++ part_words g (view x)

pub and_words-each : {X A : Type 0} (g : A → Words) (view : X → Formula A) (xs : List X) → and_words g (formulas_of (map view xs)) ≡ flat_map (unit_behind g view) xs
and_words-each g view [] = refl
and_words-each g view (x ∷ xs) = ap (λ r. unit_behind g view x ++ r) (and_words-each g view xs)

pub or_words-each : {X A : Type 0} (g : A → Words) (view : X → Formula A) (xs : List X) → or_words g (formulas_of (map view xs)) ≡ flat_map (part_behind g view) xs
or_words-each g view [] = refl
or_words-each g view (x ∷ xs) = ap (λ r. part_behind g view x ++ r) (or_words-each g view xs)

-- the first member and the others
pub all_words-cons : {X A : Type 0} (g : A → Words) (view : X → Formula A) (xs : List X) (x : X) (more : List X) → xs ≡ x ∷ more
    → spaced (formula_words g (all (formulas_of (map view xs)))) ≡ spaced (unit_words g (view x)) ++ spaced_each (unit_behind g view) more
unfolding spaced_each
all_words-cons g view xs x more e =
    ap (λ y. spaced (formula_words g (all (formulas_of (map view y))))) e ∙ spaced-append (unit_words g (view x)) (and_words g (formulas_of (map view more))) ∙ ap (λ y. spaced (unit_words g (view x)) ++ spaced y) (and_words-each g view more)

pub any_words-cons : {X A : Type 0} (g : A → Words) (view : X → Formula A) (xs : List X) (x : X) (more : List X) → xs ≡ x ∷ more
    → spaced (formula_words g (any (formulas_of (map view xs)))) ≡ spaced (part_words g (view x)) ++ spaced_each (part_behind g view) more
unfolding spaced_each
any_words-cons g view xs x more e =
    ap (λ y. spaced (formula_words g (any (formulas_of (map view y))))) e ∙ spaced-append (part_words g (view x)) (or_words g (formulas_of (map view more))) ∙ ap (λ y. spaced (part_words g (view x)) ++ spaced y) (or_words-each g view more)

-- the next member of those that are left
pub units_drop : (gs : List GuardTree) (i : ℕ) (x : GuardTree) → i < length gs → (get_or gs i x ≡ get_or gs i x) × (spaced_each (unit_behind name_words guard_of) (drop i gs) ≡ spaced (w "and") ++ (spaced (unit_words name_words (guard_of (get_or gs i x))) ++ spaced_each (unit_behind name_words guard_of) (drop (i + 1) gs)))
units_drop gs i x h = (refl, spaced_each-drop (unit_behind name_words guard_of) gs i x h)

pub parts_drop : (gs : List GuardTree) (i : ℕ) (x : GuardTree) → i < length gs → (get_or gs i x ≡ get_or gs i x) × (spaced_each (part_behind name_words guard_of) (drop i gs) ≡ spaced (w "or") ++ (spaced (part_words name_words (guard_of (get_or gs i x))) ++ spaced_each (part_behind name_words guard_of) (drop (i + 1) gs)))
parts_drop gs i x h = (refl, spaced_each-drop (part_behind name_words guard_of) gs i x h)

pub ruleset guard_words = (words, all_words-cons, any_words-cons, units_drop, parts_drop)

-- transitions
abbrev pub trans_each : TransTree → Words
trans_each t = trans_words (trans_of t)

pub transitions_words : (ts : List TransTree) → spaced (flat_map trans_words (map trans_of ts)) ≡ spaced_each trans_each ts
unfolding spaced_each
transitions_words ts = ap spaced (flat_map-map trans_words trans_of ts)

pub transitions_drop : (ts : List TransTree) (i : ℕ) (x : TransTree) → i < length ts → (get_or ts i x ≡ get_or ts i x) × (spaced_each trans_each (drop i ts) ≡ spaced (trans_words (trans_of (get_or ts i x))) ++ spaced_each trans_each (drop (i + 1) ts))
transitions_drop ts i x h = (refl, spaced_each-drop trans_each ts i x h)

pub ruleset transition_words = (words, transitions_words, transitions_drop)
