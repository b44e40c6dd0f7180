-- A line that is a name, and whether it stood before.
use Rattle.std.proofs.Common.{◌≡◌, ℕ, ◌+◌, List, [], ◌∷◌, ◌++◌, Bool, true, false, cond, Option, Some, None, refl, sym, ap, ◌∙◌, inl, inr}
use Rattle.std.specs.Prelude.{bytes_eq, is_some, if◌then◌else◌}
use Rattle.std.specs.Option.{option_map}
use Rattle.std.specs.List.{list_any, position_from}
use Rattle.std.proofs.lemmas.List.Folds.{list_any-append}
use Rattle.std.proofs.lemmas.Iterator.Adapters.{position_from-zero}
use Rattle.argos_base.specs.Names.{Spelled, place_of}
use Rattle.argos_base.specs.Spelling.{is_name, is_one_of}
use Rattle.argos_base.proofs.Bools.{true_or_false, or_left, or_right, or_neither}
use Rattle.argos_base.proofs.NameLemmas.{position-absent}
use Rattle.line_format.proofs.Options.{only_if_true}
use Rattle.line_format.proofs.PlainBytes.{name_plain}
use Rattle.eqn_file.specs.EquationFile.{repeated_name, spaced}
use Rattle.eqn_file.specs.inner.Words.{split}
use Rattle.eqn_file.specs.inner.WordReading.{one_name}
use Rattle.eqn_file.specs.inner.Sections.{stood_before}
use Rattle.eqn_file.proofs.SpacedWords.{split_word, spaced_split}
use Rattle.eqn_file.proofs.EquationReader.{one_name_is}

pub name_spelt : (bs : List ℕ) → is_name bs ≡ true → one_name (split bs) ≡ Some bs
name_spelt bs h = ap one_name (split_word bs (name_plain bs h)) ∙ only_if_true (is_name bs) (Some bs) h

pub name_misspelt : (bs : List ℕ) → is_name bs ≡ false → one_name (split bs) ≡ None
name_misspelt bs h = by_reading (one_name (split bs)) refl
  where
    by_reading : (o : Option Spelled) → one_name (split bs) ≡ o → o ≡ None
    by_reading None e = refl
    by_reading (Some w) e =
        let p = one_name_is (split bs) w e in
        let same : bs ≡ w = sym (spaced_split bs) ∙ ap spaced p.0 in
        let no : true ≡ false = sym p.1 ∙ ap is_name (sym same) ∙ h in
        cc no

-- places
not_any : {A : Type 0} (p : A → Bool) (i : ℕ) (xs : List A) → position_from p i xs ≡ None → list_any p xs ≡ false
not_any p i [] h = refl
not_any p i (x ∷ xs) h = by_test (p x) refl h (not_any p (i + 1) xs)
  where
    by_test : (t : Bool) → p x ≡ t → cond t (Some i) (position_from p (i + 1) xs) ≡ None → (position_from p (i + 1) xs ≡ None → list_any p xs ≡ false) → list_any p (x ∷ xs) ≡ false
    by_test true e k rest = cc k
    by_test false e k rest = or_neither (p x) (list_any p xs) e (rest k)

pub unplaced : (names : List Spelled) (bs : List ℕ) → place_of names bs ≡ None → is_one_of names bs ≡ false
unplaced names bs h = not_any (bytes_eq bs) 0 names (sym (position_from-zero (bytes_eq bs) names) ∙ h)

pub placed : (names : List Spelled) (bs : List ℕ) (k : ℕ) → place_of names bs ≡ Some k → is_one_of names bs ≡ true
placed names bs k h = elim (true_or_false (is_one_of names bs)) [
  | inl y ↦ y
  | inr n ↦ let no : Some k ≡ None = sym h ∙ position-absent (bytes_eq bs) names n in cc no
]

pub found : {T : Type 0} (f : T → ℕ) (r : Option T) (names : List Spelled) (bs : List ℕ) → option_map f r ≡ place_of names bs → is_some r ≡ true → is_one_of names bs ≡ true
found f None names bs e h = cc h
found f (Some x) names bs e h = placed names bs (f x) (sym e)

pub absent : {T : Type 0} (f : T → ℕ) (r : Option T) (names : List Spelled) (bs : List ℕ) → option_map f r ≡ place_of names bs → is_some r ≡ false → is_one_of names bs ≡ false
absent f None names bs e h = unplaced names bs (sym e)
absent f (Some x) names bs e h = cc h

repeats : (t : Bool) → t ≡ true → (if t then Some repeated_name else None) ≡ Some repeated_name
repeats t h = ap (λ b. if b then Some repeated_name else None) h

pub stood_in_before : (before xs : List Spelled) (a : Spelled) → is_one_of before a ≡ true → stood_before before xs a ≡ Some repeated_name
stood_in_before before xs a h = repeats (is_one_of (before ++ xs) a) (list_any-append (bytes_eq a) before xs ∙ or_left (is_one_of before a) (is_one_of xs a) h)

pub stood_among : (before xs : List Spelled) (a : Spelled) → is_one_of xs a ≡ true → stood_before before xs a ≡ Some repeated_name
stood_among before xs a h = repeats (is_one_of (before ++ xs) a) (list_any-append (bytes_eq a) before xs ∙ or_right (is_one_of before a) (is_one_of xs a) h)

pub is_new : (before xs : List Spelled) (a : Spelled) → is_one_of before a ≡ false → is_one_of xs a ≡ false → stood_before before xs a ≡ None
is_new before xs a h k = ap (λ b. if b then Some repeated_name else None) (list_any-append (bytes_eq a) before xs ∙ or_neither (is_one_of before a) (is_one_of xs a) h k)
