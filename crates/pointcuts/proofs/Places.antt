-- Places of names in lists, and names that are told.
use Rattle.std.proofs.Common.{◌≡◌, ℕ, zero, suc, ◌+◌, ◌<◌, List, [], ◌∷◌, ◌++◌, Bool, true, false, ◌||◌, Option, Some, None, cond, length, map, get_or, slice_get, slice_set, refl, sym, ap, ◌∙◌, inl, inr, arith}
use Rattle.std.specs.Prelude.{bytes_eq}
use Rattle.std.specs.List.{list_any, position_from}
use Rattle.std.proofs.lemmas.Iterator.Adapters.{position_from-zero}
use Rattle.std.proofs.lemmas.List.Folds.{list_any-append}
use Rattle.std.proofs.lemmas.List.Quantifiers.{position-Some}
use Rattle.std.proofs.lemmas.Option.{slice_get-get_or}
use Rattle.std.proofs.lemmas.Slice.Eq.{bytes_eq-Decides}
use Rattle.argos_base.specs.Names.{Spelled, AreDistinct, place_of}
use Rattle.argos_base.specs.Spelling.{is_one_of}
use Rattle.argos_base.proofs.Bools.{and_first, and_second, or_first_false, or_second_false, or_neither, or_left, or_right, and_both, not_false, false_not, true_or_false}
use Rattle.argos_base.proofs.NameLemmas.{position-absent}

pub same_bytes : (a b : List ℕ) → bytes_eq a b ≡ true → a ≡ b
same_bytes a b = (bytes_eq-Decides a b).0

pub bytes_same : (a b : List ℕ) → a ≡ b → bytes_eq a b ≡ true
bytes_same a b = (bytes_eq-Decides a b).1

-- what has a place stands there, and is one of the names; what has none isn't
pub stands : (names : List Spelled) (name : Spelled) (k : ℕ) → place_of names name ≡ Some k → slice_get names k ≡ Some name
stands names name k h =
    let p = position-Some (bytes_eq name) names k [] h in
    slice_get-get_or names k [] p.0 ∙ ap Some (sym (same_bytes name (get_or names k []) p.1))

pub placed : (names : List Spelled) (name : Spelled) (k : ℕ) → place_of names name ≡ Some k → is_one_of names name ≡ true
placed names name k h = elim (true_or_false (is_one_of names name)) [
  | inl y ↦ y
  | inr n ↦ let no : Some k ≡ None = sym h ∙ position-absent (bytes_eq name) names n in cc no
]

not_any : {A : Type 0} (p : A → Bool) (i : ℕ) (xs : List A) → position_from p i xs ≡ None → list_any p xs ≡ false
not_any p i [] h = refl
not_any p i (x ∷ xs) h = by_test (p x) refl h (not_any p (i + 1) xs)
  where
    by_test : (t : Bool) → p x ≡ t → cond t (Some i) (position_from p (i + 1) xs) ≡ None → (position_from p (i + 1) xs ≡ None → list_any p xs ≡ false) → list_any p (x ∷ xs) ≡ false
    by_test true e k rest = cc k
    by_test false e k rest = or_neither (p x) (list_any p xs) e (rest k)

pub unplaced : (names : List Spelled) (name : Spelled) → place_of names name ≡ None → is_one_of names name ≡ false
unplaced names name h = not_any (bytes_eq name) 0 names (sym (position_from-zero (bytes_eq name) names) ∙ h)

pub one_at : (names : List Spelled) (name : Spelled) (k : ℕ) → slice_get names k ≡ Some name → is_one_of names name ≡ true
one_at [] name k h = cc h
one_at (x ∷ xs) name zero h = let e : x ≡ name = cc h in or_left (bytes_eq name x) (is_one_of xs name) (bytes_same name x (sym e))
one_at (x ∷ xs) name (suc k) h = or_right (bytes_eq name x) (is_one_of xs name) (one_at xs name k h)

-- distinct names stand at one place
pub one_place : (names : List Spelled) (name : Spelled) (j k : ℕ) → AreDistinct names → slice_get names j ≡ Some name → slice_get names k ≡ Some name → j ≡ k
one_place [] name j k d h e = cc h
one_place (x ∷ xs) name zero zero d h e = refl
one_place (x ∷ xs) name zero (suc k) d h e =
    let same : x ≡ name = cc h in
    let both : true ≡ false = sym (one_at xs name k e) ∙ ap (is_one_of xs) (sym same) ∙ not_false _ (and_first _ _ d) in
    cc both
one_place (x ∷ xs) name (suc j) zero d h e =
    let same : x ≡ name = cc e in
    let both : true ≡ false = sym (one_at xs name j h) ∙ ap (is_one_of xs) (sym same) ∙ not_false _ (and_first _ _ d) in
    cc both
one_place (x ∷ xs) name (suc j) (suc k) d h e = ap suc (one_place xs name j k (and_second _ _ d) h e)

-- of names without one that stands twice, the first ones and the others
absent_first : (xs ys : List Spelled) (name : Spelled) → is_one_of (xs ++ ys) name ≡ false → is_one_of xs name ≡ false
absent_first [] ys name h = refl
absent_first (x ∷ xs) ys name h = or_neither (bytes_eq name x) (is_one_of xs name) (or_first_false _ _ h) (absent_first xs ys name (or_second_false (bytes_eq name x) _ h))

absent_second : (xs ys : List Spelled) (name : Spelled) → is_one_of (xs ++ ys) name ≡ false → is_one_of ys name ≡ false
absent_second [] ys name h = h
absent_second (x ∷ xs) ys name h = absent_second xs ys name (or_second_false (bytes_eq name x) _ h)

pub distinct_first : (xs ys : List Spelled) → AreDistinct (xs ++ ys) → AreDistinct xs
distinct_first [] ys h = refl
distinct_first (x ∷ xs) ys h = and_both _ _ (false_not _ (absent_first xs ys x (not_false _ (and_first _ _ h)))) (distinct_first xs ys (and_second _ _ h))

pub distinct_second : (xs ys : List Spelled) → AreDistinct (xs ++ ys) → AreDistinct ys
distinct_second [] ys h = h
distinct_second (x ∷ xs) ys h = distinct_second xs ys (and_second _ _ h)

pub not_in_both : (xs ys : List Spelled) (name : Spelled) (j k : ℕ) → AreDistinct (xs ++ ys) → slice_get xs j ≡ Some name → slice_get ys k ≡ Some name → ⊥
not_in_both [] ys name j k d h e = cc h
not_in_both (x ∷ xs) ys name zero k d h e =
    let same : x ≡ name = cc h in
    let both : true ≡ false = sym (one_at ys name k e) ∙ ap (is_one_of ys) (sym same) ∙ absent_second xs ys x (not_false _ (and_first _ _ d)) in
    cc both
not_in_both (x ∷ xs) ys name (suc j) k d h e = not_in_both xs ys name j k (and_second _ _ d) h e
