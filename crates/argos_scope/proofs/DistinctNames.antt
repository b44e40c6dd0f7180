-- Lists of names that are distinct, and where a name stands in one.
use Rattle.std.proofs.Common.{◌≡◌, ℕ, ◌+◌, ◌<◌, List, [], ◌∷◌, ◌++◌, Bool, true, false, ◌&&◌, ◌||◌, not, Option, Some, None, length, refl, sym, ap, ◌∙◌, inl, inr}
use Rattle.std.specs.Prelude.{bytes_eq, is_some, cond}
use Rattle.std.specs.List.{list_any, position_from}
use Rattle.std.specs.Cmp.Lexicographic.{nat_list_eq_equiv}
use Rattle.std.proofs.lemmas.List.Folds.{list_any-append}
use Rattle.std.proofs.lemmas.List.Quantifiers.{position-Some}
use Rattle.std.proofs.lemmas.Iterator.Adapters.{position_from-zero}
use Rattle.argos_base.proofs.Bools.{and_first, and_second, or_cases, or_right, or_left}
use Rattle.argos_base.specs.Names.{Spelled, are_distinct, place_of}
use Rattle.argos_base.specs.Spelling.{is_one_of}

here_or_later : (b : Bool) (i : ℕ) (later : Option ℕ) (c : Bool) → is_some later ≡ c → is_some (cond b (Some i) later) ≡ (b || c)
here_or_later true i later c e = refl
here_or_later false i later c e = e

-- a name that stands in a list has a place there
pub position_from-any : (p : Spelled → Bool) (i : ℕ) (xs : List Spelled) → is_some (position_from p i xs) ≡ list_any p xs
position_from-any p i [] = refl
position_from-any p i (x ∷ xs) = here_or_later (p x) i (position_from p (i + 1) xs) (list_any p xs) (position_from-any p (i + 1) xs)

pub is_some-place_of : (names : List Spelled) (n : Spelled) → is_some (place_of names n) ≡ is_one_of names n
is_some-place_of names n = ap is_some (position_from-zero (bytes_eq n) names) ∙ position_from-any (bytes_eq n) 0 names

-- the same, the other way round
pub is_one_of-placed : (names : List Spelled) (n : Spelled) → is_one_of names n ≡ is_some (place_of names n)
is_one_of-placed names n = sym (is_some-place_of names n)

pub placed : (names : List Spelled) (n : Spelled) (k : ℕ) → place_of names n ≡ Some k → is_one_of names n ≡ true
placed names n k e = sym (is_some-place_of names n) ∙ ap is_some e

pub unplaced : (names : List Spelled) (n : Spelled) → place_of names n ≡ None → is_one_of names n ≡ false
unplaced names n e = sym (is_some-place_of names n) ∙ ap is_some e

pub placed_below : (names : List Spelled) (n : Spelled) (k : ℕ) → place_of names n ≡ Some k → k < length names
placed_below names n k e = (position-Some (bytes_eq n) names k n e).0

pub bytes_eq-sym : (a b : List ℕ) → bytes_eq a b ≡ bytes_eq b a
bytes_eq-sym a b = nat_list_eq_equiv.symm a b

and_first_false : (a b : Bool) → a ≡ false → (a && b) ≡ false
and_first_false true b h = cc
and_first_false false b h = refl

and_second_false : (a b : Bool) → b ≡ false → (a && b) ≡ false
and_second_false true b h = h
and_second_false false b h = refl

not_true : (a : Bool) → a ≡ true → not a ≡ false
not_true true h = refl
not_true false h = cc

-- names of which one stands twice aren't distinct
pub are_distinct-repeated : (a b : List Spelled) (n : Spelled) → is_one_of a n ≡ true → are_distinct (a ++ n ∷ b) ≡ false
are_distinct-repeated [] b n h = cc
are_distinct-repeated (m ∷ a) b n h = elim (or_cases (bytes_eq n m) (is_one_of a n) h) [
  | inl e ↦ and_first_false _ _ (not_true _ (list_any-append (bytes_eq m) a (n ∷ b) ∙ or_right (is_one_of a m) _ (or_left (bytes_eq m n) _ (bytes_eq-sym m n ∙ e))))
  | inr e ↦ and_second_false _ _ (are_distinct-repeated a b n e)
]

-- a test of one more name, before or after
pub swapped : (b d a c : Bool) → (not a && (d && not (b || c))) ≡ ((not b && d) && not (a || c))
swapped true d true c = refl
swapped true true false c = refl
swapped true false false c = refl
swapped false true true c = refl
swapped false false true c = refl
swapped false true false c = refl
swapped false false false c = refl

pub list_any-or : {A : Type 0} (p q : A → Bool) (xs : List A) → list_any (λ x. p x || q x) xs ≡ (list_any p xs || list_any q xs)
list_any-or p q [] = refl
list_any-or p q (x ∷ xs) = ap (λ b. (p x || q x) || b) (list_any-or p q xs) ∙ by (p x) (q x) (list_any p xs) (list_any q xs)
  where
    by : (a b c d : Bool) → ((a || b) || (c || d)) ≡ ((a || c) || (b || d))
    by true b c d = refl
    by false true true d = refl
    by false true false d = refl
    by false false c d = refl

pub list_any-same : {A : Type 0} (p q : A → Bool) (xs : List A) → ((x : A) → p x ≡ q x) → list_any p xs ≡ list_any q xs
list_any-same p q [] h = refl
list_any-same p q (x ∷ xs) h = ap (λ b. b || list_any p xs) (h x) ∙ ap (λ b. q x || b) (list_any-same p q xs h)

-- the names of b that m or a has
pub shared-cons : (m : Spelled) (a b : List Spelled) → list_any (is_one_of (m ∷ a)) b ≡ (is_one_of b m || list_any (is_one_of a) b)
shared-cons m a b = list_any-or (λ n. bytes_eq n m) (is_one_of a) b ∙ ap (λ c. c || list_any (is_one_of a) b) (list_any-same (λ n. bytes_eq n m) (bytes_eq m) b (λ n. bytes_eq-sym n m))

none_of_none : (b : List Spelled) → list_any (is_one_of []) b ≡ false
none_of_none [] = refl
none_of_none (x ∷ b) = none_of_none b

and_not_false : (d c : Bool) → c ≡ false → d ≡ (d && not c)
and_not_false true true h = cc
and_not_false true false h = refl
and_not_false false c h = refl

-- no name is shared with no names
pub apart_from_none : (d : Bool) (b : List Spelled) → d ≡ (d && not (list_any (is_one_of []) b))
apart_from_none d b = and_not_false d (list_any (is_one_of []) b) (none_of_none b)

joined : (p q r s t : Bool) → (not (p || q) && (r && (s && not t))) ≡ ((not p && r) && (s && not (q || t)))
joined true q r s t = refl
joined false true true true t = refl
joined false true true false t = refl
joined false true false s t = refl
joined false false true s t = refl
joined false false false s t = refl

-- two lists of distinct names, none of which is in both
pub are_distinct-append : (a b : List Spelled) → are_distinct (a ++ b) ≡ (are_distinct a && (are_distinct b && not (list_any (is_one_of a) b)))
are_distinct-append [] b = apart_from_none (are_distinct b) b
are_distinct-append (m ∷ a) b =
    ap (λ c. not c && are_distinct (a ++ b)) (list_any-append (bytes_eq m) a b)
    ∙ ap (λ d. not (is_one_of a m || is_one_of b m) && d) (are_distinct-append a b)
    ∙ joined (is_one_of a m) (is_one_of b m) (are_distinct a) (are_distinct b) (list_any (is_one_of a) b)
    ∙ ap (λ c. (not (is_one_of a m) && are_distinct a) && (are_distinct b && not c)) (sym (shared-cons m a b))

-- of distinct names the next one stands nowhere before
none_unless_some : (o : Option ℕ) → ((k : ℕ) → o ≡ Some k → true ≡ false) → o ≡ None
none_unless_some None h = refl
none_unless_some (Some k) h = let e : true ≡ false = h k refl in cc e

pub unplaced_before : (a b : List Spelled) (n : Spelled) → are_distinct (a ++ n ∷ b) ≡ true → place_of a n ≡ None
unplaced_before a b n d = none_unless_some (place_of a n) (λ k e. sym d ∙ are_distinct-repeated a b n (placed a n k e))

-- the names of one of two lists
pub distinct_first : (a b : List Spelled) → are_distinct (a ++ b) ≡ true → are_distinct a ≡ true
distinct_first a b d = and_first (are_distinct a) _ (sym (are_distinct-append a b) ∙ d)

pub distinct_second : (a b : List Spelled) → are_distinct (a ++ b) ≡ true → are_distinct b ≡ true
distinct_second a b d = and_first (are_distinct b) _ (and_second (are_distinct a) _ (sym (are_distinct-append a b) ∙ d))
