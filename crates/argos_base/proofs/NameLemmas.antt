-- Tables of names.
use Rattle.std.proofs.Common.{◌≡◌, ℕ, ◌+◌, ◌<◌, List, [], ◌∷◌, ◌++◌, Bool, true, false, ◌||◌, Option, Some, None, length, refl, sym, ap, ◌∙◌, arith}
use Rattle.std.specs.Prelude.{bytes_eq, position, cond}
use Rattle.std.specs.List.{list_any, list_all, position_from}
use Rattle.std.specs.Cmp.Lexicographic.{nat_list_eq_equiv}
use Rattle.std.proofs.lemmas.Grind.{common_steps}
use Rattle.std.proofs.lemmas.List.Folds.{list_any-append, list_all-append}
use Rattle.std.proofs.lemmas.Iterator.Adapters.{position_from-zero}
use Rattle.std.proofs.lemmas.Slice.Eq.{bytes_eq-Decides}
use Rattle.argos_base.specs.Spelling.{is_one_of, is_name}
use Rattle.argos_base.specs.Names.{Spelled, AreDistinct, place_of, IsTable}
use Rattle.argos_base.proofs.Bools.{and_first, and_second, and_both, or_first_false, or_second_false, or_neither, not_false, false_not, is_false}

-- distinct names and one that is none of them are distinct
pub are_distinct-push : (names : List Spelled) (n : Spelled) → AreDistinct names → is_one_of names n ≡ false → AreDistinct (names ++ n ∷ [])
are_distinct-push [] n h e = refl
are_distinct-push (m ∷ names) n h e =
    let other : bytes_eq m n ≡ false = nat_list_eq_equiv.symm m n ∙ or_first_false _ _ e in
    let absent : is_one_of (names ++ n ∷ []) m ≡ false = list_any-append (bytes_eq m) names (n ∷ []) ∙ or_neither _ _ (not_false _ (and_first _ _ h)) (or_neither _ _ other refl) in
    and_both _ _ (false_not _ absent) (are_distinct-push names n (and_second _ _ h) (or_second_false _ _ e))

-- a table with one more name is a table
pub IsTable-push : (names : List Spelled) (n : Spelled) → IsTable names → length names < 16384 → is_name n ≡ true → is_one_of names n ≡ false → IsTable (names ++ n ∷ [])
IsTable-push names n h short spelled absent = record {
  distinct = are_distinct-push names n h.distinct absent;
  short = grind (arith, common_steps);
  spelled = list_all-append is_name names (n ∷ []) ∙ and_both (list_all is_name names) _ h.spelled (and_both (is_name n) true spelled refl);
}

cond_none : (b d : Bool) (i : ℕ) (rest : Option ℕ) → (b || d) ≡ false → rest ≡ None → cond b (Some i) rest ≡ None
cond_none true d i rest h k = cc
cond_none false d i rest h k = k

position_from_none : {A : Type 0} (p : A → Bool) (i : ℕ) (xs : List A) → list_any p xs ≡ false → position_from p i xs ≡ None
position_from_none p i [] h = refl
position_from_none p i (x ∷ xs) h = cond_none (p x) _ i _ h (position_from_none p (i + 1) xs (or_second_false (p x) _ h))

-- what no element passes has no first place
pub position-absent : {A : Type 0} (p : A → Bool) (xs : List A) → list_any p xs ≡ false → position p xs ≡ None
position-absent p xs h = position_from-zero p xs ∙ position_from_none p 0 xs h

-- a name differs from bytes that are none
differ : (bs m : List ℕ) → is_name m ≡ true → is_name bs ≡ false → bytes_eq bs m ≡ false
differ bs m h e = is_false (bytes_eq bs m) (λ t. let same : bs ≡ m = (bytes_eq-Decides bs m).0 t in let both_ways : true ≡ false = sym h ∙ ap is_name (sym same) ∙ e in cc)

-- the bytes are no name, so they aren't among names
unnamed : (names : List Spelled) (bs : List ℕ) → list_all is_name names ≡ true → is_name bs ≡ false → is_one_of names bs ≡ false
unnamed [] bs h e = refl
unnamed (m ∷ names) bs h e = or_neither (bytes_eq bs m) (is_one_of names bs) (differ bs m (and_first _ _ h) e) (unnamed names bs (and_second _ _ h) e)

pub place_of-unnamed : (names : List Spelled) (bs : List ℕ) → IsTable names → is_name bs ≡ false → place_of names bs ≡ None
place_of-unnamed names bs h e = position-absent (bytes_eq bs) names (unnamed names bs h.spelled e)

pub ruleset tables = (common_steps, IsTable-push, place_of-unnamed)
