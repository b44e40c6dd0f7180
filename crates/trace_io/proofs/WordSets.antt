-- The set that words name, word by word.
use Rattle.std.proofs.Common.{◌≡◌, ℕ, suc, ◌+◌, ◌<◌, List, [], ◌∷◌, ◌++◌, Bool, true, false, ◌||◌, Option, Some, None, cond, length, set, refl, sym, ap, ◌∙◌, inl, inr, arith}
use Rattle.std.specs.Prelude.{bytes_eq}
use Rattle.std.specs.List.{position_from}
use Rattle.std.specs.Cmp.Lexicographic.{nat_list_eq_equiv}
use Rattle.std.proofs.lemmas.Grind.{common_steps}
use Rattle.std.proofs.lemmas.List.Folds.{list_any-append}
use Rattle.std.proofs.lemmas.Iterator.Adapters.{position_from-zero}
use Rattle.std.proofs.lemmas.Slice.Eq.{bytes_eq-Decides}
use Rattle.argos_base.proofs.Bools.{and_first, and_second, or_first_false, or_second_false, or_neither, or_left, or_right, not_false, true_or_false}
use Rattle.argos_base.specs.Names.{Spelled, are_distinct, place_of}
use Rattle.argos_base.specs.SignalSets.{SignalSet, has, empty}
use Rattle.argos_base.specs.Spelling.{is_one_of}
use Rattle.trace_io.specs.Lines.{set_of}

-- the set of no word is empty
pub set_of-none : (names : List Spelled) → empty (length names) ≡ set_of names []
set_of-none [] = refl
set_of-none (n ∷ names) = ap (λ (s : List Bool). false ∷ s) (set_of-none names)

pub length-set_of : (names : List Spelled) (words : List (List ℕ)) → length (set_of names words) ≡ length names
length-set_of [] words = refl
length-set_of (n ∷ names) words = ap suc (length-set_of names words)

symmetric : (a b : List ℕ) → bytes_eq a b ≡ bytes_eq b a
symmetric a b = nat_list_eq_equiv.symm a b

same_bytes : (a b : List ℕ) → bytes_eq a b ≡ true → a ≡ b
same_bytes a b t = (bytes_eq-Decides a b).0 t

is_one_of-push : (seen : List (List ℕ)) (word m : List ℕ) → is_one_of (seen ++ word ∷ []) m ≡ (is_one_of seen m || (bytes_eq m word || false))
is_one_of-push seen word m = list_any-append (bytes_eq m) seen (word ∷ [])

or_none : (a : Bool) → (a || false) ≡ a
or_none true = refl
or_none false = refl

-- a word that is no name adds nothing
unnamed_adds : (names : List Spelled) (seen : List (List ℕ)) (word : List ℕ) → is_one_of names word ≡ false → set_of names (seen ++ word ∷ []) ≡ set_of names seen
unnamed_adds [] seen word h = refl
unnamed_adds (n ∷ names) seen word h =
    let other : bytes_eq n word ≡ false = symmetric n word ∙ or_first_false _ _ h in
    let head : is_one_of (seen ++ word ∷ []) n ≡ is_one_of seen n = is_one_of-push seen word n ∙ ap (λ b. is_one_of seen n || (b || false)) other ∙ or_none (is_one_of seen n) in
    ap (λ (b : Bool). b ∷ set_of names (seen ++ word ∷ [])) head ∙ ap (λ (s : List Bool). is_one_of seen n ∷ s) (unnamed_adds names seen word (or_second_false (bytes_eq word n) _ h))

found_first : (b : Bool) (i k : ℕ) (rest : Option ℕ) → b ≡ true → cond b (Some i) rest ≡ Some k → i ≡ k
found_first true i k rest t h = cc
found_first false i k rest t h = cc

found_later : (b : Bool) (i k : ℕ) (rest : Option ℕ) → b ≡ false → cond b (Some i) rest ≡ Some k → rest ≡ Some k
found_later true i k rest t h = cc
found_later false i k rest t h = h

-- what is known of the place of a word among names from number i on
pub record Stands (names : List Spelled) (word : List ℕ) (i k : ℕ) : Type 0 where
  pub from : ℕ
  pub place : k ≡ i + from
  pub below : from < length names
  pub among : is_one_of names word ≡ true
  pub adds : (seen : List (List ℕ)) → are_distinct names ≡ true → set (set_of names seen) from true ≡ set_of names (seen ++ word ∷ [])
  pub has_it : (seen : List (List ℕ)) → has (set_of names seen) from ≡ is_one_of seen word

stands_here : (names : List Spelled) (n word : List ℕ) (i k : ℕ) → bytes_eq word n ≡ true → i ≡ k → Stands (n ∷ names) word i k
stands_here names n word i k t e = let same : word ≡ n = same_bytes word n t in record {
  from = 0;
  place = omega arith;
  below = omega arith;
  among = or_left (bytes_eq word n) _ t;
  adds = λ seen distinct.
      let first : is_one_of (seen ++ word ∷ []) n ≡ true = is_one_of-push seen word n ∙ or_right (is_one_of seen n) _ (or_left (bytes_eq n word) false (symmetric n word ∙ t)) in
      let absent : is_one_of names word ≡ false = ap (is_one_of names) same ∙ not_false _ (and_first _ _ distinct) in
      ap (λ (s : List Bool). true ∷ s) (sym (unnamed_adds names seen word absent)) ∙ ap (λ (b : Bool). b ∷ set_of names (seen ++ word ∷ [])) (sym first);
  has_it = λ seen. ap (is_one_of seen) (sym same);
}

stands_later : (names : List Spelled) (n word : List ℕ) (i k : ℕ) → bytes_eq word n ≡ false → Stands names word (i + 1) k → Stands (n ∷ names) word i k
stands_later names n word i k f s = record {
  from = suc s.from;
  place = let p = s.place in omega arith;
  below = let b = s.below in omega arith;
  among = or_right (bytes_eq word n) _ s.among;
  adds = λ seen distinct.
      let head : is_one_of (seen ++ word ∷ []) n ≡ is_one_of seen n = is_one_of-push seen word n ∙ ap (λ b. is_one_of seen n || (b || false)) (symmetric n word ∙ f) ∙ or_none (is_one_of seen n) in
      ap (λ (t : List Bool). is_one_of seen n ∷ t) (s.adds seen (and_second _ _ distinct)) ∙ ap (λ (b : Bool). b ∷ set_of names (seen ++ word ∷ [])) (sym head);
  has_it = s.has_it;
}

stands_from : (names : List Spelled) (word : List ℕ) (i k : ℕ) → position_from (bytes_eq word) i names ≡ Some k → Stands names word i k
stands_from [] word i k h = cc
stands_from (n ∷ names) word i k h = elim (true_or_false (bytes_eq word n)) [
  | inl t ↦ stands_here names n word i k t (found_first (bytes_eq word n) i k _ t h)
  | inr f ↦ stands_later names n word i k f (stands_from names word (i + 1) k (found_later (bytes_eq word n) i k _ f h))
]

-- the word stands at place k among the names
pub stands : (names : List Spelled) (word : List ℕ) (k : ℕ) → place_of names word ≡ Some k → Stands names word 0 k
stands names word k h = stands_from names word 0 k (sym (position_from-zero (bytes_eq word) names) ∙ h)

absent_from : (names : List Spelled) (word : List ℕ) (i : ℕ) → position_from (bytes_eq word) i names ≡ None → is_one_of names word ≡ false
absent_from [] word i h = refl
absent_from (n ∷ names) word i h = elim (true_or_false (bytes_eq word n)) [
  | inl t ↦ not_found (bytes_eq word n) i _ t h
  | inr f ↦ or_neither (bytes_eq word n) _ f (absent_from names word (i + 1) (found_none (bytes_eq word n) i _ f h))
]
  where
    not_found : {A : Type 0} (b : Bool) (i : ℕ) (rest : Option ℕ) → b ≡ true → cond b (Some i) rest ≡ None → A
    not_found true i rest t h = cc
    not_found false i rest t h = cc

    found_none : (b : Bool) (i : ℕ) (rest : Option ℕ) → b ≡ false → cond b (Some i) rest ≡ None → rest ≡ None
    found_none true i rest t h = cc
    found_none false i rest t h = h

pub absent : (names : List Spelled) (word : List ℕ) → place_of names word ≡ None → is_one_of names word ≡ false
absent names word h = absent_from names word 0 (sym (position_from-zero (bytes_eq word) names) ∙ h)

-- a set from which all was taken
pub cleared : (names : List Spelled) (n : ℕ) (s : SignalSet) → s ≡ empty n → n ≡ length names → s ≡ set_of names []
cleared names n s h e = h ∙ ap empty e ∙ set_of-none names

-- a name of the table joins the set
pub joins : (names : List Spelled) (seen : List (List ℕ)) (word : List ℕ) (old new : SignalSet) (k : ℕ) → are_distinct names ≡ true → place_of names word ≡ Some k → old ≡ set_of names seen → new ≡ set old k true → new ≡ set_of names (seen ++ word ∷ [])
joins names seen word old new k distinct at is put =
    let s = stands names word k at in
    let place : s.from ≡ k = let p = s.place in omega arith in
    put ∙ ap (λ v. set v k true) is ∙ ap (λ j. set (set_of names seen) j true) (sym place) ∙ s.adds seen distinct

-- a word that is no name of it doesn't
pub stays : (names : List Spelled) (seen : List (List ℕ)) (word : List ℕ) (old : SignalSet) → place_of names word ≡ None → old ≡ set_of names seen → old ≡ set_of names (seen ++ word ∷ [])
stays names seen word old h is = is ∙ sym (unnamed_adds names seen word (absent names word h))

-- whether it is one of them
pub is_known : (names : List Spelled) (word : List ℕ) (k : ℕ) → place_of names word ≡ Some k → is_one_of names word ≡ true
is_known names word k h = (stands names word k h).among

pub is_unknown : (names : List Spelled) (word : List ℕ) → place_of names word ≡ None → is_one_of names word ≡ false
is_unknown = absent

pub ruleset sets = (common_steps, cleared, joins, stays, is_known, is_unknown, length-set_of)
