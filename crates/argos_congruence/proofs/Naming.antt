-- Sets of signals by name.
use Rattle.std.proofs.Common.{◌≡◌, ℕ, zero, suc, ◌+◌, ◌<◌, List, [], ◌∷◌, Bool, true, false, Option, Some}
use Rattle.std.proofs.Common.{None, length, map, get_or, slice_get, refl, sym, ap, subst, ◌∙◌, ◌⊎◌, inl, inr, arith}
use Rattle.std.specs.Prelude.{bytes_eq, cond}
use Rattle.std.specs.List.{position_from}
use Rattle.std.specs.Cmp.Lexicographic.{nat_list_eq_equiv}
use Rattle.std.proofs.lemmas.Iterator.Adapters.{position_from-zero}
use Rattle.std.proofs.lemmas.List.{length-map}
use Rattle.std.proofs.lemmas.Option.{slice_get-get_or, slice_get_within}
use Rattle.std.proofs.lemmas.Slice.Eq.{bytes_eq-Decides}
use Rattle.argos_base.specs.Names.{Spelled, AreDistinct, place_of}
use Rattle.argos_base.specs.SignalSets.{SignalSet, has}
use Rattle.argos_base.specs.Spelling.{is_one_of}
use Rattle.argos_base.proofs.Bools.{and_first, and_second, or_first_false, or_second_false, or_left, or_right, or_cases, not_false, true_or_false}
use Rattle.argos_base.proofs.SetLemmas.{same_set}
use Rattle.argos_congruence.specs.NamedSets.{has_at, has_name, AreSameByName, moved_set, number_or_zero, moved_number}

-- a name of a list is one of its names
pub is_listed : (names : List Spelled) (k : ℕ) (name : Spelled) → slice_get names k ≡ Some name → is_one_of names name ≡ true
is_listed [] k name h = cc
is_listed (n ∷ names) zero name h = let e : name ≡ n = cc in or_left (bytes_eq name n) _ ((bytes_eq-Decides name n).1 e)
is_listed (n ∷ names) (suc k) name h = or_right (bytes_eq name n) _ (is_listed names k name h)

-- what is none of the names stands nowhere
not_listed : (names : List Spelled) (k : ℕ) (n name : Spelled) → is_one_of names n ≡ false → slice_get names k ≡ Some name → bytes_eq name n ≡ false
not_listed [] k n name h e = cc
not_listed (m ∷ names) zero n name h e = let s : m ≡ name = cc in nat_list_eq_equiv.symm name n ∙ sym (ap (bytes_eq n) s) ∙ or_first_false (bytes_eq n m) _ h
not_listed (m ∷ names) (suc k) n name h e = not_listed names k n name (or_second_false (bytes_eq n m) _ h) e

cond_true : (b : Bool) (x y : Option ℕ) → b ≡ true → cond b x y ≡ x
cond_true true x y h = refl
cond_true false x y h = cc

cond_false : (b : Bool) (x y : Option ℕ) → b ≡ false → cond b x y ≡ y
cond_false true x y h = cc
cond_false false x y h = refl

-- a name of a list of distinct names is found where it stands
found_from : (names : List Spelled) (k i : ℕ) (name : Spelled) → AreDistinct names → slice_get names k ≡ Some name
    → position_from (bytes_eq name) i names ≡ Some (i + k)
found_from [] k i name d h = cc
found_from (n ∷ names) zero i name d h =
    let e : name ≡ n = cc in
    let z : i + 0 ≡ i = omega arith in
    cond_true (bytes_eq name n) (Some i) _ ((bytes_eq-Decides name n).1 e) ∙ ap (λ (x : ℕ). let o : Option ℕ = Some x in o) (sym z)
found_from (n ∷ names) (suc k) i name d h =
    let other : bytes_eq name n ≡ false = not_listed names k n name (not_false _ (and_first _ _ d)) h in
    let z : (i + 1) + k ≡ i + suc k = omega arith in
    cond_false (bytes_eq name n) (Some i) _ other ∙ found_from names k (i + 1) name (and_second _ _ d) h ∙ ap (λ (x : ℕ). let o : Option ℕ = Some x in o) z

pub place_found : (names : List Spelled) (k : ℕ) (name : Spelled) → AreDistinct names → slice_get names k ≡ Some name → place_of names name ≡ Some k
place_found names k name d h =
    let z : 0 + k ≡ k = omega arith in
    position_from-zero (bytes_eq name) names ∙ found_from names k 0 name d h ∙ ap (λ (x : ℕ). let o : Option ℕ = Some x in o) z

-- one of the names is found at a place where it stands
pub record Stands (names : List Spelled) (name : Spelled) : Type 0 where
  pub place : ℕ
  pub at : slice_get names place ≡ Some name
  pub found : place_of names name ≡ Some place

record StandsFrom (names : List Spelled) (name : Spelled) (i : ℕ) : Type 0 where
  place : ℕ
  at : slice_get names place ≡ Some name
  found : position_from (bytes_eq name) i names ≡ Some (i + place)

stands_from : (names : List Spelled) (name : Spelled) (i : ℕ) → is_one_of names name ≡ true → StandsFrom names name i
stands_from [] name i h = cc
stands_from (n ∷ names) name i h = elim (true_or_false (bytes_eq name n)) [
  | inl t ↦
      let e : name ≡ n = (bytes_eq-Decides name n).0 t in
      let z : i + 0 ≡ i = omega arith in
      record {
        place = 0;
        at = ap (λ (x : Spelled). let o : Option Spelled = Some x in o) (sym e);
        found = cond_true (bytes_eq name n) (Some i) _ t ∙ ap (λ (x : ℕ). let o : Option ℕ = Some x in o) (sym z);
      }
  | inr f ↦
      let more : is_one_of names name ≡ true = elim (or_cases (bytes_eq name n) (is_one_of names name) h) [ inl t ↦ cc (t, f) | inr r ↦ r ] in
      let rest : StandsFrom names name (i + 1) = stands_from names name (i + 1) more in
      let z : (i + 1) + rest.place ≡ i + suc rest.place = omega arith in
      record {
        place = suc rest.place;
        at = rest.at;
        found = cond_false (bytes_eq name n) (Some i) _ f ∙ rest.found ∙ ap (λ (x : ℕ). let o : Option ℕ = Some x in o) z;
      }
]

pub stands : (names : List Spelled) (name : Spelled) → is_one_of names name ≡ true → Stands names name
stands names name h =
    let s : StandsFrom names name 0 = stands_from names name 0 h in
    let z : 0 + s.place ≡ s.place = omega arith in
    record { place = s.place; at = s.at; found = position_from-zero (bytes_eq name) names ∙ s.found ∙ ap (λ (x : ℕ). let o : Option ℕ = Some x in o) z }

absent_from : (names : List Spelled) (name : Spelled) (i : ℕ) → is_one_of names name ≡ false → position_from (bytes_eq name) i names ≡ None
absent_from [] name i h = refl
absent_from (n ∷ names) name i h =
    cond_false (bytes_eq name n) (Some i) _ (or_first_false (bytes_eq name n) _ h) ∙ absent_from names name (i + 1) (or_second_false (bytes_eq name n) _ h)

pub place_absent : (names : List Spelled) (name : Spelled) → is_one_of names name ≡ false → place_of names name ≡ None
place_absent names name h = position_from-zero (bytes_eq name) names ∙ absent_from names name 0 h

-- by name a set has what it has at the name's place
pub has_name-at : (names : List Spelled) (v : SignalSet) (k : ℕ) (name : Spelled) → AreDistinct names → slice_get names k ≡ Some name
    → has_name names v name ≡ has v k
has_name-at names v k name d h = ap (has_at v) (place_found names k name d h)

pub has_name-absent : (names : List Spelled) (v : SignalSet) (name : Spelled) → is_one_of names name ≡ false → has_name names v name ≡ false
has_name-absent names v name h = ap (has_at v) (place_absent names name h)

has_map : (f : Spelled → Bool) (names : List Spelled) (k : ℕ) (name : Spelled) → slice_get names k ≡ Some name → has (map f names) k ≡ f name
has_map f [] k name h = cc
has_map f (n ∷ names) zero name h = let e : n ≡ name = cc in ap f e
has_map f (n ∷ names) (suc k) name h = has_map f names k name h

-- each of the names is one of the others
abbrev pub AreAmong : List Spelled → List Spelled → Type 0
AreAmong from to = (name : Spelled) → is_one_of from name ≡ true → is_one_of to name ≡ true

among_false : (from to : List Spelled) (name : Spelled) → AreAmong from to → is_one_of to name ≡ false → is_one_of from name ≡ false
among_false from to name h f = elim (true_or_false (is_one_of from name)) [ inl t ↦ let u = h name t in cc (u, f) | inr g ↦ g ]

-- a moved set is the same by name
pub moved_is_same : (from to : List Spelled) (v : SignalSet) → AreAmong from to → AreSameByName from to v (moved_set from to v)
moved_is_same from to v h name = elim (true_or_false (is_one_of to name)) [
  | inl t ↦ let s = stands to name t in sym (ap (has_at (moved_set from to v)) s.found ∙ has_map (has_name from v) to s.place name s.at)
  | inr f ↦ has_name-absent from v name (among_false from to name h f) ∙ sym (has_name-absent to (moved_set from to v) name f)
]

-- and no other set over the other names is
pub same_is_moved : (from to : List Spelled) (v w : SignalSet) → AreDistinct to → length w ≡ length to → AreSameByName from to v w → w ≡ moved_set from to v
same_is_moved from to v w d sized h = same_set w (moved_set from to v) (sized ∙ sym (length-map to (has_name from v))) (λ k below.
    let there : slice_get to k ≡ Some (get_or to k []) = slice_get-get_or to k [] (omega arith) in
    sym (has_name-at to w k (get_or to k []) d there) ∙ sym (h (get_or to k [])) ∙ sym (has_map (has_name from v) to k (get_or to k []) there))

-- a number and the moved number name the same signal
pub moved_number-same : (from to : List Spelled) (v w : SignalSet) (k : ℕ) → AreDistinct from → AreAmong from to → AreSameByName from to v w → k < length from
    → has w (moved_number from to k) ≡ has v k
moved_number-same from to v w k d among h below =
    let name = get_or from k [] in
    let there : slice_get from k ≡ Some name = slice_get-get_or from k [] below in
    let s : Stands to name = stands to name (among name (is_listed from k name there)) in
    ap (λ (o : Option ℕ). has w (number_or_zero o)) s.found ∙ sym (ap (has_at w) s.found) ∙ sym (h name) ∙ has_name-at from v k name d there

-- the moved number is a number of the other list
pub moved_number-below : (from to : List Spelled) (k : ℕ) → AreAmong from to → k < length from → moved_number from to k < length to
moved_number-below from to k among below =
    let name = get_or from k [] in
    let there : slice_get from k ≡ Some name = slice_get-get_or from k [] below in
    let s : Stands to name = stands to name (among name (is_listed from k name there)) in
    let within : s.place < length to = slice_get_within to s.place name s.at in
    let e : moved_number from to k ≡ s.place = ap number_or_zero s.found in
    omega arith

-- where a name is found it stands
pub place_stands : (names : List Spelled) (k : ℕ) (name : Spelled) → place_of names name ≡ Some k → slice_get names k ≡ Some name
place_stands names k name h = by_test (true_or_false (is_one_of names name))
  where
    by_test : (is_one_of names name ≡ true) ⊎ (is_one_of names name ≡ false) → slice_get names k ≡ Some name
    by_test (inl t) =
        let s : Stands names name = stands names name t in
        let e : Some s.place ≡ Some k = sym s.found ∙ h in
        let same : s.place ≡ k = cc (e) in
        subst (λ (n : ℕ). slice_get names n ≡ Some name) same s.at
    by_test (inr f) = let z : None ≡ Some k = sym (place_absent names name f) ∙ h in cc (z)
