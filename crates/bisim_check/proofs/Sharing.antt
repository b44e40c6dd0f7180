-- Which names two interfaces share, and the first one that they don't.
use Rattle.std.proofs.Common.{◌≡◌, ◌≤◌, length, ℕ, zero, suc, ◌<◌, List, [], ◌∷◌, ◌++◌, Bool, true, false, Option, Some, None, cond, drop, ◌+◌, slice_get, refl, sym, ap, ◌∙◌, inl, inr, arith}
use Rattle.std.specs.Option.{option_or}
use Rattle.std.specs.Prelude.{is_some, option_map, IfNone, IfSome}
use Rattle.std.proofs.lemmas.List.{drop_all}
use Rattle.argos_base.specs.Names.{Spelled, place_of}
use Rattle.argos_base.specs.Spelling.{is_one_of}
use Rattle.argos_base.specs.declared.signals.SigId.{SigId}
use Rattle.argos_base.proofs.Bools.{true_or_false}
use Rattle.argos_congruence.proofs.Naming.{stands, place_absent}
use Rattle.argos_congruence.specs.Congruence.{is_shared, all_names, HaveSameNames}
use Rattle.argos_core.specs.Process.{PlainModule}
use Rattle.bisim_verdict.specs.Bisimulation.{IsFirstForeign}
use Rattle.bisim_check.specs.inner.Sharing.{first_unshared}

-- a name that is found is one of the names
some_mapped : (r : Option SigId) (k : ℕ) → option_map (λ (x : SigId). x.0) r ≡ Some k → is_some r ≡ true
some_mapped None k h = cc
some_mapped (Some x) k h = refl

none_mapped : (r : Option SigId) → option_map (λ (x : SigId). x.0) r ≡ None → is_some r ≡ false
none_mapped None h = refl
none_mapped (Some x) h = cc

pub found_is_listed : (names : List Spelled) (name : Spelled) (r : Option SigId) → option_map (λ (x : SigId). x.0) r ≡ place_of names name → is_some r ≡ is_one_of names name
found_is_listed names name r h = elim (true_or_false (is_one_of names name)) [
  | inl t ↦ let s = stands names name t in some_mapped r s.place (h ∙ s.found) ∙ sym t
  | inr f ↦ none_mapped r (h ∙ place_absent names name f) ∙ sym f
]

-- the search goes on behind a name that is shared, and ends at one that isn't
module _ (shared : Spelled → Bool) where
  cond_unshared : (b : Bool) (x y : Option Spelled) → b ≡ true → cond b x y ≡ x
  cond_unshared true x y h = refl
  cond_unshared false x y h = cc

  cond_shared : (b : Bool) (x y : Option Spelled) → b ≡ false → cond b x y ≡ y
  cond_shared true x y h = cc
  cond_shared false x y h = refl

  pub passes : (names : List Spelled) (k : ℕ) (name : Spelled) → slice_get names k ≡ Some name → shared name ≡ true → first_unshared shared (drop k names) ≡ first_unshared shared (drop (suc k) names)
  passes [] k name h t = cc
  passes (n ∷ names) zero name h t = let e : n ≡ name = cc in cond_unshared (shared n) _ _ (ap shared e ∙ t)
  passes (n ∷ names) (suc k) name h t = passes names k name h t

  pub ends : (names : List Spelled) (k : ℕ) (name : Spelled) → slice_get names k ≡ Some name → shared name ≡ false → first_unshared shared (drop k names) ≡ Some name
  ends [] k name h f = cc
  ends (n ∷ names) zero name h f = let e : n ≡ name = cc in cond_shared (shared n) _ _ (ap shared e ∙ f) ∙ ap (λ (x : Spelled). let o : Option Spelled = Some x in o) e
  ends (n ∷ names) (suc k) name h f = ends names k name h f

  -- what is found in a list is its first unshared name, and where none is found all are shared
  pub record IsFirstUnshared (names : List Spelled) (name : Spelled) : Type 0 where
    pub place : ℕ
    pub at : slice_get names place ≡ Some name
    pub foreign : shared name ≡ false
    pub first : (k : ℕ) (other : Spelled) → k < place → slice_get names k ≡ Some other → shared other ≡ true

  pub at_end : (names : List Spelled) (k : ℕ) → length names ≤ k → first_unshared shared (drop k names) ≡ None
  at_end names k h = ap (first_unshared shared) (drop_all k names h)

  pub some_within : (names : List Spelled) (k : ℕ) → k < length names → slice_get names k ≡ None → ⊥
  some_within [] k h e = omega (arith, h)
  some_within (n ∷ names) zero h e = cc
  some_within (n ∷ names) (suc k) h e = some_within names k (omega (arith, h)) e

  -- of two lists, one after the other
  pub unshared_append : (xs ys : List Spelled) → first_unshared shared (xs ++ ys) ≡ option_or (first_unshared shared xs) (first_unshared shared ys)
  unshared_append [] ys = refl
  unshared_append (x ∷ xs) ys = elim (true_or_false (shared x)) [
    | inl t ↦ cond_unshared (shared x) _ _ t ∙ unshared_append xs ys ∙ sym (ap (λ (o : Option Spelled). option_or o (first_unshared shared ys)) (cond_unshared (shared x) _ _ t))
    | inr f ↦ cond_shared (shared x) _ _ f ∙ sym (ap (λ (o : Option Spelled). option_or o (first_unshared shared ys)) (cond_shared (shared x) _ _ f))
  ]

  some_same : {x y : Spelled} → ◌≡◌ {A = Option Spelled} (Some x) (Some y) → x ≡ y
  some_same h = cc

  later : (n : Spelled) (names : List Spelled) (name : Spelled) → shared n ≡ true → (rest : IsFirstUnshared names name) → (k : ℕ) (other : Spelled) → k < suc rest.place → slice_get (n ∷ names) k ≡ Some other → shared other ≡ true
  later n names name t rest zero other below at = sym (ap shared (some_same at)) ∙ t
  later n names name t rest (suc k) other below at = rest.first k other (omega (arith, below)) at

  nothing_before : (k : ℕ) (other : Spelled) → k < zero → shared other ≡ true
  nothing_before k other below = let none : ⊥ = omega (arith, below) in absurd none

  pub found_first : (names : List Spelled) (name : Spelled) → first_unshared shared names ≡ Some name → IsFirstUnshared names name
  found_first [] name h = cc
  found_first (n ∷ names) name h = elim (true_or_false (shared n)) [
    | inl t ↦
        let rest = found_first names name (sym (cond_unshared (shared n) _ _ t) ∙ h) in
        record { place = suc rest.place; at = rest.at; foreign = rest.foreign; first = λ k other below at. later n names name t rest k other below at }
    | inr f ↦
        let e : n ≡ name = some_same (sym (cond_shared (shared n) _ _ f) ∙ h) in
        record { place = zero; at = ap (λ (x : Spelled). let o : Option Spelled = Some x in o) e; foreign = sym (ap shared e) ∙ f; first = λ k other below at. nothing_before k other below }
  ]

  none_behind : (n : Spelled) (names : List Spelled) → shared n ≡ true → ((k : ℕ) (name : Spelled) → slice_get names k ≡ Some name → shared name ≡ true) → (k : ℕ) (name : Spelled) → slice_get (n ∷ names) k ≡ Some name → shared name ≡ true
  none_behind n names t rest zero name at = sym (ap shared (some_same at)) ∙ t
  none_behind n names t rest (suc k) name at = rest k name at

  pub none_unshared : (names : List Spelled) → first_unshared shared names ≡ None → (k : ℕ) (name : Spelled) → slice_get names k ≡ Some name → shared name ≡ true
  none_unshared [] h k name at = cc
  none_unshared (n ∷ names) h k name at = elim (true_or_false (shared n)) [
    | inl t ↦ none_behind n names t (none_unshared names (sym (cond_unshared (shared n) _ _ t) ∙ h)) k name at
    | inr f ↦ let e = sym (cond_shared (shared n) (first_unshared shared names) (Some n) f) ∙ h in cc e
  ]

pub one_more : (k : ℕ) → k + 1 ≡ suc k
one_more k = omega arith

-- the names of both interfaces
module _ (P Q : PlainModule) where
  abbrev pub found_in : List Spelled → Option Spelled
  found_in = first_unshared (is_shared P Q)

  pub in_all : option_or (option_or (option_or (found_in P.inputs) (found_in P.outputs)) (found_in Q.inputs)) (found_in Q.outputs) ≡ found_in (all_names P Q)
  in_all = sym (unshared_append (is_shared P Q) (P.inputs ++ P.outputs ++ Q.inputs) Q.outputs
      ∙ ap (λ (o : Option Spelled). option_or o (found_in Q.outputs)) (unshared_append (is_shared P Q) (P.inputs ++ P.outputs) Q.inputs
      ∙ ap (λ (o : Option Spelled). option_or o (found_in Q.inputs)) (unshared_append (is_shared P Q) P.inputs P.outputs)))

  pub none_is_same : (r : Option Spelled) → r ≡ found_in (all_names P Q) → IfNone r (HaveSameNames P Q)
  none_is_same None h = none_unshared (is_shared P Q) (all_names P Q) (sym h)
  none_is_same (Some name) h = _

  pub some_is_foreign : (r : Option Spelled) → r ≡ found_in (all_names P Q) → IfSome r (IsFirstForeign P Q)
  some_is_foreign None h = _
  some_is_foreign (Some name) h =
      let f : IsFirstUnshared (is_shared P Q) (all_names P Q) name = found_first (is_shared P Q) (all_names P Q) name (sym h) in
      record { place = f.place; at = f.at; foreign = f.foreign; first = f.first }

  pub joined : {a b c d x y z : Option Spelled} → a ≡ found_in P.inputs → b ≡ found_in P.outputs → x ≡ option_or a b → c ≡ found_in Q.inputs → y ≡ option_or x c → d ≡ found_in Q.outputs → z ≡ option_or y d
      → z ≡ found_in (all_names P Q)
  joined {a} {b} {c} {d} {x} {y} {z} ea eb ex ec ey ed ez =
      let whole : z ≡ option_or (option_or (option_or (found_in P.inputs) (found_in P.outputs)) (found_in Q.inputs)) (found_in Q.outputs) = cc (ea, eb, ex, ec, ey, ed, ez) in
      whole ∙ in_all
