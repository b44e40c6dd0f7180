-- Signals that are put into a set one after the other.
use Rattle.std.proofs.Common.{◌≡◌, ℕ, zero, suc, ◌+◌, ◌<◌, ◌≤◌, List, [], ◌∷◌, Bool, true, false, ◌||◌, nat_eq, inl, inr, refl, sym, ap, ◌∙◌, arith, length, get_or, drop, slice_set}
use Rattle.std.specs.List.{list_any}
use Rattle.std.proofs.lemmas.Grind.{common_steps}
use Rattle.std.proofs.lemmas.List.{at_drop_more, get_or-set_same, get_or-set_other}
use Rattle.argos_base.specs.SignalSets.{SignalSet, has, lists, set_where, set_of, union}
use Rattle.argos_base.proofs.Bools.{or_left}
use Rattle.argos_base.proofs.SetLemmas.{has-set_where, set_where-agree, set_where-has}
use Rattle.argos_base.specs.declared.signals.SigId.{SigId}
use Rattle.argos_core.specs.Views.{numbers}
use Rattle.argos_core.proofs.Numbers.{same_or_other, nat_eq-at, nat_eq-other}

-- the set with a list's signals
abbrev pub with_all : List SigId → SignalSet → SignalSet
with_all list s = union (length s) (set_of (length s) (numbers list)) s

-- the same by one test
with_all-where : (list : List SigId) (s : SignalSet) → with_all list s ≡ set_where (length s) (λ k. lists (numbers list) k || has s k)
with_all-where list s = set_where-agree (length s) (λ k. has (set_of (length s) (numbers list)) k || has s k) (λ k. lists (numbers list) k || has s k) (λ k below. ap (λ b. b || has s k) (has-set_where (length s) (lists (numbers list)) k below))

pub with_all-none : (s : SignalSet) → with_all [] s ≡ s
with_all-none s = with_all-where [] s ∙ set_where-has s

has-put : (s : SignalSet) (j k : ℕ) → j < length s → has (slice_set s j true) k ≡ (nat_eq j k || has s k)
has-put s j k below = elim (same_or_other j k) [
  | inl same ↦ let at_j : has (slice_set s j true) j ≡ true = get_or-set_same s j true false below in
      ap (has (slice_set s j true)) (sym same) ∙ at_j ∙ sym (or_left (nat_eq j k) (has s k) (nat_eq-at j k same))
  | inr other ↦ get_or-set_other s j k true false (λ e. other (sym e)) ∙ ap (λ z. z || has s k) (sym (nat_eq-other j k other))
]

length-put : (s : SignalSet) (j : ℕ) → length (slice_set s j true) ≡ length s
length-put [] j = refl
length-put (b ∷ s) zero = refl
length-put (b ∷ s) (suc j) = ap suc (length-put s j)

or_swap : (a b c : Bool) → ((a || b) || c) ≡ (b || (a || c))
or_swap true true c = refl
or_swap true false c = refl
or_swap false b c = refl

pub with_all-put : (x : SigId) (list : List SigId) (s : SignalSet) → x.0 < length s → with_all (x ∷ list) s ≡ with_all list (slice_set s x.0 true)
with_all-put x list s below =
    with_all-where (x ∷ list) s
    ∙ set_where-agree (length s) (λ k. (nat_eq x.0 k || lists (numbers list) k) || has s k) test (λ k k_below. or_swap (nat_eq x.0 k) (lists (numbers list) k) (has s k) ∙ ap (λ z. lists (numbers list) k || z) (sym (has-put s x.0 k below)))
    ∙ ap (λ n. set_where n test) (sym (length-put s x.0))
    ∙ sym (with_all-where list (slice_set s x.0 true))
  where
    test : ℕ → Bool
    test = λ k. lists (numbers list) k || has (slice_set s x.0 true) k

pub with_all-beyond : (x : SigId) (list : List SigId) (s : SignalSet) → length s ≤ x.0 → with_all (x ∷ list) s ≡ with_all list s
with_all-beyond x list s beyond =
    with_all-where (x ∷ list) s
    ∙ set_where-agree (length s) (λ k. (nat_eq x.0 k || lists (numbers list) k) || has s k) (λ k. lists (numbers list) k || has s k) (λ k below. ap (λ z. (z || lists (numbers list) k) || has s k) (nat_eq-other x.0 k (λ e. absurd (omega arith))))
    ∙ sym (with_all-where list s)

pub with_all-drop : (s : SignalSet) (list : List SigId) (i : ℕ) (d : SigId) → i < length list → with_all (drop i list) s ≡ with_all (get_or list i d ∷ drop (i + 1) list) s
with_all-drop s = at_drop_more (λ list. with_all list s)

-- a list has a number where some signal of it has it
pub list_any-numbers : (list : List SigId) (k : ℕ) → list_any (λ s. nat_eq s.0 k) list ≡ lists (numbers list) k
list_any-numbers [] k = refl
list_any-numbers (s ∷ list) k = ap (λ b. nat_eq s.0 k || b) (list_any-numbers list k)

pub ruleset emitting = (common_steps, with_all-none, with_all-put, with_all-beyond, with_all-drop)
