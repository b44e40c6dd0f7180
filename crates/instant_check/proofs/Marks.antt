-- Numbers that come into a set, test after test.
use Rattle.std.proofs.Common.{◌≡◌, ℕ, zero, suc, ◌+◌, ◌<◌, ◌≤◌, List, [], ◌∷◌, Bool, true, false, ◌||◌, cond, length, refl, sym, ap, ◌∙◌, arith}
use Rattle.std.specs.Prelude.{slice_set, nat_eq}
use Rattle.std.specs.List.{filter, range_with_len}
use Rattle.std.proofs.lemmas.List.{length-set}
use Rattle.std.proofs.lemmas.Bool.Decides.{nat_tests}
use Rattle.argos_base.specs.SignalSets.{SignalSet, has, empty}
use Rattle.instant_check.specs.inner.Marking.{IsMarked}

-- what is marked, and what passes the tests that are left, is what was marked at the start and what passes all
pub record IsMarkedSoFar (left whole : ℕ → Bool) (start now : SignalSet) : Type 0 where
  pub sized : length now ≡ length start
  pub marked : (k : ℕ) → k < length start → (has now k || left k) ≡ (has start k || whole k)

joined : (a b c d e : Bool) → a ≡ (b || c) → d ≡ (c || e) → (a || e) ≡ (b || d)
joined a true c d e h k = ap (λ (x : Bool). x || e) h
joined a false c d e h k = ap (λ (x : Bool). x || e) h ∙ sym k

-- one test more
pub marked-more : (left more own whole : ℕ → Bool) (start now next : SignalSet) → ((k : ℕ) → left k ≡ (own k || more k)) → IsMarkedSoFar left whole start now → IsMarked own now next → IsMarkedSoFar more whole start next
marked-more left more own whole start now next split so m = record {
  sized = m.sized ∙ so.sized;
  marked = λ k below. joined (has next k) (has now k) (own k) (left k) (more k) (m.marked k (let e = so.sized in omega (arith, e, below))) (split k) ∙ so.marked k below;
}

pub marked-begin : (whole : ℕ → Bool) (start : SignalSet) → IsMarkedSoFar whole whole start start
marked-begin whole start = record { sized = refl; marked = λ k below. refl }

or-none : (a : Bool) → a ≡ (a || false)
or-none true = refl
or-none false = refl

pub marked-end : (left whole : ℕ → Bool) (start now : SignalSet) → ((k : ℕ) → left k ≡ false) → IsMarkedSoFar left whole start now → IsMarked whole start now
marked-end left whole start now none so = record {
  sized = so.sized;
  marked = λ k below. or-none (has now k) ∙ ap (λ (b : Bool). has now k || b) (sym (none k)) ∙ so.marked k below;
}

-- nothing is marked
pub marked-none : (set : SignalSet) → IsMarked (λ k. false) set set
marked-none set = record { sized = refl; marked = λ k below. or-none (has set k) }

same-test : (a b c : Bool) → b ≡ c → (a || b) ≡ (a || c)
same-test a b c e = ap (λ (x : Bool). a || x) e

has-set : (set : SignalSet) (j k : ℕ) → k < length set → has (slice_set set j true) k ≡ (has set k || nat_eq j k)
has-set [] j k below = absurd (omega arith)
has-set (b ∷ set) zero zero below = sym (or-true b)
  where
    or-true : (b : Bool) → (b || true) ≡ true
    or-true true = refl
    or-true false = refl
has-set (b ∷ set) zero (suc k) below = let other : false ≡ nat_eq 0 (suc k) = grind (arith, nat_tests) in or-none (has set k) ∙ same-test (has set k) false (nat_eq 0 (suc k)) other
has-set (b ∷ set) (suc j) zero below = let other : false ≡ nat_eq (suc j) 0 = grind (arith, nat_tests) in or-none b ∙ same-test b false (nat_eq (suc j) 0) other
has-set (b ∷ set) (suc j) (suc k) below = let same : nat_eq j k ≡ nat_eq (suc j) (suc k) = grind (arith, nat_tests) in has-set set j k (omega arith) ∙ same-test (has set k) (nat_eq j k) (nat_eq (suc j) (suc k)) same

pub marked-one : (set : SignalSet) (j : ℕ) → IsMarked (nat_eq j) set (slice_set set j true)
marked-one set j = record { sized = length-set set j true; marked = λ k below. has-set set j k below }

-- a number without a place isn't marked
pub marked-outside : (set : SignalSet) (j : ℕ) → length set ≤ j → IsMarked (nat_eq j) set set
marked-outside set j out = record {
  sized = refl;
  marked = λ k below. (let other : nat_eq j k ≡ false = grind (arith, nat_tests, out, below) in or-none (has set k) ∙ ap (λ (b : Bool). has set k || b) (sym other));
}

-- the empty set has what passes and nothing else
pub filter-marked : (test : ℕ → Bool) (n : ℕ) (set : SignalSet) → IsMarked test (empty n) set → filter (has set) (range_with_len 0 (length set)) ≡ filter test (range_with_len 0 n)
filter-marked test n set m =
    ap (λ (l : ℕ). filter (has set) (range_with_len 0 l)) (m.sized ∙ empty-sized n)
    ∙ agree (has set) test 0 n (λ k low high. m.marked k (let e = empty-sized n in omega (arith, e, high)) ∙ ap (λ (b : Bool). b || test k) (nothing n k))
  where
    empty-sized : (n : ℕ) → length (empty n) ≡ n
    empty-sized zero = refl
    empty-sized (suc n) = ap suc (empty-sized n)

    nothing : (n k : ℕ) → has (empty n) k ≡ false
    nothing zero k = refl
    nothing (suc n) zero = refl
    nothing (suc n) (suc k) = nothing n k

    agree : (p q : ℕ → Bool) (from count : ℕ) → ((k : ℕ) → from ≤ k → k < from + count → p k ≡ q k) → filter p (range_with_len from count) ≡ filter q (range_with_len from count)
    agree p q from zero h = refl
    agree p q from (suc count) h =
        ap (λ (b : Bool). cond b (from ∷ filter p (range_with_len (from + 1) count)) (filter p (range_with_len (from + 1) count))) (h from (omega arith) (omega arith))
        ∙ ap (λ (l : List ℕ). cond (q from) (from ∷ l) l) (agree p q (from + 1) count (λ k low high. h k (omega (arith, low)) (omega (arith, high))))
