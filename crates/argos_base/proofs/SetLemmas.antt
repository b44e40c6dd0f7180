-- Sets of signals.
use Rattle.std.proofs.Common.{◌≡◌, ℕ, zero, suc, ◌<◌, List, [], ◌∷◌, Bool, true, false, length, replicate, refl, ap, ◌∙◌, arith}
use Rattle.std.proofs.lemmas.Grind.{common_steps}
use Rattle.argos_base.specs.SignalSets.{SignalSet, has, set_where, empty}

-- so many truth values that are false
pub replicate-empty : (n : ℕ) → replicate n false ≡ empty n
replicate-empty zero = refl
replicate-empty (suc n) = ap (λ (s : List Bool). false ∷ s) (replicate-empty n)

pub length-set_where : (n : ℕ) (test : ℕ → Bool) → length (set_where n test) ≡ n
length-set_where zero test = refl
length-set_where (suc n) test = ap suc (length-set_where n (λ k. test (suc k)))

-- a set has the numbers that pass its test
pub has-set_where : (n : ℕ) (test : ℕ → Bool) (k : ℕ) → k < n → has (set_where n test) k ≡ test k
has-set_where zero test k h = absurd (omega arith)
has-set_where (suc n) test zero h = refl
has-set_where (suc n) test (suc k) h = has-set_where n (λ j. test (suc j)) k (omega arith)

-- a set has numbers below its length alone
pub has-below : (v : SignalSet) (k : ℕ) → has v k ≡ true → k < length v
has-below [] k h = cc
has-below (b ∷ v) zero h = omega arith
has-below (b ∷ v) (suc k) h = let x = has-below v k h in omega arith

-- sets of one length that have the same numbers are one
pub same_set : (v w : SignalSet) → length v ≡ length w → ((k : ℕ) → k < length v → has v k ≡ has w k) → v ≡ w
same_set [] [] e h = refl
same_set [] (c ∷ w) e h = absurd (omega arith)
same_set (b ∷ v) [] e h = absurd (omega arith)
same_set (b ∷ v) (c ∷ w) e h =
    let first : b ≡ c = h 0 (omega arith) in
    let rest : v ≡ w = same_set v w (omega arith) (λ k below. h (suc k) (omega arith)) in
    ap (λ (x : Bool). x ∷ v) first ∙ ap (λ (s : List Bool). c ∷ s) rest

-- where two tests agree below n, so do the sets
pub set_where-agree : (n : ℕ) (p q : ℕ → Bool) → ((k : ℕ) → k < n → p k ≡ q k) → set_where n p ≡ set_where n q
set_where-agree zero p q h = refl
set_where-agree (suc n) p q h =
    ap (λ (x : Bool). x ∷ set_where n (λ k. p (suc k))) (h 0 (omega arith))
    ∙ ap (λ (s : List Bool). q 0 ∷ s) (set_where-agree n (λ k. p (suc k)) (λ k. q (suc k)) (λ k below. h (suc k) (omega arith)))

-- a set is the set of the numbers that it has
pub set_where-has : (v : SignalSet) → set_where (length v) (has v) ≡ v
set_where-has [] = refl
set_where-has (b ∷ v) = ap (λ (s : List Bool). b ∷ s) (set_where-has v)

pub ruleset empty_sets = (common_steps, replicate-empty)
