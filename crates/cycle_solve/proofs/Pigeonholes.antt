-- Where each of n has a place among m that no other has, n is at most m.
use Rattle.std.proofs.Common.{◌≡◌, ℕ, zero, suc, ◌<◌, ◌≤◌, ◌⊎◌, Bool, true, false, nat_lt, if◌then◌else◌, refl, sym, ap, ◌∙◌, inl, inr, subst, arith}
use Rattle.std.proofs.lemmas.Bool.Decides.{nat_tests}

-- the places but one, in their order
abbrev skip : ℕ → ℕ → ℕ
skip hole k = if nat_lt k hole then k else suc k

skip-low : (hole k : ℕ) → k < hole → skip hole k ≡ k
skip-low hole k h = let t : nat_lt k hole ≡ true = grind (arith, nat_tests) in rw t refl

skip-high : (hole k : ℕ) → hole ≤ k → skip hole k ≡ suc k
skip-high hole k h = let t : nat_lt k hole ≡ false = grind (arith, nat_tests) in rw t refl

less_or_more : (j k : ℕ) → ¬ (j ≡ k) → (j < k) ⊎ (k < j)
less_or_more zero zero h = absurd (h refl)
less_or_more zero (suc k) h = inl (omega arith)
less_or_more (suc j) zero h = inr (omega arith)
less_or_more (suc j) (suc k) h = elim (less_or_more j k (λ e. h (ap suc e))) [ inl l ↦ inl (omega arith) | inr l ↦ inr (omega arith) ]

-- each other place is among them
skipped : (hole j m : ℕ) → hole < suc m → j < suc m → ¬ (j ≡ hole) → (k : ℕ) × ((k < m) × (skip hole k ≡ j))
skipped hole j m low high other = elim (less_or_more j hole other) [
  | inl l ↦ (j, (omega arith, skip-low hole j l))
  | inr l ↦ later j high l
]
  where
    later : (j : ℕ) → j < suc m → hole < j → (k : ℕ) × ((k < m) × (skip hole k ≡ j))
    later zero a l = absurd (omega arith)
    later (suc k) a l = (k, (omega arith, skip-high hole k (omega arith)))

pub pigeonholes : (n m : ℕ) (Has : ℕ → ℕ → Type 0) → ((i : ℕ) → i < n → (j : ℕ) × ((j < m) × Has i j)) → ((i k j : ℕ) → i < n → k < n → Has i j → Has k j → i ≡ k) → n ≤ m
pigeonholes zero m Has to one = omega arith
pigeonholes (suc n) zero Has to one = absurd (let t = to 0 (omega arith) in let low = t.1.0 in omega arith)
pigeonholes (suc n) (suc m) Has to one =
    let rest = pigeonholes n m (λ i j. Has i (skip hole j)) moved (λ i k j a b x y. one i k (skip hole j) (omega arith) (omega arith) x y) in
    omega (arith, rest)
  where
    last : (j : ℕ) × ((j < suc m) × Has n j)
    last = to n (omega arith)

    hole : ℕ
    hole = last.0

    moved : (i : ℕ) → i < n → (j : ℕ) × ((j < m) × Has i (skip hole j))
    moved i low =
        let t = to i (omega arith) in
        let k = skipped hole t.0 m last.1.0 t.1.0 (λ e. let same = one i n hole (omega arith) (omega arith) (subst (Has i) e t.1.1) last.1.1 in omega arith) in
        (k.0, (k.1.0, subst (Has i) (sym k.1.1) t.1.1))
