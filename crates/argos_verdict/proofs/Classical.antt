-- Facts that can't be refuted: each is decided, what holds of each case below a bound holds of all, and there is a least one.
use Rattle.std.proofs.Common.{◌≡◌, ◌⊎◌, ℕ, zero, suc, ◌<◌, List, [], ◌∷◌, true, false, length, refl, subst, inl, inr, arith}
use Rattle.argos_base.specs.Orders.{IsEarlier}
use Rattle.argos_base.specs.SignalSets.{SignalSet}

-- that it isn't so is absurd
abbrev pub IsIrrefutable : Type 0 → Type 0
IsIrrefutable X = ¬ (¬ X)

abbrev pub Decided : Type 0 → Type 0
Decided X = X ⊎ ¬ X

pub decides : (X : Type 0) → IsIrrefutable (Decided X)
decides X refuted = refuted (inr (λ x. refuted (inl x)))

first_or_later : (X : ℕ → Type 0) (n : ℕ) → X zero → ((k : ℕ) → k < n → X (suc k)) → (k : ℕ) → k < suc n → X k
first_or_later X n first later zero low = first
first_or_later X n first later (suc k) low = later k (omega arith)

-- what holds of each number below a bound holds of all of them
pub all_numbers : (n : ℕ) (X : ℕ → Type 0) → ((k : ℕ) → IsIrrefutable (X k)) → IsIrrefutable ((k : ℕ) → k < n → X k)
all_numbers zero X each fails = fails (λ k low. absurd (omega arith))
all_numbers (suc n) X each fails = each zero (λ first.
    all_numbers n (λ k. X (suc k)) (λ k. each (suc k)) (λ later. fails (first_or_later X n first later)))

-- the same of lists below bounds
abbrev pub IsWithin : List ℕ → List ℕ → Type 0
IsWithin [] [] = Unit {0}
IsWithin [] (x ∷ xs) = ⊥
IsWithin (b ∷ bs) [] = ⊥
IsWithin (b ∷ bs) (x ∷ xs) = (x < b) × IsWithin bs xs

pub all_within : (bounds : List ℕ) (X : List ℕ → Type 0) → ((xs : List ℕ) → IsIrrefutable (X xs))
    → IsIrrefutable ((xs : List ℕ) → IsWithin bounds xs → X xs)
all_within [] X each fails = each [] (λ empty. fails (only empty))
  where
    only : X [] → (xs : List ℕ) → IsWithin [] xs → X xs
    only empty [] within = empty
    only empty (x ∷ xs) within = absurd within
all_within (b ∷ bounds) X each fails =
    all_numbers b (λ x. (xs : List ℕ) → IsWithin bounds xs → X (x ∷ xs)) (λ x. all_within bounds (λ xs. X (x ∷ xs)) (λ xs. each (x ∷ xs)))
    (λ all. fails (joined all))
  where
    joined : ((x : ℕ) → x < b → (xs : List ℕ) → IsWithin bounds xs → X (x ∷ xs)) → (xs : List ℕ) → IsWithin (b ∷ bounds) xs → X xs
    joined all [] within = absurd within
    joined all (x ∷ xs) within = all x within.0 xs within.1

-- and of sets of one size
pub all_sets : (n : ℕ) (X : SignalSet → Type 0) → ((i : SignalSet) → IsIrrefutable (X i)) → IsIrrefutable ((i : SignalSet) → length i ≡ n → X i)
all_sets zero X each fails = each [] (λ empty. fails (only empty))
  where
    only : X [] → (i : SignalSet) → length i ≡ 0 → X i
    only empty [] sized = empty
    only empty (b ∷ i) sized = absurd (omega (arith, sized))
all_sets (suc n) X each fails =
    all_sets n (λ i. X (true ∷ i)) (λ i. each (true ∷ i)) (λ with_it.
    all_sets n (λ i. X (false ∷ i)) (λ i. each (false ∷ i)) (λ without_it. fails (joined with_it without_it)))
  where
    joined : ((i : SignalSet) → length i ≡ n → X (true ∷ i)) → ((i : SignalSet) → length i ≡ n → X (false ∷ i)) → (i : SignalSet) → length i ≡ suc n → X i
    joined with_it without_it [] sized = absurd (omega (arith, sized))
    joined with_it without_it (true ∷ i) sized = with_it i (omega (arith, sized))
    joined with_it without_it (false ∷ i) sized = without_it i (omega (arith, sized))

-- the least number with the property
pub record IsLeast (X : ℕ → Type 0) (k : ℕ) : Type 0 where
  pub is : X k
  pub least : (j : ℕ) → j < k → ¬ (X j)

pub least_number : (X : ℕ → Type 0) (k : ℕ) → X k → IsIrrefutable ((j : ℕ) × IsLeast X j)
least_number X k is fails = none (suc k) k (omega arith) is
  where
    none : (bound j : ℕ) → j < bound → ¬ (X j)
    none zero j low x = absurd (omega arith)
    none (suc bound) j low x = fails (j, record { is = x; least = λ i less. none bound i (omega arith) })

-- the least list of so many numbers with the property
pub record IsLeastList (n : ℕ) (X : List ℕ → Type 0) (xs : List ℕ) : Type 0 where
  pub sized : length xs ≡ n
  pub is : X xs
  pub least : (ys : List ℕ) → length ys ≡ n → X ys → ¬ (IsEarlier ys xs)

record Behind (n : ℕ) (X : List ℕ → Type 0) (x : ℕ) : Type 0 where
  rest : List ℕ
  sized : length rest ≡ n
  is : X (x ∷ rest)

pub least_list : (n : ℕ) (X : List ℕ → Type 0) (xs : List ℕ) → length xs ≡ n → X xs → IsIrrefutable ((ys : List ℕ) × IsLeastList n X ys)
least_list zero X [] sized is fails = fails ([], record { sized = refl; is = is; least = none })
  where
    none : (ys : List ℕ) → length ys ≡ 0 → X ys → ¬ (IsEarlier ys [])
    none [] sized x earlier = earlier
    none (y ∷ ys) sized x earlier = earlier
least_list zero X (x ∷ xs) sized is fails = absurd (omega (arith, sized))
least_list (suc n) X [] sized is fails = absurd (omega (arith, sized))
least_list (suc n) X (x ∷ xs) sized is fails =
    least_number (Behind n X) x (record { rest = xs; sized = omega (arith, sized); is = is }) (λ first.
    least_list n (λ l. X (first.0 ∷ l)) first.1.is.rest first.1.is.sized first.1.is.is (λ later.
    fails (first.0 ∷ later.0, record { sized = longer later.0 later.1.sized; is = later.1.is; least = least first.0 first.1 later.0 later.1 })))
  where
    longer : (ks : List ℕ) → length ks ≡ n → length (x ∷ ks) ≡ suc n
    longer ks same = omega (arith, same)

    least : (k : ℕ) → IsLeast (Behind n X) k → (ks : List ℕ) → IsLeastList n (λ l. X (k ∷ l)) ks
        → (ys : List ℕ) → length ys ≡ suc n → X ys → ¬ (IsEarlier ys (k ∷ ks))
    least k first ks later [] sized x earlier = earlier
    least k first ks later (y ∷ ys) sized x (inl less) = first.least y less (record { rest = ys; sized = omega (arith, sized); is = x })
    least k first ks later (y ∷ ys) sized x (inr rest) = later.least ys (omega (arith, sized)) (subst (λ (z : ℕ). X (z ∷ ys)) rest.0 x) rest.1
