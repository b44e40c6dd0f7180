-- The longest front of a list of bytes that pass a test.
use Rattle.std.proofs.Common.{◌≡◌, ℕ, ◌+◌, ◌≤◌, List, [], ◌∷◌, ◌++◌, Bool, true, false, ◌&&◌, length, take, drop, refl, suc, subst, ⊎_elim, arith}
use Rattle.std.specs.List.{list_all, prefix_len}
use Rattle.argos_base.proofs.Bools.{and_both, true_or_false}

-- the list is empty, or its first byte fails the test
abbrev pub Stops : (ℕ → Bool) → List ℕ → Type 0
Stops p [] = Unit {0}
Stops p (x ∷ xs) = p x ≡ false

-- the first n bytes pass the test, and those behind them don't begin with one that does
pub record Cuts (p : ℕ → Bool) (xs : List ℕ) (n : ℕ) : Type 0 where
  pub within : n ≤ length xs
  pub passes : list_all p (take n xs) ≡ true
  pub stops : Stops p (drop n xs)

one_more : (p : ℕ → Bool) (x : ℕ) (xs : List ℕ) (n : ℕ) → p x ≡ true → Cuts p xs n → Cuts p (x ∷ xs) (1 + n)
one_more p x xs n h c = let P : ℕ → Type 0 = Cuts p (x ∷ xs) in let e : suc n ≡ 1 + n = omega arith in subst P e (record { within = let l : n ≤ length xs = c.within in omega arith; passes = and_both (p x) _ h c.passes; stops = c.stops })

none : (p : ℕ → Bool) (x : ℕ) (xs : List ℕ) → p x ≡ false → Cuts p (x ∷ xs) 0
none p x xs h = record { within = omega arith; passes = refl; stops = h }

pub cuts : (p : ℕ → Bool) (xs : List ℕ) → Cuts p xs (prefix_len p xs)
cuts p [] = record { within = omega arith; passes = refl; stops = tt }
cuts p (x ∷ xs) = let P : ℕ → Type 0 = Cuts p (x ∷ xs) in
    ⊎_elim
    (λ h. let e : 1 + prefix_len p xs ≡ prefix_len p (x ∷ xs) = rw h refl in subst P e (one_more p x xs (prefix_len p xs) h (cuts p xs)))
    (λ h. let e : 0 ≡ prefix_len p (x ∷ xs) = rw h refl in subst P e (none p x xs h))
    (true_or_false (p x))

pub first_fails : (a b : Bool) → a ≡ false → (a && b) ≡ false
first_fails true b e = cc
first_fails false b e = refl

pub second_fails : (a b : Bool) → b ≡ false → (a && b) ≡ false
second_fails true b e = e
second_fails false b e = refl

-- where one fails, not all pass
pub list_all-fails : (p : ℕ → Bool) (xs : List ℕ) (x : ℕ) → p x ≡ false → list_all p (xs ++ x ∷ []) ≡ false
list_all-fails p [] x h = rw h refl
list_all-fails p (y ∷ xs) x h = second_fails (p y) _ (list_all-fails p xs x h)
