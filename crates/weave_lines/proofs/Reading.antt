-- Values read one after another, and at the numbers of a list.
use Rattle.std.specs.Prelude.{slice_index_or}
use Rattle.std.specs.List.{range_with_len}
use Rattle.std.proofs.Common.{◌≡◌, ℕ, zero, suc, ◌+◌, ◌-◌, ◌<◌, ◌≤◌, List, [], ◌∷◌, ◌++◌, refl, ap, ◌∙◌, arith, length, map, add-one}
use Rattle.weave_lines.specs.WovenLines.{placed}

-- so many values from number k on
abbrev pub from : {X : Type 0} → (ℕ → X) → ℕ → ℕ → List X
from f k zero = []
from f k (suc n) = f k ∷ from f (suc k) n

pub length-from : {X : Type 0} (f : ℕ → X) (k n : ℕ) → length (from f k n) ≡ n
length-from f k zero = refl
length-from f k (suc n) = ap suc (length-from f (suc k) n)

pub from-append : {X : Type 0} (f : ℕ → X) (k m n : ℕ) → from f k (m + n) ≡ from f k m ++ from f (k + m) n
from-append f k zero n = let e : 0 + n ≡ n = omega arith in let h : k ≡ k + 0 = omega arith in ap (from f k) e ∙ ap (λ j. from f j n) h
from-append f k (suc m) n =
    let e : suc m + n ≡ suc (m + n) = omega arith in
    let h : suc k + m ≡ k + suc m = omega arith in
    ap (from f k) e ∙ ap (λ l. f k ∷ l) (from-append f (suc k) m n ∙ ap (λ j. from f (suc k) m ++ from f j n) h)

at-from : {X : Type 0} (f : ℕ → X) (b n k : ℕ) (d : X) → k < n → slice_index_or (from f b n) k d ≡ f (b + k)
at-from f b zero k d h = absurd (omega arith)
at-from f b (suc n) zero d h = let e : b ≡ b + 0 = omega arith in ap f e
at-from f b (suc n) (suc k) d h = let e : suc b + k ≡ b + suc k = omega arith in at-from f (suc b) n k d (omega arith) ∙ ap f e

pub at-map : {X : Type 0} (f : ℕ → X) (ks : List ℕ) (k e : ℕ) (d : X) → k < length ks → slice_index_or (map f ks) k d ≡ f (slice_index_or ks k e)
at-map f [] k e d h = absurd (omega arith)
at-map f (x ∷ ks) zero e d h = refl
at-map f (x ∷ ks) (suc k) e d h = at-map f ks k e d (omega arith)

-- the values at the given numbers, and behind them those from `first` on: number k has the value at the number placed for it
pub at-placed : {X : Type 0} (f : ℕ → X) (given : List ℕ) (first n k : ℕ) (d : X) → k < length given + n → slice_index_or (map f given ++ from f first n) k d ≡ f (placed given first k)
at-placed f [] first n k d h = let e : first + k ≡ first + (k - 0) = omega arith in at-from f first n k d (omega arith) ∙ ap f e
at-placed f (x ∷ given) first n zero d h = refl
at-placed f (x ∷ given) first n (suc k) d h =
    let e : first + (k - length given) ≡ first + (suc k - suc (length given)) = omega arith in
    at-placed f given first n k d (omega arith) ∙ ap (λ j. f (slice_index_or given k j)) e

-- the values at the numbers from a on
pub map-range : {X : Type 0} (f : ℕ → X) (a n : ℕ) → map f (range_with_len a n) ≡ from f a n
map-range f a zero = refl
map-range f a (suc n) = ap (λ l. f a ∷ l) (ap (λ k. map f (range_with_len k n)) (add-one a) ∙ map-range f (suc a) n)

pub length-range : (a n : ℕ) → length (range_with_len a n) ≡ n
length-range a zero = refl
length-range a (suc n) = ap suc (length-range (a + 1) n)

-- numbers that are all below n
abbrev pub AllBelow : ℕ → List ℕ → Type 0
AllBelow n [] = Unit {0}
AllBelow n (k ∷ ks) = (k < n) × AllBelow n ks

pub below-more : (ks : List ℕ) (n m : ℕ) → n ≤ m → AllBelow n ks → AllBelow m ks
below-more [] n m le h = tt
below-more (k ∷ ks) n m le h = (omega (arith, h.0), below-more ks n m le h.1)

pub below-append : (ks ls : List ℕ) (n : ℕ) → AllBelow n ks → AllBelow n ls → AllBelow n (ks ++ ls)
below-append [] ls n h e = e
below-append (k ∷ ks) ls n h e = (h.0, below-append ks ls n h.1 e)

pub below-at : (ks : List ℕ) (n k d : ℕ) → AllBelow n ks → d < n → slice_index_or ks k d < n
below-at [] n k d h e = e
below-at (x ∷ ks) n zero d h e = h.0
below-at (x ∷ ks) n (suc k) d h e = below-at ks n k d h.1 e

pub below-range : (a m n : ℕ) → a + m ≤ n → AllBelow n (range_with_len a m)
below-range a zero n h = tt
below-range a (suc m) n h = (omega arith, below-range (a + 1) m n (omega arith))

-- what is placed for a number that exists is below the end of what is placed
pub placed-below : (given : List ℕ) (first n k : ℕ) → AllBelow first given → k < length given + n → placed given first k < first + n
placed-below [] first n k h e = omega arith
placed-below (x ∷ given) first n zero h e = omega (arith, h.0)
placed-below (x ∷ given) first n (suc k) h e =
    let same : first + (suc k - suc (length given)) ≡ first + (k - length given) = omega arith in
    rw same (placed-below given first n k h.1 (omega arith))
