-- Tables that are written.
use Rattle.std.proofs.Common.{◌≡◌, ℕ, zero, suc, ◌||◌, ◌<◌, ◌≤◌, ◌+◌, List, [], ◌∷◌, ◌++◌, Bool, true, false, cond, nat_eq, inl, inr, length, set, get_or, map, ap, sym, ◌∙◌, refl, arith, append_assoc}
use Rattle.std.proofs.Math.Path.{fun_ext}
use Rattle.std.proofs.lemmas.Bool.Decides.{nat_tests}
use Rattle.std.proofs.lemmas.Grind.{common_steps}
use Rattle.std.proofs.lemmas.List.{length-map, map-append, get_or-set_same, get_or-set_other, get_or_past}
use Rattle.std.specs.List.{range_with_len}
use Rattle.std.specs.Prelude.{slice_set}
use Rattle.std.proofs.lemmas.Bool.{cases_lt}
use Rattle.std.proofs.lemmas.List.FromFn.{get_or-range_with_len, length-range_with_len}
use Rattle.argos_base.specs.SignalSets.{has, lists, empty}
use Rattle.argos_base.proofs.Bools.{true_or_false}
use Rattle.eqn_core.proofs.Walks.{walks}
use Rattle.eqn_completion.specs.Moving.{Table, Tables, put}

-- a table with a written place
pub put-set : (xs : List ℕ) (k n : ℕ) → k < length xs → ◌≡◌ {A = Table} (λ j. get_or (set xs k n) j j) (put (λ j. get_or xs j j) k n)
put-set xs k n h = fun_ext one
  where
    equal : (a b : ℕ) → nat_eq a b ≡ true → a ≡ b
    equal a b h = grind (arith, nat_tests)

    other : (a b : ℕ) → nat_eq a b ≡ false → a ≡ b → ⊥
    other a b h e = grind (arith, nat_tests)

    one : (j : ℕ) → get_or (set xs k n) j j ≡ put (λ (j : ℕ). get_or xs j j) k n j
    one j = elim (true_or_false (nat_eq j k)) [
      | inl y ↦ rw y (let e = equal j k y in ap (λ (i : ℕ). get_or (set xs k n) i j) e ∙ get_or-set_same xs k n j h)
      | inr y ↦ rw y (get_or-set_other xs k j n j (other j k y))
    ]

-- one more number behind those below a count
range-suc : (a n j : ℕ) → a + n ≡ j → range_with_len a (suc n) ≡ range_with_len a n ++ j ∷ []
range-suc a zero j e = let f : a ≡ j = omega arith in ap (λ (k : ℕ). k ∷ []) f
range-suc a (suc n) j e = ap (λ (l : List ℕ). a ∷ l) (range-suc (a + 1) n j (omega arith))

pub range-more : (n : ℕ) → range_with_len 0 (n + 1) ≡ range_with_len 0 n ++ n ∷ []
range-more n = let e : n + 1 ≡ suc n = omega arith in ap (range_with_len 0) e ∙ range-suc 0 n n (omega arith)

-- these change no number
abbrev pub itself : Table
itself k = k

pub range-same : (n : ℕ) → ◌≡◌ {A = Table} (λ k. get_or (range_with_len 0 n) k k) itself
range-same n = fun_ext (λ k. elim (cases_lt k n) [
  | inl low ↦ get_or-range_with_len 0 n k k low ∙ omega arith
  | inr high ↦ get_or_past (range_with_len 0 n) k k (omega (arith, length-range_with_len 0 n))
])

-- numbers are put into a set one after the other
pub none-yet : (n : ℕ) (ks : List ℕ) (k : ℕ) → (has (empty n) k || lists ks k) ≡ lists ks k
none-yet n ks k = ap (λ (b : Bool). b || lists ks k) (nothing n k)
  where
    nothing : (n k : ℕ) → has (empty n) k ≡ false
    nothing zero k = refl
    nothing (suc n) zero = refl
    nothing (suc n) (suc k) = nothing n k

pub one-put : (set : List Bool) (x : ℕ) (ks : List ℕ) (k : ℕ) → x < length set → (has (slice_set set x true) k || lists ks k) ≡ (has set k || lists (x ∷ ks) k)
one-put set x ks k h = elim (true_or_false (nat_eq x k)) [
  | inl y ↦ rw y (let e = equal x k y in ap (λ (b : Bool). b || lists ks k) (ap (λ (i : ℕ). has (slice_set set x true) i) (sym e) ∙ get_or-set_same set x true false h) ∙ sym (or_true (has set k)))
  | inr n ↦ rw n (ap (λ (b : Bool). b || lists ks k) (get_or-set_other set x k true false (other x k n)))
]
  where
    equal : (a b : ℕ) → nat_eq a b ≡ true → a ≡ b
    equal a b h = grind (arith, nat_tests)

    other : (a b : ℕ) → nat_eq a b ≡ false → b ≡ a → ⊥
    other a b h e = grind (arith, nat_tests)

    or_true : (b : Bool) → (b || true) ≡ true
    or_true true = refl
    or_true false = refl

-- tables with the same parts are one
pub same_tables : (b b' w w' : Table) (n n' m m' : ℕ) → b ≡ b' → w ≡ w' → n ≡ n' → m ≡ m' → ◌≡◌ {A = Tables} (record { bits = b; words = w; next_bit = n; next_word = m }) (record { bits = b'; words = w'; next_bit = n'; next_word = m' })
same_tables b b' w w' n n' m m' e f g h =
    ap (λ (x : Table). pack x w n m) e ∙ ap (λ (x : Table). pack b' x n m) f ∙ ap (λ (x : ℕ). pack b' w' x m) g ∙ ap (λ (x : ℕ). pack b' w' n' x) h
  where
    pack : Table → Table → ℕ → ℕ → Tables
    pack b w n m = record { bits = b; words = w; next_bit = n; next_word = m }

pub ruleset entries = (common_steps, walks, length-map, map-append, append_assoc, put-set)
