-- Tests that depend on different bits.
use Rattle.std.proofs.Common.{◌≡◌, ℕ, zero, suc, ◌<◌, [], ◌∷◌, Bool, true, false, ◌&&◌, ◌||◌, not, if◌then◌else◌, refl, sym, ap, ◌∙◌, inl, inr, arith, length}
use Rattle.argos_base.specs.SignalSets.{SignalSet, has}
use Rattle.argos_base.proofs.Bools.{true_or_false, and_first, and_second, and_both}
use Rattle.eqn_verdict.specs.Searching.{Test, some, least, with, without, differs}
use Rattle.eqn_verdict.proofs.Searches.{some-holds, some-from}

-- the test depends on no other bits than these
abbrev pub Reads : ℕ → (ℕ → Bool) → Test → Type 0
Reads c M K = (x z : SignalSet) → length x ≡ c → length z ≡ c → ((j : ℕ) → M j ≡ true → has x j ≡ has z j) → K x ≡ K z

-- the other bits
abbrev pub but : (ℕ → Bool) → ℕ → Bool
but M j = not (M j)

-- two tests are both passed
abbrev pub each : Test → Test → Test
each K L x = K x && L x

-- ---- equal tests

pub some-same : (c : ℕ) (f g : Test) → ((x : SignalSet) → length x ≡ c → f x ≡ g x) → some c f ≡ some c g
some-same zero f g h = h [] refl
some-same (suc c) f g h =
    ap (λ (b : Bool). b || some c (λ x. f (true ∷ x))) (some-same c (λ x. f (false ∷ x)) (λ x. g (false ∷ x)) (λ x xs. h (false ∷ x) (ap suc xs)))
    ∙ ap (λ (b : Bool). some c (λ x. g (false ∷ x)) || b) (some-same c (λ x. f (true ∷ x)) (λ x. g (true ∷ x)) (λ x xs. h (true ∷ x) (ap suc xs)))

pub least-same : (c : ℕ) (f g : Test) → ((x : SignalSet) → length x ≡ c → f x ≡ g x) → least c f ≡ least c g
least-same zero f g h = refl
least-same (suc c) f g h =
    ap (λ (b : Bool). if b then false ∷ least c (λ x. f (false ∷ x)) else true ∷ least c (λ x. f (true ∷ x))) (some-same c (λ x. f (false ∷ x)) (λ x. g (false ∷ x)) (λ x xs. h (false ∷ x) (ap suc xs)))
    ∙ ap (λ (l : SignalSet). if some c (λ x. g (false ∷ x)) then false ∷ l else true ∷ least c (λ x. f (true ∷ x))) (least-same c (λ x. f (false ∷ x)) (λ x. g (false ∷ x)) (λ x xs. h (false ∷ x) (ap suc xs)))
    ∙ ap (λ (l : SignalSet). if some c (λ x. g (false ∷ x)) then false ∷ least c (λ x. g (false ∷ x)) else true ∷ l) (least-same c (λ x. f (true ∷ x)) (λ x. g (true ∷ x)) (λ x xs. h (true ∷ x) (ap suc xs)))

-- ---- some values

-- these bits of x, and the others of z
abbrev mixed : (ℕ → Bool) → SignalSet → SignalSet → SignalSet
mixed M [] z = []
mixed M (a ∷ x) [] = []
mixed M (a ∷ x) (b ∷ z) = (if M 0 then a else b) ∷ mixed (λ j. M (suc j)) x z

length-mixed : (M : ℕ → Bool) (x z : SignalSet) → length x ≡ length z → length (mixed M x z) ≡ length x
length-mixed M [] z h = refl
length-mixed M (a ∷ x) [] h = absurd (omega arith)
length-mixed M (a ∷ x) (b ∷ z) h = ap suc (length-mixed (λ j. M (suc j)) x z (omega arith))

has-mixed : (M : ℕ → Bool) (x z : SignalSet) (j : ℕ) → length x ≡ length z → has (mixed M x z) j ≡ (if M j then has x j else has z j)
has-mixed M [] [] j h = neither (M j)
  where
    neither : (b : Bool) → false ≡ (if b then false else false)
    neither true = refl
    neither false = refl
has-mixed M [] (b ∷ z) j h = absurd (omega arith)
has-mixed M (a ∷ x) [] j h = absurd (omega arith)
has-mixed M (a ∷ x) (b ∷ z) zero h = refl
has-mixed M (a ∷ x) (b ∷ z) (suc j) h = has-mixed (λ j. M (suc j)) x z j (omega arith)

some-each : (c : ℕ) (M : ℕ → Bool) (K L : Test) → Reads c M K → Reads c (but M) L → some c K ≡ true → some c L ≡ true → some c (each K L) ≡ true
some-each c M K L reads others h k =
    let p = some-holds c K h in
    let q = some-holds c L k in
    let x = p.values in
    let z = q.values in
    let sized : length x ≡ length z = p.sized ∙ sym q.sized in
    let w : SignalSet = mixed M x z in
    let ws : length w ≡ c = length-mixed M x z sized ∙ p.sized in
    some-from c (each K L) w ws (and_both (K w) (L w)
    (reads w x ws p.sized (λ j on. has-mixed M x z j sized ∙ ap (λ (b : Bool). if b then has x j else has z j) on) ∙ p.passes)
    (others w z ws q.sized (λ j off. has-mixed M x z j sized ∙ ap (λ (b : Bool). if b then has x j else has z j) (negated (M j) off)) ∙ q.passes))
  where
    negated : (b : Bool) → not b ≡ true → b ≡ false
    negated true e = cc
    negated false e = refl

same_test : (a b : Bool) → (a ≡ true → b ≡ true) → (b ≡ true → a ≡ true) → a ≡ b
same_test true b f g = sym (f refl)
same_test false true f g = g refl
same_test false false f g = refl

-- some values pass both exactly where some pass each
pub some_apart : (c : ℕ) (M : ℕ → Bool) (K L : Test) → Reads c M K → Reads c (but M) L → some c (each K L) ≡ (some c K && some c L)
some_apart c M K L reads others = same_test (some c (each K L)) (some c K && some c L)
    (λ h. let p = some-holds c (each K L) h in let w = p.values in and_both (some c K) (some c L) (some-from c K w p.sized (and_first (K w) (L w) p.passes)) (some-from c L w p.sized (and_second (K w) (L w) p.passes)))
    (λ h. some-each c M K L reads others (and_first (some c K) (some c L) h) (and_second (some c K) (some c L) h))

-- ---- a test of these bits alone

and_on : (a b : Bool) → b ≡ true → (a && b) ≡ a
and_on true b h = h
and_on false b h = refl

-- it is passed by some values that pass both exactly where it is by some that pass the first
some_near : (c : ℕ) (M : ℕ → Bool) (K L h : Test) → Reads c M K → Reads c M h → Reads c (but M) L → some c L ≡ true → some c (λ x. (K x && L x) && h x) ≡ some c (each K h)
some_near c M K L h reads own others on =
    some-same c (λ x. (K x && L x) && h x) (each (each K h) L) (λ x xs. turned (K x) (L x) (h x))
    ∙ some_apart c M (each K h) L (λ x z xs zs same. ap (λ (b : Bool). b && h x) (reads x z xs zs same) ∙ ap (λ (b : Bool). K z && b) (own x z xs zs same)) others
    ∙ and_on (some c (each K h)) (some c L) on
  where
    turned : (p q r : Bool) → ((p && q) && r) ≡ ((p && r) && q)
    turned true true true = refl
    turned true true false = refl
    turned true false true = refl
    turned true false false = refl
    turned false q r = refl

-- so it differs among the values that pass both exactly where it differs among those that pass the first
pub differs_near : (c : ℕ) (M : ℕ → Bool) (K L g : Test) → Reads c M K → Reads c M g → Reads c (but M) L → some c L ≡ true → differs c (each K L) g ≡ differs c K g
differs_near c M K L g reads own others on =
    ap (λ (b : Bool). b && some c (without (each K L) g)) (some_near c M K L g reads own others on)
    ∙ ap (λ (b : Bool). some c (with K g) && b) (some_near c M K L (λ x. not (g x)) reads (λ x z xs zs same. ap not (own x z xs zs same)) others on)

-- ---- the least values

reads-behind : (c : ℕ) (M : ℕ → Bool) (K : Test) (b : Bool) → Reads (suc c) M K → Reads c (λ j. M (suc j)) (λ x. K (b ∷ x))
reads-behind c M K b reads x z xs zs same = reads (b ∷ x) (b ∷ z) (ap suc xs) (ap suc zs) (behind same)
  where
    behind : ((j : ℕ) → M (suc j) ≡ true → has x j ≡ has z j) → (j : ℕ) → M j ≡ true → has (b ∷ x) j ≡ has (b ∷ z) j
    behind same zero on = refl
    behind same (suc j) on = same j on

-- a test that doesn't depend on the first bit
reads-not_first : (c : ℕ) (M : ℕ → Bool) (K : Test) → Reads (suc c) M K → M 0 ≡ false → (x : SignalSet) → length x ≡ c → K (false ∷ x) ≡ K (true ∷ x)
reads-not_first c M K reads off x xs = reads (false ∷ x) (true ∷ x) (ap suc xs) (ap suc xs) (none off)
  where
    none : M 0 ≡ false → (j : ℕ) → M j ≡ true → has (false ∷ x) j ≡ has (true ∷ x) j
    none off zero on = let no : true ≡ false = sym on ∙ off in cc
    none off (suc j) on = refl

either_same : (a b : Bool) → a ≡ b → (a || b) ≡ true → (a ≡ true) × (b ≡ true)
either_same true true e h = (refl, refl)
either_same true false e h = cc
either_same false true e h = cc
either_same false false e h = cc

second_of : (a b : Bool) → a ≡ false → (a || b) ≡ true → b ≡ true
second_of true b e h = cc
second_of false b e h = h

-- what is said of the least values behind the first one
abbrev LeastBehind : ℕ → (ℕ → Bool) → Test → Test → Type 0
LeastBehind c M K L = (b : Bool) (i : ℕ) → M (suc i) ≡ true → i < c → some c (λ x. K (b ∷ x)) ≡ true → some c (λ x. L (b ∷ x)) ≡ true → has (least c (λ x. K (b ∷ x) && L (b ∷ x))) i ≡ has (least c (λ x. K (b ∷ x))) i

go_on : (c : ℕ) (M : ℕ → Bool) (K L : Test) (b : Bool) (j : ℕ) → LeastBehind c M K L → M j ≡ true → j < suc c → some c (λ x. K (b ∷ x)) ≡ true → some c (λ x. L (b ∷ x)) ≡ true → has (b ∷ least c (λ x. K (b ∷ x) && L (b ∷ x))) j ≡ has (b ∷ least c (λ x. K (b ∷ x))) j
go_on c M K L b zero again on low y l = refl
go_on c M K L b (suc j) again on low y l = again b j on (omega arith) y l

not_first : (c : ℕ) (M : ℕ → Bool) (K L : Test) (j : ℕ) → LeastBehind c M K L → Reads (suc c) M K → Reads (suc c) (but M) L → some (suc c) K ≡ true → some (suc c) L ≡ true → M 0 ≡ false → M j ≡ true → j < suc c → has (least (suc c) (each K L)) j ≡ has (least (suc c) K) j
not_first c M K L zero again reads others h k off on low = absurd (let no : true ≡ false = sym on ∙ off in cc)
not_first c M K L (suc j) again reads others h k off on low =
    let same = reads-not_first c M K reads off in
    let y = either_same (some c (λ x. K (false ∷ x))) (some c (λ x. K (true ∷ x))) (some-same c (λ x. K (false ∷ x)) (λ x. K (true ∷ x)) same) h in
    let t : some c (λ x. K (false ∷ x) && L (false ∷ x)) ≡ (some c (λ x. K (false ∷ x)) && some c (λ x. L (false ∷ x))) =
    some_apart c (λ i. M (suc i)) (λ x. K (false ∷ x)) (λ x. L (false ∷ x)) (reads-behind c M K false reads) (reads-behind c (but M) L false others) in
    let v : some c (λ x. K (false ∷ x) && L (false ∷ x)) ≡ some c (λ x. L (false ∷ x)) = t ∙ ap (λ (b : Bool). b && some c (λ x. L (false ∷ x))) y.0 in
    let z = y.0 in
    elim (true_or_false (some c (λ x. L (false ∷ x)))) [
      | inl l ↦ let u : some c (λ x. K (false ∷ x) && L (false ∷ x)) ≡ true = v ∙ l in rw (u, z) (again false j on (omega arith) z l)
      | inr n ↦
          let u : some c (λ x. K (false ∷ x) && L (false ∷ x)) ≡ false = v ∙ n in
          let l = second_of (some c (λ x. L (false ∷ x))) (some c (λ x. L (true ∷ x))) n k in
          rw (u, z) (again true j on (omega arith) y.1 l ∙ ap (λ (w : SignalSet). has w j) (sym (least-same c (λ x. K (false ∷ x)) (λ x. K (true ∷ x)) same)))
    ]

-- the least values that pass both have these bits of the least that pass the first
pub least_apart : (c : ℕ) (M : ℕ → Bool) (K L : Test) (j : ℕ) → Reads c M K → Reads c (but M) L → M j ≡ true → j < c → some c K ≡ true → some c L ≡ true → has (least c (each K L)) j ≡ has (least c K) j
least_apart zero M K L j reads others on low h k = absurd (omega arith)
least_apart (suc c) M K L j reads others on low h k =
    let again : LeastBehind c M K L = λ b i at below y l. least_apart c (λ n. M (suc n)) (λ x. K (b ∷ x)) (λ x. L (b ∷ x)) i (reads-behind c M K b reads) (reads-behind c (but M) L b others) at below y l in
    elim (true_or_false (M 0)) [
      | inl first ↦
          let l = either_same (some c (λ x. L (false ∷ x))) (some c (λ x. L (true ∷ x))) (some-same c (λ x. L (false ∷ x)) (λ x. L (true ∷ x)) (reads-not_first c (but M) L others (ap not first))) k in
          let t : some c (λ x. K (false ∷ x) && L (false ∷ x)) ≡ some c (λ x. K (false ∷ x)) =
          some_apart c (λ i. M (suc i)) (λ x. K (false ∷ x)) (λ x. L (false ∷ x)) (reads-behind c M K false reads) (reads-behind c (but M) L false others) ∙ and_on (some c (λ x. K (false ∷ x))) (some c (λ x. L (false ∷ x))) l.0 in
          elim (true_or_false (some c (λ x. K (false ∷ x)))) [
            | inl y ↦ let u : some c (λ x. K (false ∷ x) && L (false ∷ x)) ≡ true = t ∙ y in rw (u, y) (go_on c M K L false j again on low y l.0)
            | inr n ↦ let u : some c (λ x. K (false ∷ x) && L (false ∷ x)) ≡ false = t ∙ n in rw (u, n) (go_on c M K L true j again on low (second_of (some c (λ x. K (false ∷ x))) (some c (λ x. K (true ∷ x))) n h) l.1)
          ]
      | inr later ↦ not_first c M K L j again reads others h k later on low
    ]
