-- A plan lists each place once, and places with their lines.
use Rattle.std.proofs.Common.{◌≡◌, ℕ, zero, suc, ◌+◌, ◌<◌, ◌≤◌, List, [], ◌∷◌, ◌++◌, true, false, cond, nat_eq, nat_lt, refl, sym, ap, ◌∙◌, ◌⊎◌, inl, inr, subst, arith, length, take, drop, length-append}
use Rattle.std.specs.Prelude.{slice_index_or}
use Rattle.std.proofs.lemmas.Bool.{cases_lt}
use Rattle.std.proofs.lemmas.Bool.Decides.{nat_tests}
use Rattle.std.proofs.lemmas.List.{take-append-drop, drop_more, take_at, length-take-le, take_more, get_or_at}
use Rattle.argos_base.specs.SignalSets.{lists}
use Rattle.argos_base.proofs.Bools.{or_cases, or_left, or_right}
use Rattle.eqn_core.specs.Equations.{Line, all, Equations, line_weight, lines_weight}
use Rattle.eqn_core.specs.Dependence.{Item, defined_item, Defines}
use Rattle.eqn_core.specs.Plans.{IsKnown, input, register, given, earlier_line}
use Rattle.eqn_completion.specs.Moving.{line_at}
use Rattle.eqn_completion.proofs.Completing.{split_at}
use Rattle.eqn_completion.proofs.Reading.{nat_eq-tells}

-- sums over lists of numbers
abbrev pub sum_over : (ℕ → ℕ) → List ℕ → ℕ
sum_over f [] = 0
sum_over f (x ∷ xs) = f x + sum_over f xs

abbrev pub sum_below : (ℕ → ℕ) → ℕ → ℕ
sum_below f zero = 0
sum_below f (suc n) = f n + sum_below f n

sum-append : (f : ℕ → ℕ) (xs ys : List ℕ) → sum_over f (xs ++ ys) ≡ sum_over f xs + sum_over f ys
sum-append f [] ys = omega arith
sum-append f (x ∷ xs) ys = omega (arith, sum-append f xs ys)

lists-append : (xs ys : List ℕ) (k : ℕ) → lists (xs ++ ys) k ≡ true → (lists xs k ≡ true) ⊎ (lists ys k ≡ true)
lists-append [] ys k h = inr h
lists-append (x ∷ xs) ys k h = elim (or_cases (nat_eq x k) _ h) [
  | inl e ↦ inl (or_left _ _ e)
  | inr r ↦ elim (lists-append xs ys k r) [ inl l ↦ inl (or_right (nat_eq x k) _ l) | inr l ↦ inr l ]
]

pub lists-left : (xs ys : List ℕ) (k : ℕ) → lists xs k ≡ true → lists (xs ++ ys) k ≡ true
lists-left [] ys k h = cc
lists-left (x ∷ xs) ys k h = elim (or_cases (nat_eq x k) _ h) [ inl e ↦ or_left _ _ e | inr r ↦ or_right (nat_eq x k) _ (lists-left xs ys k r) ]

pub lists-right : (xs ys : List ℕ) (k : ℕ) → lists ys k ≡ true → lists (xs ++ ys) k ≡ true
lists-right [] ys k h = h
lists-right (x ∷ xs) ys k h = or_right (nat_eq x k) _ (lists-right xs ys k h)

pub sum-listed : (f : ℕ → ℕ) (n : ℕ) (xs : List ℕ) → length xs ≡ n → ((k : ℕ) → k < n → lists xs k ≡ true) → sum_over f xs ≡ sum_below f n
sum-listed f zero [] e h = refl
sum-listed f zero (x ∷ xs) e h = absurd (omega arith)
sum-listed f (suc n) xs e h =
    let w = split_at xs n (h n (omega arith)) in
    let size : length (w.front ++ w.back) ≡ n = omega (arith, e, ap length w.is, length-append w.front (n ∷ w.back), length-append w.front w.back) in
    let rest = sum-listed f n (w.front ++ w.back) size (λ k below. elim (lists-append w.front (n ∷ w.back) k (subst (λ (l : List ℕ). lists l k ≡ true) w.is (h k (omega arith)))) [
      | inl l ↦ lists-left w.front w.back k l
      | inr r ↦ elim (or_cases (nat_eq n k) _ r) [ inl same ↦ let s = nat_eq-tells n k same in absurd (omega arith) | inr b ↦ lists-right w.front w.back k b ]
    ]) in
    ap (sum_over f) w.is ∙ omega (arith, sum-append f w.front (n ∷ w.back), sum-append f w.front w.back, rest)

some-of-sum : (f : ℕ → ℕ) (xs : List ℕ) (k : ℕ) → lists xs k ≡ true → f k ≤ sum_over f xs
some-of-sum f [] k h = cc
some-of-sum f (x ∷ xs) k h = elim (or_cases (nat_eq x k) _ h) [
  | inl e ↦ let s = ap f (nat_eq-tells x k e) in omega arith
  | inr r ↦ let t = some-of-sum f xs k r in omega arith
]

none-below : (n m : ℕ) → m ≤ n → sum_below (λ k. cond (nat_lt k n) 0 1) m ≡ 0
none-below n zero h = refl
none-below n (suc m) h = rw (lt m n h) (let r = none-below n m (omega arith) in omega arith)
  where
    lt : (m n : ℕ) → suc m ≤ n → nat_lt m n ≡ true
    lt m n h = grind (arith, nat_tests)

-- all places of a plan exist
pub in-range : (n : ℕ) (xs : List ℕ) (p : ℕ) → length xs ≡ n → ((k : ℕ) → k < n → lists xs k ≡ true) → lists xs p ≡ true → p < n
in-range n xs p e h l =
    let f : ℕ → ℕ = λ k. cond (nat_lt k n) 0 1 in
    let total : sum_over f xs ≡ 0 = sum-listed f n xs e h ∙ none-below n n (omega arith) in
    elim (cases_lt p n) [
      | inl low ↦ low
      | inr high ↦ let t = some-of-sum f xs p l in let g : f p ≡ 1 = rw (not_lt p n high) refl in absurd (omega arith)
    ]
  where
    not_lt : (p n : ℕ) → n ≤ p → nat_lt p n ≡ false
    not_lt p n h = grind (arith, nat_tests)

-- the weight of lines is the sum over their places
pub weight-below : (ls : List Line) (n : ℕ) → n ≤ length ls → sum_below (λ k. line_weight (slice_index_or ls k (all []))) n ≡ lines_weight (take n ls)
weight-below ls zero h = refl
weight-below ls (suc n) h =
    let e : take (n + 1) ls ≡ take n ls ++ slice_index_or ls n (all []) ∷ [] = take_more ls n (all []) (omega arith) in
    let f : suc n ≡ n + 1 = omega arith in
    omega (arith, weight-below ls n (omega arith), ap lines_weight (ap (λ (k : ℕ). take k ls) f ∙ e), weight-push (take n ls) (slice_index_or ls n (all [])))
  where
    weight-push : (xs : List Line) (l : Line) → lines_weight (xs ++ l ∷ []) ≡ lines_weight xs + line_weight l
    weight-push [] l = omega arith
    weight-push (x ∷ xs) l = omega (arith, weight-push xs l)

-- the item at a place
abbrev pub item_at : Equations → ℕ → Item
item_at E p = defined_item E (take p E.lines) (line_at E p)

pub defines-at : (E : Equations) (p : ℕ) → p < length E.lines → Defines E p (line_at E p) (item_at E p)
defines-at E p h = record {
  before = take p E.lines;
  after = drop (p + 1) E.lines;
  stands = sym (take-append-drop p E.lines) ∙ ap (λ (l : List Line). take p E.lines ++ l) (drop_more E.lines p (all []) h);
  place_is = length-take-le p E.lines (omega arith);
  is = refl;
}

pub line-is : (E : Equations) (p : ℕ) (l : Line) (x : Item) → Defines E p l x → l ≡ line_at E p
line-is E p l x d = sym (ap (λ (ls : List Line). slice_index_or ls p (all [])) d.stands ∙ get_or_at d.before l d.after (all []) p d.place_is)

pub item-is : (E : Equations) (p : ℕ) (l : Line) (x : Item) → Defines E p l x → x ≡ item_at E p
item-is E p l x d =
    sym d.is ∙ ap (defined_item E d.before) (line-is E p l x d) ∙ ap (λ (b : List Line). defined_item E b (line_at E p)) (sym (take_at d.before (l ∷ d.after) p d.place_is) ∙ ap (take p) (sym d.stands))

-- what is known with one more place
pub known-more : (E : Equations) (cyclic earlier : List ℕ) (p : ℕ) (y : Item) → IsKnown E (earlier ++ p ∷ []) cyclic y → IsKnown E earlier cyclic y ⊎ (y ≡ item_at E p)
known-more E cyclic earlier p y (input k low) = inl (input k low)
known-more E cyclic earlier p y (register k low) = inl (register k low)
known-more E cyclic earlier p y (given k is) = inl (given k is)
known-more E cyclic earlier p y (earlier_line z place l d is) = elim (lists-append earlier (p ∷ []) place is) [
  | inl old ↦ inl (earlier_line z place l d old)
  | inr new ↦ elim (or_cases (nat_eq p place) _ new) [
    | inl e ↦ inr (item-is E place l z d ∙ ap (item_at E) (sym (nat_eq-tells p place e)))
    | inr never ↦ absurd (let g : false ≡ true = never in cc)
  ]
]
