-- The set of the signals whose value is true: signal by signal, and as the least of its kind.
use Rattle.std.proofs.Common.{◌≡◌, ℕ, zero, suc, ◌+◌, ◌<◌, ◌≤◌, List, [], ◌∷◌, Option, Some, Bool, true, false, ◌||◌, cond, if◌then◌else◌, nat_eq, map, length, get_or, take, drop, slice_get, slice_set, refl, sym, ap, ◌∙◌, subst, arith, inl, inr, ◌⊎◌}
use Rattle.std.specs.List.{filter, range_with_len}
use Rattle.std.proofs.lemmas.List.{get_or-set_same, get_or-set_other}
use Rattle.argos_base.specs.Orders.{IsEarlier, digit, digits}
use Rattle.argos_base.specs.SignalSets.{SignalSet, has, lists, set_of, empty}
use Rattle.argos_base.specs.declared.signals.SigId.{SigId}
use Rattle.argos_base.proofs.Bools.{or_left, or_right, or_cases, true_or_false, is_false}
use Rattle.argos_base.proofs.SetLemmas.{length-set_where, has-set_where, has-below, same_set}
use Rattle.argos_core.specs.Views.{numbers}
use Rattle.argos_core.proofs.Numbers.{same_or_other, nat_eq-at, nat_eq-other, nat_eq-same}
use Rattle.dd_ops.specs.Least.{IsBefore}
use Rattle.instant_check.specs.inner.Chosen.{chosen}
use Rattle.instant_check.proofs.EffectLists.{true_and_false}
use Rattle.instant_check.proofs.Places.{nat_eq-true}

-- ---- signal by signal

has-put : (s : SignalSet) (j k : ℕ) → j < length s → has (slice_set s j true) k ≡ (nat_eq j k || has s k)
has-put s j k below = elim (same_or_other j k) [
  | inl same ↦ let at_j : has (slice_set s j true) j ≡ true = get_or-set_same s j true false below in
      ap (has (slice_set s j true)) (sym same) ∙ at_j ∙ sym (or_left (nat_eq j k) (has s k) (nat_eq-at j k same))
  | inr other ↦ get_or-set_other s j k true false (λ e. other (sym e)) ∙ ap (λ z. z || has s k) (sym (nat_eq-other j k other))
]

length-put : (s : SignalSet) (j : ℕ) → length (slice_set s j true) ≡ length s
length-put [] j = refl
length-put (b ∷ s) zero = refl
length-put (b ∷ s) (suc j) = ap suc (length-put s j)

or_swap : (a b c : Bool) → ((a || b) || c) ≡ (b || (a || c))
or_swap true true c = refl
or_swap true false c = refl
or_swap false b c = refl

or-false : (a : Bool) → (a || false) ≡ a
or-false true = refl
or-false false = refl

-- the chosen ones of those that are left
abbrev pub left_chosen : List SigId → List Bool → ℕ → List ℕ
left_chosen signals values i = chosen (numbers (drop i signals)) (drop i values)

left_chosen-next : (signals : List SigId) (values : List Bool) (i : ℕ) (d : SigId) → i < length signals → i < length values → left_chosen signals values i ≡ (if get_or values i false then (get_or signals i d).0 ∷ left_chosen signals values (i + 1) else left_chosen signals values (i + 1))
left_chosen-next [] values i d below inside = absurd (omega arith)
left_chosen-next (s ∷ signals) [] i d below inside = absurd (omega arith)
left_chosen-next (s ∷ signals) (v ∷ values) zero d below inside = refl
left_chosen-next (s ∷ signals) (v ∷ values) (suc i) d below inside =
    left_chosen-next signals values i d (omega arith) (omega arith)
    ∙ ap (λ (k : ℕ). if get_or values i false then (get_or signals i d).0 ∷ left_chosen (s ∷ signals) (v ∷ values) k else left_chosen (s ∷ signals) (v ∷ values) k) (let e : suc (i + 1) ≡ suc i + 1 = omega arith in e)

numbers-past : (signals : List SigId) (i : ℕ) → length signals ≤ i → numbers (drop i signals) ≡ []
numbers-past [] zero all = refl
numbers-past [] (suc i) all = refl
numbers-past (s ∷ signals) zero all = absurd (omega arith)
numbers-past (s ∷ signals) (suc i) all = numbers-past signals i (omega arith)

left_chosen-none : (signals : List SigId) (values : List Bool) (i : ℕ) → length signals ≤ i → left_chosen signals values i ≡ []
left_chosen-none signals values i all = ap (λ (l : List ℕ). chosen l (drop i values)) (numbers-past signals i all)

-- what is in the set so far, with what is left, is what is chosen
pub record ChosenUpTo (n : ℕ) (signals : List SigId) (values : List Bool) (i : ℕ) (set : SignalSet) : Type 0 where
  pub sized : length set ≡ n
  pub same : (k : ℕ) → k < n → (has set k || lists (left_chosen signals values i) k) ≡ lists (chosen (numbers signals) values) k

pub chosen_begin : (n : ℕ) (signals : List SigId) (values : List Bool) → ChosenUpTo n signals values 0 (empty n)
chosen_begin n signals values = record {
  sized = length-set_where n (λ k. false);
  same = λ k below. ap (λ (b : Bool). b || lists (chosen (numbers signals) values) k) (has-set_where n (λ j. false) k below);
}

pub chosen_taken : {n : ℕ} {set : SignalSet} (signals : List SigId) (values : List Bool) (i : ℕ) (d : SigId) → i < length signals → i < length values → (get_or signals i d).0 < n → get_or values i false ≡ true → ChosenUpTo n signals values i set → ChosenUpTo n signals values (i + 1) (slice_set set (get_or signals i d).0 true)
chosen_taken {n} {set} signals values i d below inside small on before = record {
  sized = length-put set (get_or signals i d).0 ∙ before.sized;
  same = λ k k_below.
      let s = (get_or signals i d).0 in
      let rest = left_chosen signals values (i + 1) in
      let next : left_chosen signals values i ≡ s ∷ rest = left_chosen-next signals values i d below inside ∙ ap (λ (b : Bool). if b then s ∷ rest else rest) on in
      ap (λ (b : Bool). b || lists rest k) (has-put set s k (subst (λ (m : ℕ). s < m) (sym before.sized) small))
      ∙ or_swap (nat_eq s k) (has set k) (lists rest k)
      ∙ ap (λ (l : List ℕ). has set k || lists l k) (sym next)
      ∙ before.same k k_below;
}

pub chosen_passed : {n : ℕ} {set : SignalSet} (signals : List SigId) (values : List Bool) (i : ℕ) (d : SigId) → i < length signals → i < length values → get_or values i false ≡ false → ChosenUpTo n signals values i set → ChosenUpTo n signals values (i + 1) set
chosen_passed {n} {set} signals values i d below inside off before = record {
  sized = before.sized;
  same = λ k k_below.
      let s = (get_or signals i d).0 in
      let rest = left_chosen signals values (i + 1) in
      let next : left_chosen signals values i ≡ rest = left_chosen-next signals values i d below inside ∙ ap (λ (b : Bool). if b then s ∷ rest else rest) off in
      ap (λ (l : List ℕ). has set k || lists l k) (sym next) ∙ before.same k k_below;
}

pub chosen_all : {n : ℕ} {set : SignalSet} (signals : List SigId) (values : List Bool) (i : ℕ) → length signals ≤ i → ChosenUpTo n signals values i set → set ≡ set_of n (chosen (numbers signals) values)
chosen_all {n} {set} signals values i all is =
    let picked = chosen (numbers signals) values in
    same_set set (set_of n picked) (is.sized ∙ sym (length-set_where n (lists picked))) (λ k below.
    let k_below : k < n = subst (λ (m : ℕ). k < m) is.sized below in
    sym (or-false (has set k))
    ∙ ap (λ (l : List ℕ). has set k || lists l k) (sym (left_chosen-none signals values i all))
    ∙ is.same k k_below
    ∙ sym (has-set_where n (lists picked) k k_below))

-- ---- among signals in order

-- each number is below those behind it
abbrev pub Ascends : List ℕ → Type 0
Ascends [] = Unit {0}
Ascends (s ∷ signals) = ((k : ℕ) → lists signals k ≡ true → s < k) × Ascends signals

-- what a filtered range lists is in the range and passes the test
filtered-cons : (b : Bool) (a : ℕ) (rest : List ℕ) (k : ℕ) → lists (cond b (a ∷ rest) rest) k ≡ true → ((b ≡ true) × (a ≡ k)) ⊎ (lists rest k ≡ true)
filtered-cons true a rest k h = elim (or_cases (nat_eq a k) (lists rest k) h) [
  | inl e ↦ inl (refl, nat_eq-true a k e)
  | inr r ↦ inr r
]
filtered-cons false a rest k h = inr h

pub record PassesWithin (p : ℕ → Bool) (a n k : ℕ) : Type 0 where
  pub from : a ≤ k
  pub below : k < a + n
  pub passes : p k ≡ true

pub filtered : (p : ℕ → Bool) (a n k : ℕ) → lists (filter p (range_with_len a n)) k ≡ true → PassesWithin p a n k
filtered p a zero k h = cc
filtered p a (suc n) k h = elim (filtered-cons (p a) a (filter p (range_with_len (a + 1) n)) k h) [
  | inl here ↦ record { from = omega (arith, here.1); below = omega (arith, here.1); passes = ap p (sym here.1) ∙ here.0 }
  | inr later ↦ later_on (filtered p (a + 1) n k later)
]
  where
    later_on : PassesWithin p (a + 1) n k → PassesWithin p a (suc n) k
    later_on r = record { from = (let f = r.from in omega (arith, f)); below = (let b = r.below in omega (arith, b)); passes = r.passes }

listed-cons : (b : Bool) (a : ℕ) (rest : List ℕ) (k : ℕ) → lists rest k ≡ true → lists (cond b (a ∷ rest) rest) k ≡ true
listed-cons true a rest k h = or_right (nat_eq a k) (lists rest k) h
listed-cons false a rest k h = h

listed-head : (b : Bool) (a : ℕ) (rest : List ℕ) → b ≡ true → lists (cond b (a ∷ rest) rest) a ≡ true
listed-head true a rest h = or_left (nat_eq a a) (lists rest a) (nat_eq-same a)
listed-head false a rest h = cc

-- and it lists each of these
pub listed_passing : (p : ℕ → Bool) (a n k : ℕ) → a ≤ k → k < a + n → p k ≡ true → lists (filter p (range_with_len a n)) k ≡ true
listed_passing p a zero k from below h = absurd (omega arith)
listed_passing p a (suc n) k from below h = elim (same_or_other a k) [
  | inl same ↦ subst (λ (z : ℕ). lists (filter p (range_with_len a (suc n))) z ≡ true) same (listed-head (p a) a (filter p (range_with_len (a + 1) n)) (ap p same ∙ h))
  | inr other ↦ listed-cons (p a) a (filter p (range_with_len (a + 1) n)) k (listed_passing p (a + 1) n k (omega (arith, other)) (omega arith) h)
]

ascends-cons : (b : Bool) (a : ℕ) (rest : List ℕ) → ((k : ℕ) → lists rest k ≡ true → a < k) → Ascends rest → Ascends (cond b (a ∷ rest) rest)
ascends-cons true a rest above up = (above, up)
ascends-cons false a rest above up = up

pub filtered_ascends : (p : ℕ → Bool) (a n : ℕ) → Ascends (filter p (range_with_len a n))
filtered_ascends p a zero = tt
filtered_ascends p a (suc n) = ascends-cons (p a) a (filter p (range_with_len (a + 1) n)) (λ k h. let f = (filtered p (a + 1) n k h).from in omega (arith, f)) (filtered_ascends p (a + 1) n)

filtered-fewer : (b : Bool) (a : ℕ) (rest : List ℕ) → length (cond b (a ∷ rest) rest) ≤ length rest + 1
filtered-fewer true a rest = omega arith
filtered-fewer false a rest = omega arith

pub length-filtered : (p : ℕ → Bool) (a n : ℕ) → length (filter p (range_with_len a n)) ≤ n
length-filtered p a zero = omega arith
length-filtered p a (suc n) = let f = filtered-fewer (p a) a (filter p (range_with_len (a + 1) n)) in let r = length-filtered p (a + 1) n in omega (arith, f, r)

-- ---- the set has these values at the signals

chosen-listed : (signals : List ℕ) (values : List Bool) (k : ℕ) → lists (chosen signals values) k ≡ true → lists signals k ≡ true
chosen-listed [] values k h = h
chosen-listed (s ∷ signals) [] k h = cc
chosen-listed (s ∷ signals) (true ∷ values) k h = elim (or_cases (nat_eq s k) (lists (chosen signals values) k) h) [
  | inl e ↦ or_left (nat_eq s k) (lists signals k) e
  | inr r ↦ or_right (nat_eq s k) (lists signals k) (chosen-listed signals values k r)
]
chosen-listed (s ∷ signals) (false ∷ values) k h = or_right (nat_eq s k) (lists signals k) (chosen-listed signals values k h)

map_agree : (signals : List ℕ) (f g : ℕ → Bool) → ((k : ℕ) → lists signals k ≡ true → f k ≡ g k) → map f signals ≡ map g signals
map_agree [] f g same = refl
map_agree (s ∷ signals) f g same =
    ap (λ (b : Bool). b ∷ map f signals) (same s (or_left (nat_eq s s) (lists signals s) (nat_eq-same s)))
    ∙ ap (λ (l : List Bool). g s ∷ l) (map_agree signals f g (λ k h. same k (or_right (nat_eq s k) (lists signals k) h)))

values-chosen : (signals : List ℕ) (values : List Bool) → Ascends signals → length values ≡ length signals → map (lists (chosen signals values)) signals ≡ values
values-chosen [] [] up sized = refl
values-chosen [] (v ∷ values) up sized = absurd (omega arith)
values-chosen (s ∷ signals) [] up sized = absurd (omega arith)
values-chosen (s ∷ signals) (true ∷ values) up sized =
    ap (λ (b : Bool). b ∷ map (lists (s ∷ chosen signals values)) signals) (or_left (nat_eq s s) (lists (chosen signals values) s) (nat_eq-same s))
    ∙ ap (λ (l : List Bool). true ∷ l) (map_agree signals (lists (s ∷ chosen signals values)) (lists (chosen signals values)) (λ k h. ap (λ (b : Bool). b || lists (chosen signals values) k) (nat_eq-other s k (λ e. absurd (let a = up.0 k h in omega (arith, a)))))
    ∙ values-chosen signals values up.1 (omega arith))
values-chosen (s ∷ signals) (false ∷ values) up sized =
    ap (λ (b : Bool). b ∷ map (lists (chosen signals values)) signals) (is_false (lists (chosen signals values) s) (λ h. absurd (let a = up.0 s (chosen-listed signals values s h) in omega (arith, a))))
    ∙ ap (λ (l : List Bool). false ∷ l) (values-chosen signals values up.1 (omega arith))

pub values-set : (n : ℕ) (signals : List ℕ) (values : List Bool) → Ascends signals → ((k : ℕ) → lists signals k ≡ true → k < n) → length values ≡ length signals → map (has (set_of n (chosen signals values))) signals ≡ values
values-set n signals values up small sized =
    map_agree signals (has (set_of n (chosen signals values))) (lists (chosen signals values)) (λ k h. has-set_where n (lists (chosen signals values)) k (small k h))
    ∙ values-chosen signals values up sized

-- it has signals of the list alone
pub set-among : (n : ℕ) (signals : List ℕ) (values : List Bool) (k : ℕ) → has (set_of n (chosen signals values)) k ≡ true → lists signals k ≡ true
set-among n signals values k h =
    let picked = chosen signals values in
    let below : k < n = subst (λ (m : ℕ). k < m) (length-set_where n (lists picked)) (has-below (set_of n picked) k h) in
    chosen-listed signals values k (sym (has-set_where n (lists picked) k below) ∙ h)

-- ---- sets of such signals are compared by these values

pub record IsAmong (n : ℕ) (signals : List ℕ) (S : SignalSet) : Type 0 where
  pub sized : length S ≡ n
  pub among : (k : ℕ) → has S k ≡ true → lists signals k ≡ true

one_value : (signals : List ℕ) (f g : ℕ → Bool) → map f signals ≡ map g signals → (k : ℕ) → lists signals k ≡ true → f k ≡ g k
one_value [] f g same k h = cc
one_value (s ∷ signals) f g same k h = elim (or_cases (nat_eq s k) (lists signals k) h) [
  | inl e ↦ subst (λ (z : ℕ). f z ≡ g z) (nat_eq-true s k e) first
  | inr r ↦ one_value signals f g rest k r
]
  where
    first : f s ≡ g s
    first = cc

    rest : map f signals ≡ map g signals
    rest = cc

pub one_among : {n : ℕ} {signals : List ℕ} {A B : SignalSet} → IsAmong n signals A → IsAmong n signals B → map (has A) signals ≡ map (has B) signals → A ≡ B
one_among {n} {signals} {A} {B} a b same = same_set A B (a.sized ∙ sym b.sized) (λ k below. at k (true_or_false (lists signals k)))
  where
    at : (k : ℕ) → (lists signals k ≡ true) ⊎ (lists signals k ≡ false) → has A k ≡ has B k
    at k (inl h) = one_value signals (has A) (has B) same k h
    at k (inr h) = is_false (has A k) (λ on. true_and_false (a.among k on) h) ∙ sym (is_false (has B k) (λ on. true_and_false (b.among k on) h))

-- where an earlier set first differs, it lacks what the later one has
record FirstDiffers (A B : SignalSet) : Type 0 where
  place : ℕ
  off : has A place ≡ false
  on : has B place ≡ true
  same : (j : ℕ) → j < place → has A j ≡ has B j

first_digits : (a b : Bool) → digit a < digit b → (a ≡ false) × (b ≡ true)
first_digits true true h = absurd (omega arith)
first_digits true false h = absurd (omega arith)
first_digits false true h = (refl, refl)
first_digits false false h = absurd (omega arith)

same_digits : (a b : Bool) → digit a ≡ digit b → a ≡ b
same_digits true true h = refl
same_digits true false h = absurd (omega arith)
same_digits false true h = absurd (omega arith)
same_digits false false h = refl

first_place : (A B : SignalSet) → IsEarlier (digits A) (digits B) → FirstDiffers A B
first_place [] B e = absurd e
first_place (a ∷ A) [] e = absurd e
first_place (a ∷ A) (b ∷ B) (inl less) = let d = first_digits a b less in record { place = 0; off = d.0; on = d.1; same = λ j below. absurd (omega arith) }
first_place (a ∷ A) (b ∷ B) (inr rest) =
    let r = first_place A B rest.1 in
    record { place = suc r.place; off = r.off; on = r.on; same = λ j below. at r j below }
  where
    at : (r : FirstDiffers A B) (j : ℕ) → j < suc r.place → has (a ∷ A) j ≡ has (b ∷ B) j
    at r zero below = same_digits a b rest.0
    at r (suc j) below = r.same j (omega arith)

-- below the signal at a place the two have the same
same_before : (signals : List ℕ) (place q : ℕ) (f g : ℕ → Bool) → Ascends signals → take place (map f signals) ≡ take place (map g signals) → slice_get signals place ≡ Some q → (k : ℕ) → lists signals k ≡ true → k < q → f k ≡ g k
same_before [] place q f g up same at k h less = cc
same_before (s ∷ signals) zero q f g up same at k h less = absurd (away (or_cases (nat_eq s k) (lists signals k) h))
  where
    here : s ≡ q
    here = cc

    away : (nat_eq s k ≡ true) ⊎ (lists signals k ≡ true) → ⊥
    away (inl e) = let same_k = nat_eq-true s k e in let here_q = here in omega (arith, same_k, here_q)
    away (inr r) = let above = up.0 k r in let here_q = here in omega (arith, above, here_q)
same_before (s ∷ signals) (suc place) q f g up same at k h less = elim (or_cases (nat_eq s k) (lists signals k) h) [
  | inl e ↦ subst (λ (z : ℕ). f z ≡ g z) (nat_eq-true s k e) first
  | inr r ↦ same_before signals place q f g up.1 rest at k r less
]
  where
    first : f s ≡ g s
    first = cc

    rest : take place (map f signals) ≡ take place (map g signals)
    rest = cc

value_at : (signals : List ℕ) (place : ℕ) (f : ℕ → Bool) (b : Bool) → slice_get (map f signals) place ≡ Some b → (q : ℕ) × (slice_get signals place ≡ Some q) × (f q ≡ b) × (lists signals q ≡ true)
value_at [] place f b at = cc
value_at (s ∷ signals) zero f b at = (s, refl, (let e : f s ≡ b = cc in e), or_left (nat_eq s s) (lists signals s) (nat_eq-same s))
value_at (s ∷ signals) (suc place) f b at =
    let r = value_at signals place f b at in
    (r.0, r.1, r.2, or_right (nat_eq s r.0) (lists signals r.0) r.3)

-- a set whose values go before stands before
pub not_earlier : {n : ℕ} {signals : List ℕ} {A B : SignalSet} → Ascends signals → IsAmong n signals A → IsAmong n signals B → IsBefore (map (has A) signals) (map (has B) signals) → ¬ (IsEarlier (digits B) (digits A))
not_earlier {n} {signals} {A} {B} up a b before e =
    let r = first_place B A e in
    let here = value_at signals before.place (has A) false before.here in
    let there = value_at signals before.place (has B) true before.there in
    let same_q : here.0 ≡ there.0 = one_number (sym here.1 ∙ there.1) in
    let q = here.0 in
    elim (compare r.place q) [
      | inl less ↦ true_and_false r.on (same_before signals before.place q (has A) (has B) up before.same here.1 r.place (a.among r.place r.on) less ∙ r.off)
      | inr more ↦ elim more [
        | inl same ↦ true_and_false (ap (has A) (sym same) ∙ r.on) here.2
        | inr greater ↦ true_and_false (ap (has B) same_q ∙ there.2) (r.same q greater ∙ here.2)
      ]
    ]
  where
    one_number : {x y : ℕ} → ◌≡◌ {A = Option ℕ} (Some x) (Some y) → x ≡ y
    one_number h = cc

    compare : (x y : ℕ) → (x < y) ⊎ ((x ≡ y) ⊎ (y < x))
    compare x y = grind arith
