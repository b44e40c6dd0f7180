-- What searches over the values of some bits find.
use Rattle.std.proofs.Common.{◌≡◌, ℕ, zero, suc, List, [], ◌∷◌, Bool, true, false, ◌||◌, not, cond, refl, sym, ap, ◌∙◌, ◌⊎◌, inl, inr, subst, arith, length}
use Rattle.argos_base.specs.Orders.{IsEarlier, digits}
use Rattle.argos_base.specs.SignalSets.{SignalSet}
use Rattle.argos_base.proofs.Bools.{true_or_false, or_cases, or_left, or_right, and_first, and_second, and_both, not_false, false_not, is_false}
use Rattle.eqn_verdict.specs.Laws.{SkippedDontDiffer}
use Rattle.eqn_verdict.specs.Searching.{Test, some, least, with, without, differs, some_differ, answers, least_answers, has_answers}

-- values that pass
pub record Passing (c : ℕ) (f : Test) : Type 0 where
  pub values : SignalSet
  pub sized : length values ≡ c
  pub passes : f values ≡ true

pub some-holds : (c : ℕ) (f : Test) → some c f ≡ true → Passing c f
some-holds zero f h = record { values = []; sized = refl; passes = h }
some-holds (suc c) f h = elim (or_cases _ _ h) [
  | inl l ↦ let p = some-holds c (λ x. f (false ∷ x)) l in record { values = false ∷ p.values; sized = ap suc p.sized; passes = p.passes }
  | inr r ↦ let p = some-holds c (λ x. f (true ∷ x)) r in record { values = true ∷ p.values; sized = ap suc p.sized; passes = p.passes }
]

pub some-from : (c : ℕ) (f : Test) (x : SignalSet) → length x ≡ c → f x ≡ true → some c f ≡ true
some-from zero f [] e h = h
some-from zero f (b ∷ x) e h = absurd (omega arith)
some-from (suc c) f [] e h = absurd (omega arith)
some-from (suc c) f (false ∷ x) e h = or_left _ _ (some-from c (λ x. f (false ∷ x)) x (omega arith) h)
some-from (suc c) f (true ∷ x) e h = or_right (some c (λ x. f (false ∷ x))) _ (some-from c (λ x. f (true ∷ x)) x (omega arith) h)

pub some-none : (c : ℕ) (f : Test) (x : SignalSet) → some c f ≡ false → length x ≡ c → f x ≡ true → ⊥
some-none c f x n e h = let t = some-from c f x e h in cc

-- the least values pass, and no earlier ones do
pub least-passes : (c : ℕ) (f : Test) → some c f ≡ true → (length (least c f) ≡ c) × (f (least c f) ≡ true)
least-passes zero f h = (refl, h)
least-passes (suc c) f h = elim (true_or_false (some c (λ x. f (false ∷ x)))) [
  | inl y ↦ rw y (let p = least-passes c (λ x. f (false ∷ x)) y in (ap suc p.0, p.1))
  | inr n ↦ rw n (let r : some c (λ x. f (true ∷ x)) ≡ true = rw n at h in let p = least-passes c (λ x. f (true ∷ x)) r in (ap suc p.0, p.1))
]

pub least-first : (c : ℕ) (f : Test) (x : SignalSet) → length x ≡ c → f x ≡ true → (x ≡ least c f) ⊎ IsEarlier (digits (least c f)) (digits x)
least-first zero f [] e h = inl refl
least-first zero f (b ∷ x) e h = absurd (omega arith)
least-first (suc c) f [] e h = absurd (omega arith)
least-first (suc c) f (false ∷ x) e h =
    let y : some c (λ x. f (false ∷ x)) ≡ true = some-from c (λ x. f (false ∷ x)) x (omega arith) h in
    rw y (elim (least-first c (λ x. f (false ∷ x)) x (omega arith) h) [ inl s ↦ inl (ap (λ (l : SignalSet). false ∷ l) s) | inr l ↦ inr (inr (refl, l)) ])
least-first (suc c) f (true ∷ x) e h = elim (true_or_false (some c (λ x. f (false ∷ x)))) [
  | inl y ↦ rw y (inr (inl (omega arith)))
  | inr n ↦ rw n (elim (least-first c (λ x. f (true ∷ x)) x (omega arith) h) [ inl s ↦ inl (ap (λ (l : SignalSet). true ∷ l) s) | inr l ↦ inr (inr (refl, l)) ])
]

-- the least answers are answers
pub least-answered : (c : ℕ) (K : Test) (gs : List Test) → some c K ≡ true → (p : Passing c K) × (answers gs p.values ≡ least_answers c K gs)
least-answered c K [] h = (some-holds c K h, refl)
least-answered c K (g ∷ gs) h = elim (true_or_false (some c (without K g))) [
  | inl y ↦ rw y (
      let r = least-answered c (without K g) gs y in
      let x = r.0.values in
      (record { values = x; sized = r.0.sized; passes = and_first (K x) _ r.0.passes }, ap (λ (b : Bool). b ∷ answers gs x) (not_false (g x) (and_second (K x) _ r.0.passes)) ∙ ap (λ (l : List Bool). false ∷ l) r.1))
  | inr n ↦ rw n (
      let r = least-answered c (with K g) gs (all_have n) in
      let x = r.0.values in
      (record { values = x; sized = r.0.sized; passes = and_first (K x) _ r.0.passes }, ap (λ (b : Bool). b ∷ answers gs x) (and_second (K x) _ r.0.passes) ∙ ap (λ (l : List Bool). true ∷ l) r.1))
]
  where
    all_have : some c (without K g) ≡ false → some c (with K g) ≡ true
    all_have n =
        let p = some-holds c K h in
        some-from c (with K g) p.values p.sized (and_both (K p.values) (g p.values) p.passes (has n p (g p.values) refl))
      where
        has : some c (without K g) ≡ false → (p : Passing c K) (b : Bool) → g p.values ≡ b → g p.values ≡ true
        has n p true e = e
        has n p false e = absurd (some-none c (without K g) p.values n p.sized (and_both (K p.values) _ p.passes (false_not (g p.values) e)))

-- and all others are later
pub least-answers-first : (c : ℕ) (K : Test) (gs : List Test) (x : SignalSet) → length x ≡ c → K x ≡ true → (answers gs x ≡ least_answers c K gs) ⊎ IsEarlier (digits (least_answers c K gs)) (digits (answers gs x))
least-answers-first c K [] x e h = inl refl
least-answers-first c K (g ∷ gs) x e h = elim (true_or_false (some c (without K g))) [
  | inl y ↦ rw y (elim (true_or_false (g x)) [
    | inl t ↦ rw t (inr (inl (omega arith)))
    | inr f ↦ rw f (elim (least-answers-first c (without K g) gs x e (and_both (K x) _ h (false_not (g x) f))) [ inl s ↦ inl (ap (λ (l : List Bool). false ∷ l) s) | inr l ↦ inr (inr (refl, l)) ])
  ])
  | inr n ↦ rw n (elim (true_or_false (g x)) [
    | inl t ↦ rw t (elim (least-answers-first c (with K g) gs x e (and_both (K x) _ h t)) [ inl s ↦ inl (ap (λ (l : List Bool). true ∷ l) s) | inr l ↦ inr (inr (refl, l)) ])
    | inr f ↦ absurd (some-none c (without K g) x n e (and_both (K x) _ h (false_not (g x) f)))
  ])
]

-- whether these are the answers
pub has-answers : (gs : List Test) (bits : List Bool) (x : SignalSet) → has_answers gs bits x ≡ true → length bits ≡ length gs → answers gs x ≡ bits
has-answers [] [] x h e = refl
has-answers [] (b ∷ bits) x h e = absurd (omega arith)
has-answers (g ∷ gs) [] x h e = absurd (omega arith)
has-answers (g ∷ gs) (b ∷ bits) x h e = ap (λ (z : Bool). z ∷ answers gs x) (same b (g x) (and_first _ _ h)) ∙ ap (λ (l : List Bool). b ∷ l) (has-answers gs bits x (and_second (cond b (g x) (not (g x))) _ h) (omega arith))
  where
    same : (b a : Bool) → cond b a (not a) ≡ true → a ≡ b
    same true a h = h
    same false true h = cc
    same false false h = refl

pub has-own : (gs : List Test) (x : SignalSet) → has_answers gs (answers gs x) x ≡ true
has-own [] x = refl
has-own (g ∷ gs) x = and_both _ _ (own (g x)) (has-own gs x)
  where
    own : (a : Bool) → cond a a (not a) ≡ true
    own true = refl
    own false = refl

pub has-none : (gs : List Test) (bits : List Bool) (x : SignalSet) → has_answers gs bits x ≡ false → answers gs x ≡ bits → ⊥
has-none gs bits x h e = let own : has_answers gs bits x ≡ true = subst (λ (l : List Bool). has_answers gs l x ≡ true) e (has-own gs x) in cc

-- where no test differs, there is one list of answers
pub same-answers : (c : ℕ) (K : Test) (gs : List Test) (x y : SignalSet) → some_differ c K gs ≡ false → length x ≡ c → length y ≡ c → K x ≡ true → K y ≡ true → answers gs x ≡ answers gs y
same-answers c K [] x y n e f h k = refl
same-answers c K (g ∷ gs) x y n e f h k =
    let here : differs c K g ≡ false = is_false (differs c K g) (λ t. let u : some_differ c K (g ∷ gs) ≡ true = or_left (differs c K g) _ t in cc) in
    let rest : some_differ c K gs ≡ false = is_false (some_differ c K gs) (λ t. let u : some_differ c K (g ∷ gs) ≡ true = or_right (differs c K g) _ t in cc) in
    ap (λ (z : Bool). z ∷ answers gs x) (one here (g x) (g y) refl refl) ∙ ap (λ (l : List Bool). g y ∷ l) (same-answers c K gs x y rest e f h k)
  where
    both : (u v : SignalSet) → length u ≡ c → length v ≡ c → K u ≡ true → K v ≡ true → g u ≡ true → g v ≡ false → differs c K g ≡ true
    both u v eu ev ku kv a b = and_both _ _ (some-from c (with K g) u eu (and_both (K u) (g u) ku a)) (some-from c (without K g) v ev (and_both (K v) _ kv (false_not (g v) b)))

    one : differs c K g ≡ false → (a b : Bool) → g x ≡ a → g y ≡ b → g x ≡ g y
    one n true true p q = p ∙ sym q
    one n false false p q = p ∙ sym q
    one n true false p q = let t = both x y e f h k p q in cc
    one n false true p q = let t = both y x f e k h q p in cc

-- and where one differs, there are two
pub record Two (c : ℕ) (K : Test) (gs : List Test) : Type 0 where
  pub first : Passing c K
  pub second : Passing c K
  pub differ : answers gs first.values ≡ answers gs second.values → ⊥

pub two-answers : (c : ℕ) (K : Test) (gs : List Test) → some_differ c K gs ≡ true → Two c K gs
two-answers c K [] h = cc
two-answers c K (g ∷ gs) h = elim (or_cases (differs c K g) _ h) [
  | inl d ↦
      let p = some-holds c (with K g) (and_first _ _ d) in
      let q = some-holds c (without K g) (and_second (some c (with K g)) _ d) in
      record {
        first = record { values = p.values; sized = p.sized; passes = and_first (K p.values) _ p.passes };
        second = record { values = q.values; sized = q.sized; passes = and_first (K q.values) _ q.passes };
        differ = λ e. let a : g p.values ≡ true = and_second (K p.values) _ p.passes in let b : g q.values ≡ false = not_false (g q.values) (and_second (K q.values) _ q.passes) in let f : g p.values ≡ g q.values = cc in cc;
      }
  | inr r ↦ let t = two-answers c K gs r in record { first = t.first; second = t.second; differ = λ e. let f : answers gs t.first.values ≡ answers gs t.second.values = cc in t.differ f }
]

-- a test that doesn't depend on the values doesn't differ
constant-differs : (c : ℕ) (K g : Test) → ((x y : SignalSet) → length x ≡ c → length y ≡ c → g x ≡ g y) → differs c K g ≡ false
constant-differs c K g h = is_false (differs c K g) (λ t.
    let p = some-holds c (with K g) (and_first _ _ t) in
    let q = some-holds c (without K g) (and_second (some c (with K g)) _ t) in
    let a : g p.values ≡ true = and_second (K p.values) _ p.passes in
    let n : g q.values ≡ false = not_false (g q.values) (and_second (K q.values) _ q.passes) in
    let e : g p.values ≡ g q.values = h p.values q.values p.sized q.sized in
    cc)

pub skipped_dont_differ : SkippedDontDiffer
skipped_dont_differ c K [] gs h = refl
skipped_dont_differ c K (b ∷ flags) [] h = refl
skipped_dont_differ c K (true ∷ flags) (g ∷ gs) h = ap (λ (z : Bool). differs c K g || z) (skipped_dont_differ c K flags gs h.1)
skipped_dont_differ c K (false ∷ flags) (g ∷ gs) h = ap (λ (z : Bool). z || some_differ c K gs) (constant-differs c K g (h.0 refl)) ∙ skipped_dont_differ c K flags gs h.1
