-- An orderable system in which no local bit depends on itself has a plan.
use Rattle.std.proofs.Common.{◌≡◌, ◌⊎◌, inl, inr, ℕ, zero, suc, ◌+◌, ◌<◌, ◌≤◌, List, [], ◌∷◌, ◌++◌, Some, Bool, true, false, ◌&&◌, ◌||◌, not, nat_eq, length, slice_get, filter, refl, sym, ap, ◌∙◌, subst, arith}
use Rattle.std.specs.List.{list_all}
use Rattle.std.proofs.lemmas.Bool.Decides.{nat_tests}
use Rattle.argos_base.specs.SignalSets.{lists}
use Rattle.argos_base.proofs.Bools.{true_or_false, or_cases, and_first, and_second}
use Rattle.eqn_core.specs.Dependence.{IsCyclicBit}
use Rattle.eqn_core.specs.Equations.{Equations}
use Rattle.eqn_core.specs.Orderable.{IsOrderable}
use Rattle.eqn_core.specs.Plans.{AreCyclicBits, IsPlanOf}
use Rattle.eqn_order.specs.inner.Graphs.{row, Stands, IsEdge, Reach, here, along, AreRows, IsFinishingOrder}
use Rattle.eqn_order.proofs.Places.{within, get-cases, Stands-none, Stands-first, Stands-behind, Stands-either, Stands-keep, Stands-last, Stands-cases, joined, at_most_or_above}
use Rattle.eqn_order.proofs.Planning.{no_cycle, plan_of}
use Rattle.eqn_order.proofs.Edges.{G, graph_rows}

-- Where each member of a list leads to a member, some member leads to itself: the first one is left out, and the ways through it are joined.
cycle_in : (L : ℕ → ℕ → Type 0) → ((x y z : ℕ) → L x y → L y z → L x z) → (x : ℕ) (xs : List ℕ) → ((r : ℕ) → Stands (x ∷ xs) r → (q : ℕ) × Stands (x ∷ xs) q × L r q) → (z : ℕ) × L z z
cycle_in L join x [] leads =
    let s = leads x (Stands-first [] x) in
    elim (Stands-either [] x s.0 s.1) [
      | inl e ↦ (x, subst (λ q. L x q) (sym e) s.2)
      | inr n ↦ Stands-none s.0 n
    ]
cycle_in L join x (y ∷ ys) leads =
    let s = leads x (Stands-first (y ∷ ys) x) in
    elim (Stands-either (y ∷ ys) x s.0 s.1) [
      | inl e ↦ (x, subst (λ q. L x q) (sym e) s.2)
      | inr there ↦ cycle_in L join y ys (λ r st.
          let t = leads r (Stands-behind (y ∷ ys) x r st) in
          elim (Stands-either (y ∷ ys) x t.0 t.1) [
            | inl e ↦ (s.0, there, join r x s.0 (subst (λ q. L r q) (sym e) t.2) s.2)
            | inr more ↦ (t.0, more, t.2)
          ])
    ]

lists_stands : (xs : List ℕ) (k : ℕ) → lists xs k ≡ true → Stands xs k
lists_stands [] k h = cc
lists_stands (x ∷ xs) k h = elim (or_cases (nat_eq x k) (lists xs k) h) [
  | inl e ↦ subst (λ j. Stands (x ∷ xs) j) (let same : x ≡ k = grind (arith, nat_tests) in same) (Stands-first xs x)
  | inr m ↦ Stands-behind xs x k (lists_stands xs k m)
]

stands_lists : (xs : List ℕ) (k : ℕ) → Stands xs k → lists xs k ≡ true
stands_lists [] k h = Stands-none k h
stands_lists (x ∷ xs) k h = elim (Stands-either xs x k h) [
  | inl e ↦ or_here (nat_eq x k) (lists xs k) (let same : nat_eq x k ≡ true = grind (arith, nat_tests) in same)
  | inr s ↦ or_there (nat_eq x k) (lists xs k) (stands_lists xs k s)
]
  where
    or_here : (a b : Bool) → a ≡ true → (a || b) ≡ true
    or_here true b h = refl
    or_here false b h = cc

    or_there : (a b : Bool) → b ≡ true → (a || b) ≡ true
    or_there true b h = refl
    or_there false b h = h

-- a member that passes a test, and what stands around it; or none passes
record Found (test : ℕ → Bool) (xs : List ℕ) : Type 0 where
  it : ℕ
  before : List ℕ
  after : List ℕ
  split : xs ≡ before ++ it ∷ after
  passes : test it ≡ true

search_for : (test : ℕ → Bool) (xs : List ℕ) → Found test xs ⊎ ((r : ℕ) → Stands xs r → test r ≡ false)
search_for test [] = inr (λ r s. Stands-none r s)
search_for test (x ∷ xs) = elim (true_or_false (test x)) [
  | inl t ↦ inl (record { it = x; before = []; after = xs; split = refl; passes = t })
  | inr f ↦ elim (search_for test xs) [
    | inl found ↦ inl (record { it = found.it; before = x ∷ found.before; after = found.after; split = ap (λ (ys : List ℕ). x ∷ ys) found.split; passes = found.passes })
    | inr none ↦ inr (λ r s. elim (Stands-either xs x r s) [ inl e ↦ ap test (sym e) ∙ f | inr later ↦ none r later ])
  ]
]

-- where not all fail a test, one passes
some_passes : (rest xs : List ℕ) → list_all (λ w. not (lists rest w)) xs ≡ false → (w : ℕ) × Stands xs w × Stands rest w
some_passes rest [] h = cc
some_passes rest (x ∷ xs) h = elim (true_or_false (lists rest x)) [
  | inl t ↦ (x, Stands-first xs x, lists_stands rest x t)
  | inr f ↦ let more = some_passes rest xs (rest_fails (lists rest x) _ f h) in (more.0, Stands-behind xs x more.0 more.1, more.2)
]
  where
    rest_fails : (a b : Bool) → a ≡ false → (not a && b) ≡ false → b ≡ false
    rest_fails true b f h = cc
    rest_fails false b f h = h

none_passes : (rest xs : List ℕ) → list_all (λ w. not (lists rest w)) xs ≡ true → (w : ℕ) → Stands xs w → Stands rest w → ⊥
none_passes rest [] h w s r = Stands-none w s
none_passes rest (x ∷ xs) h w s r = elim (Stands-either xs x w s) [
  | inl e ↦ both (lists rest x) (and_first (not (lists rest x)) _ h) (ap (lists rest) e ∙ stands_lists rest w r)
  | inr later ↦ none_passes rest xs (and_second (not (lists rest x)) _ h) w later r
]
  where
    both : (b : Bool) → not b ≡ true → b ≡ true → ⊥
    both true n t = cc
    both false n t = cc

abbrev below : ℕ → ℕ → List ℕ
below zero k = []
below (suc n) k = k ∷ below n (suc k)

length-below : (n k : ℕ) → length (below n k) ≡ n
length-below zero k = refl
length-below (suc n) k = ap suc (length-below n (suc k))

below-all : (n k v : ℕ) → k ≤ v → v < k + n → Stands (below n k) v
below-all zero k v l h = absurd (omega arith)
below-all (suc n) k v l h = elim (at_most_or_above v k) [
  | inl e ↦ subst (λ j. Stands (below (suc n) k) j) (let same : k ≡ v = omega arith in same) (Stands-first (below n (suc k)) k)
  | inr m ↦ Stands-behind (below n (suc k)) k v (below-all n (suc k) v (omega arith) (omega arith))
]

below-inside : (n k v : ℕ) → Stands (below n k) v → v < k + n
below-inside zero k v s = Stands-none v s
below-inside (suc n) k v s = elim (Stands-either (below n (suc k)) k v s) [
  | inl e ↦ omega arith
  | inr later ↦ let h = below-inside n (suc k) v later in omega arith
]

-- what stands in a list stands before a member, is the member, or stands behind it
stands_split : (before after : List ℕ) (x v : ℕ) → Stands (before ++ x ∷ after) v → (x ≡ v) ⊎ Stands (before ++ after) v
stands_split [] after x v s = Stands-either after x v s
stands_split (b ∷ before) after x v s = elim (Stands-either (before ++ x ∷ after) b v s) [
  | inl e ↦ inr (subst (λ j. Stands (b ∷ (before ++ after)) j) e (Stands-first (before ++ after) b))
  | inr later ↦ elim (stands_split before after x v later) [ inl e ↦ inl e | inr more ↦ inr (Stands-behind (before ++ after) b v more) ]
]

stands_around : (before after : List ℕ) (x v : ℕ) → Stands (before ++ after) v → Stands (before ++ x ∷ after) v
stands_around [] after x v s = Stands-behind after x v s
stands_around (b ∷ before) after x v s = elim (Stands-either (before ++ after) b v s) [
  | inl e ↦ subst (λ j. Stands (b ∷ (before ++ x ∷ after)) j) e (Stands-first (before ++ x ∷ after) b)
  | inr later ↦ Stands-behind (before ++ x ∷ after) b v (stands_around before after x v later)
]

stands_it : (before after : List ℕ) (x : ℕ) → Stands (before ++ x ∷ after) x
stands_it [] after x = Stands-first after x
stands_it (b ∷ before) after x = Stands-behind (before ++ x ∷ after) b x (stands_it before after x)

length-around : (before after : List ℕ) (x : ℕ) → length (before ++ x ∷ after) ≡ suc (length (before ++ after))
length-around [] after x = refl
length-around (b ∷ before) after x = ap suc (length-around before after x)

length-push : (xs : List ℕ) (x : ℕ) → length (xs ++ x ∷ []) ≡ suc (length xs)
length-push [] x = refl
length-push (y ∷ xs) x = ap suc (length-push xs x)

module _ (R : List (List ℕ)) (rows : AreRows R) (acyclic : (v w : ℕ) → IsEdge R v w → Reach R w v → ⊥) where
  -- one edge or more
  abbrev Leads : ℕ → ℕ → Type 0
  Leads v w = (u : ℕ) × IsEdge R v u × Reach R u w

  leads_on : (x y z : ℕ) → Leads x y → Leads y z → Leads x z
  leads_on x y z a b = (a.0, a.1, joined R a.0 y z a.2 (along y b.0 z b.1 b.2))

  -- Some lines are in order: each stands behind those that it leads to, and leads to none of the rest.
  record Sorts (done rest : List ℕ) : Type 0 where
    each : (v : ℕ) → v < length R → Stands done v ⊎ Stands rest v
    done_inside : (v : ℕ) → Stands done v → v < length R
    rest_inside : (v : ℕ) → Stands rest v → v < length R
    counted : length done + length rest ≡ length R
    ordered : (i k x z : ℕ) → slice_get done i ≡ Some x → slice_get done k ≡ Some z → IsEdge R x z → k < i
    closed : (x w : ℕ) → Stands done x → Stands rest w → IsEdge R x w → ⊥

  -- a line that leads to none of the rest
  abbrev free_of : List ℕ → ℕ → Bool
  free_of rest v = list_all (λ w. not (lists rest w)) (row R v)

  one_free : (r : ℕ) (rest : List ℕ) → Found (free_of (r ∷ rest)) (r ∷ rest)
  one_free r rest = elim (search_for (free_of (r ∷ rest)) (r ∷ rest)) [
    | inl found ↦ found
    | inr none ↦
        let c = cycle_in Leads leads_on r rest (λ v s. let w = some_passes (r ∷ rest) (row R v) (none v s) in (w.0, w.2, (w.0, w.1, here w.0))) in
        absurd (acyclic c.0 c.1.0 c.1.1 c.1.2)
  ]

  step : (done rest : List ℕ) → Sorts done rest → (f : Found (free_of rest) rest) → Sorts (done ++ f.it ∷ []) (f.before ++ f.after)
  step done rest s f = record {
    each = λ v l. elim (s.each v l) [
      | inl d ↦ inl (Stands-keep done (f.it ∷ []) v d)
      | inr r ↦ elim (stands_split f.before f.after f.it v (subst (λ xs. Stands xs v) f.split r)) [
        | inl e ↦ inl (subst (λ j. Stands (done ++ f.it ∷ []) j) e (Stands-last done f.it))
        | inr more ↦ inr more
      ]
    ];
    done_inside = λ v st. elim (Stands-cases done f.it v st) [
      | inl d ↦ s.done_inside v d
      | inr e ↦ subst (λ j. j < length R) e (s.rest_inside f.it there)
    ];
    rest_inside = λ v st. s.rest_inside v (still v st);
    counted = let a = length-push done f.it in let b = ap length f.split ∙ length-around f.before f.after f.it in let c = s.counted in omega (arith, a, b, c);
    ordered = λ i k x z a b g. elim (get-cases done f.it i x a) [
      | inl old ↦ elim (get-cases done f.it k z b) [
        | inl old' ↦ s.ordered i k x z old old' g
        | inr new' ↦ absurd (s.closed x f.it (record { place = i; is = old }) there (subst (λ j. IsEdge R x j) (sym new'.1) g))
      ]
      | inr new ↦ elim (get-cases done f.it k z b) [
        | inl old' ↦ (let w = within done k z old' in omega (arith, new.0, w))
        | inr new' ↦ absurd (none_passes rest (row R f.it) f.passes f.it (subst (λ j. IsEdge R f.it j) (sym new'.1) (subst (λ j. IsEdge R j z) (sym new.1) g)) there)
      ]
    ];
    closed = λ x w d r g. elim (Stands-cases done f.it x d) [
      | inl old ↦ s.closed x w old (still w r) g
      | inr e ↦ none_passes rest (row R f.it) f.passes w (subst (λ j. IsEdge R j w) (sym e) g) (still w r)
    ];
  }
    where
      there : Stands rest f.it
      there = subst (λ xs. Stands xs f.it) (sym f.split) (stands_it f.before f.after f.it)

      still : (v : ℕ) → Stands (f.before ++ f.after) v → Stands rest v
      still v st = subst (λ xs. Stands xs v) (sym f.split) (stands_around f.before f.after f.it v st)

  finish : (done : List ℕ) → Sorts done [] → IsFinishingOrder R done
  finish done s = record {
    sized = let c = s.counted in omega (arith, c);
    each = λ v l. elim (s.each v l) [ inl d ↦ d | inr n ↦ Stands-none v n ];
    inside = s.done_inside;
    folded = λ i j k x y z a b p q r g. absurd (let l = s.ordered i k x z p r g in omega arith);
  }

  go : (n : ℕ) (done rest : List ℕ) → length rest ≡ n → Sorts done rest → (F : List ℕ) × IsFinishingOrder R F
  go n done [] e s = (done, finish done s)
  go zero done (r ∷ rest) e s = absurd (omega arith)
  go (suc n) done (r ∷ rest) e s =
      let f = one_free r rest in
      let shorter : length (f.before ++ f.after) ≡ n = (let a = ap length f.split ∙ length-around f.before f.after f.it in omega (arith, a, e)) in
      go n (done ++ f.it ∷ []) (f.before ++ f.after) shorter (step done (r ∷ rest) s f)

  pub order_exists : (F : List ℕ) × IsFinishingOrder R F
  order_exists = go (length R) [] (below (length R) 0) (length-below (length R) 0) (record {
    each = λ v l. inr (below-all (length R) 0 v (omega arith) (omega arith));
    done_inside = λ v st. Stands-none v st;
    rest_inside = λ v st. let h = below-inside (length R) 0 v st in omega arith;
    counted = let e = length-below (length R) 0 in omega arith;
    ordered = λ i k x z a b g. cc;
    closed = λ x w d r g. Stands-none x d;
  })

none_chosen : (xs : List ℕ) → [] ≡ filter (λ k. false) xs
none_chosen [] = refl
none_chosen (x ∷ xs) = none_chosen xs

pub plan_exists : (E : Equations) → IsOrderable E → ((k : ℕ) → lists E.locals k ≡ true → ¬ (IsCyclicBit E k)) → (F : List ℕ) × IsPlanOf E F []
plan_exists E o acyclic =
    let all : (k : ℕ) → lists E.locals k ≡ true → IsCyclicBit E k → lists [] k ≡ true = λ k l h. absurd (acyclic k l h) in
    let f = order_exists (G E []) (graph_rows E []) (no_cycle E [] o all) in
    let none : AreCyclicBits E [] = record { test = λ k. false; exact = λ k l. (λ h. cc, λ h. absurd (acyclic k l h)); is = none_chosen E.locals } in
    (f.0, plan_of E [] f.0 o none f.1)
