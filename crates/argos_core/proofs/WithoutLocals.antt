-- Where no list of locals has a signal, each configuration has a step on each set, and where transitions that hold together have one effect, only one.
use Rattle.std.proofs.Common.{◌≡◌, ℕ, zero, suc, ◌+◌, ◌<◌, List, [], ◌∷◌, ◌++◌, Option, Some, None, true, false, refl, sym, ap, ◌∙◌, ◌⊎◌, inl, inr, subst, arith, length, slice_get}
use Rattle.argos_base.specs.SignalSets.{SignalSet, has, empty, set_of, set_where, union, without, override}
use Rattle.argos_base.proofs.Bools.{true_or_false}
use Rattle.argos_base.proofs.SetLemmas.{set_where-has}
use Rattle.argos_core.specs.Configurations.{IsElapsed, IsConfiguration, AreOfParts, IsOfState, IsOfBody, entered}
use Rattle.argos_core.specs.Guards.{holds}
use Rattle.argos_core.specs.Modules.{locals_in, locals_in_parts, locals_in_states, locals_in_body}
use Rattle.argos_core.specs.Process.{Transition, Timeout, Rules, Process, automaton, parallel, local, freeze, Processes, no_processes, process, States, no_states, state, Body, no_body, body, Configuration, at, beside, Inner, no_inner, inner, Configurations, no_configurations, configuration}
use Rattle.argos_core.specs.Step.{NoneHolds, IsQuiet, Step, PartsStep, StateSteps, BodySteps, Moves, transition, timeout, count, hold}
use Rattle.argos_core.proofs.Agreement.{Agree, AllAgree, AgreeOf, AgreeIn, AgreeWithin}

left_empty : (xs ys : List ℕ) → xs ++ ys ≡ [] → xs ≡ []
left_empty [] ys h = refl
left_empty (x ∷ xs) ys h = cc

right_empty : (xs ys : List ℕ) → xs ++ ys ≡ [] → ys ≡ []
right_empty [] ys h = h
right_empty (x ∷ xs) ys h = cc

-- an empty list of locals replaces nothing
replaced-none : (n : ℕ) (list : List ℕ) (v p : SignalSet) → list ≡ [] → length v ≡ n → override n list v p ≡ v
replaced-none n (k ∷ list) v p none sized = cc
replaced-none n [] v p none sized = ap (λ m. set_where m (has v)) (sym sized) ∙ set_where-has v

abbrev SomeHolds : List Transition → SignalSet → Type 0
SomeHolds ts v = (k : ℕ) × (t : Transition) × (slice_get ts k ≡ Some t) × (holds t.guard v ≡ true)

later : (t : Transition) (ts : List Transition) (v : SignalSet) → SomeHolds ts v ⊎ NoneHolds ts v → holds t.guard v ≡ false → SomeHolds (t ∷ ts) v ⊎ NoneHolds (t ∷ ts) v
later t ts v (inl h) f = inl (suc h.0, h.1, h.2, h.3)
later t ts v (inr h) f = inr (f, h)

decide : (ts : List Transition) (v : SignalSet) → SomeHolds ts v ⊎ NoneHolds ts v
decide [] v = inr tt
decide (t ∷ ts) v = elim (true_or_false (holds t.guard v)) [ inl h ↦ inl (0, t, refl, h) | inr h ↦ later t ts v (decide ts v) h ]

last_or_not : (e n : ℕ) → e < n → (e + 1 ≡ n) ⊎ (e + 1 < n)
last_or_not e n h = grind arith

module _ (n : ℕ) (r : Rules) (enter : ℕ → Configuration) (q e : ℕ) (BodyMoves : SignalSet → Inner → Type 0) (v : SignalSet) where
  abbrev CanMove : Type 0
  CanMove = (o : SignalSet) × (c' : Configuration) × Moves n r enter q e BodyMoves v o c'

  counts : (w : Option Timeout) (ob : SignalSet) (b' : Inner) → BodyMoves ob b' → NoneHolds r.transitions v → r.timeout ≡ w → IsElapsed w e → CanMove
  counts None ob b' m none is h = (ob, at q e b', hold b' none (rw is tt) m refl)
  counts (Some w) ob b' m none is h = elim (true_or_false (has v w.signal)) [
    | inl s ↦ elim (last_or_not e w.count h) [
      | inl last ↦ (union n (set_of n w.outs) ob, enter w.target, timeout w ob b' none is s last m refl refl)
      | inr more ↦ (ob, at q (e + 1) b', count w b' none is s more m refl)
    ]
    | inr s ↦ (ob, at q e b', hold b' none (rw is s) m refl)
  ]

  can_move : (ob : SignalSet) (b' : Inner) → BodyMoves ob b' → IsElapsed r.timeout e → CanMove
  can_move ob b' m h = elim (decide r.transitions v) [
    | inl t ↦ (union n (set_of n t.1.outs) ob, enter t.1.target, transition t.0 t.1 ob b' t.2 t.3 m refl refl)
    | inr none ↦ counts r.timeout ob b' m none refl h
  ]

mutual
  pub steps : (p : Process) → locals_in p ≡ [] → (n : ℕ) (c : Configuration) (v : SignalSet) → length v ≡ n → IsConfiguration p c → (o : SignalSet) × (c' : Configuration) × Step n p c v o c'
  steps (automaton ss q0) f n (at q e b) v z h = steps_in ss f n q (entered ss) q e b v z h
  steps (automaton ss q0) f n (beside cs) v z h = absurd h
  steps (parallel ps) f n (at q e b) v z h = absurd h
  steps (parallel ps) f n (beside cs) v z h = let r = steps_of ps f n cs v z h in (r.0, beside r.1, (r.1, refl, r.2))
  steps (local list p) f n c v z h =
      let r = steps p (right_empty list (locals_in p) f) n c v z h in
      let same : v ≡ override n list v r.0 = sym (replaced-none n list v r.0 (left_empty list (locals_in p) f) z) in
      (without n list r.0, r.1, (r.0, subst (λ w. Step n p c w r.0 r.1) same r.2, refl))
  steps (freeze s p) f n c v z h = elim (true_or_false (has v s)) [
    | inl a ↦ (empty n, c, inl (a, refl, refl))
    | inr a ↦ let r = steps p f n c v z h in (r.0, r.1, inr (a, r.2))
  ]

  steps_of : (ps : Processes) → locals_in_parts ps ≡ [] → (n : ℕ) (cs : Configurations) (v : SignalSet) → length v ≡ n → AreOfParts ps cs → (o : SignalSet) × (cs' : Configurations) × PartsStep n ps cs v o cs'
  steps_of no_processes f n no_configurations v z h = (empty n, no_configurations, (refl, refl))
  steps_of no_processes f n (configuration c cs) v z h = absurd h
  steps_of (process p ps) f n no_configurations v z h = absurd h
  steps_of (process p ps) f n (configuration c cs) v z h =
      let r = steps p (left_empty (locals_in p) (locals_in_parts ps) f) n c v z h.0 in
      let s = steps_of ps (right_empty (locals_in p) (locals_in_parts ps) f) n cs v z h.1 in
      (union n r.0 s.0, configuration r.1 s.1, (r.0, s.0, r.1, s.1, r.2, s.2, refl, refl))

  steps_in : (ss : States) → locals_in_states ss ≡ [] → (n k : ℕ) (enter : ℕ → Configuration) (q e : ℕ) (b : Inner) (v : SignalSet) → length v ≡ n → IsOfState ss k e b → (o : SignalSet) × (c' : Configuration) × StateSteps n ss k enter q e b v o c'
  steps_in no_states f n k enter q e b v z h = absurd h
  steps_in (state r p ss) f n zero enter q e b v z h =
      let x = steps_within p (left_empty (locals_in_body p) (locals_in_states ss) f) n b v z h.1 in
      can_move n r enter q e (BodySteps n p b v) v x.0 x.1 x.2 h.0
  steps_in (state r p ss) f n (suc k) enter q e b v z h = steps_in ss (right_empty (locals_in_body p) (locals_in_states ss) f) n k enter q e b v z h

  steps_within : (p : Body) → locals_in_body p ≡ [] → (n : ℕ) (b : Inner) (v : SignalSet) → length v ≡ n → IsOfBody p b → (o : SignalSet) × (b' : Inner) × BodySteps n p b v o b'
  steps_within no_body f n no_inner v z h = (empty n, no_inner, (refl, refl))
  steps_within no_body f n (inner c) v z h = absurd h
  steps_within (body p) f n no_inner v z h = absurd h
  steps_within (body p) f n (inner c) v z h = let r = steps p f n c v z h in (r.0, inner r.1, (r.1, refl, r.2))

-- a transition that holds, and none that holds
clash : (ts : List Transition) (k : ℕ) (t : Transition) (v : SignalSet) → slice_get ts k ≡ Some t → holds t.guard v ≡ true → NoneHolds ts v → ⊥
clash [] k t v g h none = cc
clash (x ∷ ts) zero t v g h none = let e : x ≡ t = cc in cc (ap (λ y. holds y.guard v) e, none.0)
clash (x ∷ ts) (suc k) t v g h none = clash ts k t v g h none.1

-- a signal that is counted, and one that isn't
heard : (w : Option Timeout) (t : Timeout) (v : SignalSet) → w ≡ Some t → has v t.signal ≡ true → IsQuiet w v → ⊥
heard None t v is s quiet = cc
heard (Some x) t v is s quiet = let e : x ≡ t = cc in cc (ap (λ y. has v y.signal) e)

module _ (n : ℕ) (r : Rules) (enter : ℕ → Configuration) (q e : ℕ) (BodyMoves : SignalSet → Inner → Type 0) (only : (a b : SignalSet) (x y : Inner) → BodyMoves a x → BodyMoves b y → (a ≡ b) × (x ≡ y)) (v : SignalSet) (sized : length v ≡ n) where
  once : (o o2 : SignalSet) (c c2 : Configuration) → Agree n r.transitions → Moves n r enter q e BodyMoves v o c → Moves n r enter q e BodyMoves v o2 c2 → (o ≡ o2) × (c ≡ c2)
  once o o2 c c2 agree (transition k t ob b' g h m oe ce) (transition k2 t2 ob2 b2 g2 h2 m2 oe2 ce2) =
      let s = agree k k2 t t2 v sized g g2 h h2 in
      let b = only ob ob2 b' b2 m m2 in
      (oe ∙ ap (λ x. union n x ob) s.1 ∙ ap (union n (set_of n t2.outs)) b.0 ∙ sym oe2, ce ∙ ap enter s.0 ∙ sym ce2)
  once o o2 c c2 agree (transition k t ob b' g h m oe ce) (timeout t2 ob2 b2 none is s l m2 a2 ce2) = absurd (clash r.transitions k t v g h none)
  once o o2 c c2 agree (transition k t ob b' g h m oe ce) (count t2 b2 none is s l m2 ce2) = absurd (clash r.transitions k t v g h none)
  once o o2 c c2 agree (transition k t ob b' g h m oe ce) (hold b2 none quiet m2 ce2) = absurd (clash r.transitions k t v g h none)
  once o o2 c c2 agree (timeout t ob b' none is s l m oe ce) (transition k2 t2 ob2 b2 g2 h2 m2 oe2 ce2) = absurd (clash r.transitions k2 t2 v g2 h2 none)
  once o o2 c c2 agree (timeout t ob b' none is s l m oe ce) (timeout t2 ob2 b2 none2 is2 s2 l2 m2 oe2 ce2) =
      let x : t ≡ t2 = cc in
      let b = only ob ob2 b' b2 m m2 in
      (oe ∙ ap (λ y. union n (set_of n y.outs) ob) x ∙ ap (union n (set_of n t2.outs)) b.0 ∙ sym oe2, ce ∙ ap (λ y. enter y.target) x ∙ sym ce2)
  once o o2 c c2 agree (timeout t ob b' none is s l m oe ce) (count t2 b2 none2 is2 s2 l2 m2 ce2) = let x : t ≡ t2 = cc in absurd (omega (arith, ap (λ (y : Timeout). y.count) x))
  once o o2 c c2 agree (timeout t ob b' none is s l m oe ce) (hold b2 none2 quiet m2 ce2) = absurd (heard r.timeout t v is s quiet)
  once o o2 c c2 agree (count t b' none is s l m ce) (transition k2 t2 ob2 b2 g2 h2 m2 oe2 ce2) = absurd (clash r.transitions k2 t2 v g2 h2 none)
  once o o2 c c2 agree (count t b' none is s l m ce) (timeout t2 ob2 b2 none2 is2 s2 l2 m2 oe2 ce2) = let x : t ≡ t2 = cc in absurd (omega (arith, ap (λ (y : Timeout). y.count) x))
  once o o2 c c2 agree (count t b' none is s l m ce) (count t2 b2 none2 is2 s2 l2 m2 ce2) =
      let b = only o o2 b' b2 m m2 in (b.0, ce ∙ ap (at q (e + 1)) b.1 ∙ sym ce2)
  once o o2 c c2 agree (count t b' none is s l m ce) (hold b2 none2 quiet m2 ce2) = absurd (heard r.timeout t v is s quiet)
  once o o2 c c2 agree (hold b' none quiet m ce) (transition k2 t2 ob2 b2 g2 h2 m2 oe2 ce2) = absurd (clash r.transitions k2 t2 v g2 h2 none)
  once o o2 c c2 agree (hold b' none quiet m ce) (timeout t2 ob2 b2 none2 is2 s2 l2 m2 oe2 ce2) = absurd (heard r.timeout t2 v is2 s2 quiet)
  once o o2 c c2 agree (hold b' none quiet m ce) (count t2 b2 none2 is2 s2 l2 m2 ce2) = absurd (heard r.timeout t2 v is2 s2 quiet)
  once o o2 c c2 agree (hold b' none quiet m ce) (hold b2 none2 quiet2 m2 ce2) =
      let b = only o o2 b' b2 m m2 in (b.0, ce ∙ ap (at q e) b.1 ∙ sym ce2)

mutual
  pub same : (p : Process) → locals_in p ≡ [] → (n : ℕ) → AllAgree n p → (c : Configuration) (v o o2 : SignalSet) (c' c2 : Configuration) → length v ≡ n → Step n p c v o c' → Step n p c v o2 c2 → (o ≡ o2) × (c' ≡ c2)
  same (automaton ss q0) f n a (at q e b) v o o2 c' c2 z x y = same_in ss f n a q (entered ss) q e b v o o2 c' c2 z x y
  same (automaton ss q0) f n a (beside cs) v o o2 c' c2 z x y = absurd x
  same (parallel ps) f n a (at q e b) v o o2 c' c2 z x y = absurd x
  same (parallel ps) f n a (beside cs) v o o2 c' c2 z x y =
      let r = same_of ps f n a cs v o o2 x.0 y.0 z x.2 y.2 in (r.0, x.1 ∙ ap beside r.1 ∙ sym y.1)
  same (local list p) f n a c v o o2 c' c2 z (p1, x, oe) (p2, y, oe2) =
      let none : list ≡ [] = left_empty list (locals_in p) f in
      let x1 : Step n p c v p1 c' = subst (λ w. Step n p c w p1 c') (replaced-none n list v p1 none z) x in
      let y1 : Step n p c v p2 c2 = subst (λ w. Step n p c w p2 c2) (replaced-none n list v p2 none z) y in
      let r = same p (right_empty list (locals_in p) f) n a c v p1 p2 c' c2 z x1 y1 in
      (oe ∙ ap (without n list) r.0 ∙ sym oe2, r.1)
  same (freeze s p) f n a c v o o2 c' c2 z (inl x) (inl y) = (cc, cc)
  same (freeze s p) f n a c v o o2 c' c2 z (inl x) (inr y) = cc
  same (freeze s p) f n a c v o o2 c' c2 z (inr x) (inl y) = cc
  same (freeze s p) f n a c v o o2 c' c2 z (inr x) (inr y) = same p f n a c v o o2 c' c2 z x.1 y.1

  same_of : (ps : Processes) → locals_in_parts ps ≡ [] → (n : ℕ) → AgreeOf n ps → (cs : Configurations) (v o o2 : SignalSet) (cs' cs2 : Configurations) → length v ≡ n → PartsStep n ps cs v o cs' → PartsStep n ps cs v o2 cs2 → (o ≡ o2) × (cs' ≡ cs2)
  same_of no_processes f n a no_configurations v o o2 cs' cs2 z x y = (cc, cc)
  same_of no_processes f n a (configuration c cs) v o o2 cs' cs2 z x y = absurd x
  same_of (process p ps) f n a no_configurations v o o2 cs' cs2 z x y = absurd x
  same_of (process p ps) f n a (configuration c cs) v o o2 cs' cs2 z x y =
      let r = same p (left_empty (locals_in p) (locals_in_parts ps) f) n a.0 c v x.0 y.0 x.2 y.2 z x.4 y.4 in
      let s = same_of ps (right_empty (locals_in p) (locals_in_parts ps) f) n a.1 cs v x.1 y.1 x.3 y.3 z x.5 y.5 in
      (cc, cc)

  same_in : (ss : States) → locals_in_states ss ≡ [] → (n : ℕ) → AgreeIn n ss → (k : ℕ) (enter : ℕ → Configuration) (q e : ℕ) (b : Inner) (v o o2 : SignalSet) (c' c2 : Configuration) → length v ≡ n → StateSteps n ss k enter q e b v o c' → StateSteps n ss k enter q e b v o2 c2 → (o ≡ o2) × (c' ≡ c2)
  same_in no_states f n a k enter q e b v o o2 c' c2 z x y = absurd x
  same_in (state r p ss) f n a zero enter q e b v o o2 c' c2 z x y =
      once n r enter q e (BodySteps n p b v) (λ i j d e. same_within p (left_empty (locals_in_body p) (locals_in_states ss) f) n a.1 b v i j d e z) v z o o2 c' c2 a.0 x y
  same_in (state r p ss) f n a (suc k) enter q e b v o o2 c' c2 z x y = same_in ss (right_empty (locals_in_body p) (locals_in_states ss) f) n a.2 k enter q e b v o o2 c' c2 z x y

  same_within : (p : Body) → locals_in_body p ≡ [] → (n : ℕ) → AgreeWithin n p → (b : Inner) (v o o2 : SignalSet) (b' b2 : Inner) → length v ≡ n → BodySteps n p b v o b' → BodySteps n p b v o2 b2 → (o ≡ o2) × (b' ≡ b2)
  same_within no_body f n a no_inner v o o2 b' b2 z x y = (cc, cc)
  same_within no_body f n a (inner c) v o o2 b' b2 z x y = absurd x
  same_within (body p) f n a no_inner v o o2 b' b2 z x y = absurd x
  same_within (body p) f n a (inner c) v o o2 b' b2 z x y =
      let r = same p f n a c v o o2 x.0 y.0 z x.2 y.2 in (r.0, x.1 ∙ ap inner r.1 ∙ sym y.1)
