-- Where a valuation is settled, a process steps as it says, on each set that agrees with it where the process reads from outside, and its locals are those of the valuation.
use Rattle.std.proofs.Common.{◌≡◌, ℕ, zero, suc, ◌<◌, List, [], ◌∷◌, ◌++◌, Option, Some, None, Bool, true, ◌&&◌, ◌||◌, not, nat_lt, if◌then◌else◌, refl, sym, ap, ◌∙◌, inl, inr, subst, arith, length, slice_get}
use Rattle.argos_base.specs.SignalSets.{SignalSet, has, lists, set_where, union, override}
use Rattle.argos_base.proofs.Bools.{true_or_false}
use Rattle.argos_base.proofs.SetLemmas.{length-set_where, has-set_where}
use Rattle.argos_core.specs.Configurations.{IsElapsed, IsConfiguration, AreOfParts, IsOfState, IsOfBody, entered}
use Rattle.argos_core.specs.Guards.{holds}
use Rattle.argos_core.specs.Modules.{Scope, within_locals, IsScoped, AreScopedParts, AreScopedStates, IsScopedBody, locals_in, locals_in_parts, locals_in_states, locals_in_body}
use Rattle.argos_core.specs.Process.{Transition, Timeout, Rules, Process, automaton, parallel, local, freeze, Processes, no_processes, process, States, no_states, state, Body, no_body, body, Configuration, at, beside, Inner, no_inner, inner, Configurations, no_configurations, configuration}
use Rattle.argos_core.specs.Step.{NoneHolds, Step, Moves, transition, timeout, count, hold}
use Rattle.eqn_scheme.specs.inner.Settled.{Outcome, timed, outcome, outcome_in, own_emits, moved, emits_at, emits_at_parts, emits_at_state, emits_at_body, next_at, next_at_parts, next_at_state, next_at_body, IsSettled, AreSettled, IsSettledState, IsSettledBody}
use Rattle.eqn_scheme.specs.Settled.{among, StepWith, PartsStepWith, StateStepsWith, BodyStepsWith}
use Rattle.eqn_scheme.proofs.Listing.{below_or_not, last_or_not, has-beyond, lists-append}
use Rattle.eqn_scheme.proofs.PresentLocals.{among-absent, among-nothing, among-append, among-left, among-right, among-agree, steps}
use Rattle.eqn_scheme.proofs.ReadGuards.{AgreeOn, outcome_in-scoped}
use Rattle.eqn_scheme.proofs.SetAlgebra.{union-where, without-where}

-- what one state does
module _ (n : ℕ) (r : Rules) (enter : ℕ → Configuration) (q e : ℕ) (BodyMoves : SignalSet → Inner → Type 0) (u : SignalSet) (be : ℕ → Bool) (b' : Inner) (m : BodyMoves (set_where n be) b') where
  abbrev Does : Outcome → Type 0
  Does o = Moves n r enter q e BodyMoves u (set_where n (λ j. own_emits o j || be j)) (moved enter q e o b')

  does_timed : (w : Option Timeout) → r.timeout ≡ w → NoneHolds r.transitions u → IsElapsed w e → Does (timed w e u)
  does_timed None is none h = hold b' none (rw is tt) m refl
  does_timed (Some w) is none h = elim (true_or_false (has u w.signal)) [
    | inl s ↦ elim (last_or_not e w.count h) [
      | inl last ↦ rw (s, last.0) (timeout w (set_where n be) b' none is s last.1 m (sym (union-where n (lists w.outs) be)) refl)
      | inr more ↦ rw (s, more.0) (count w b' none is s more.1 m refl)
    ]
    | inr s ↦ rw s (hold b' none (rw is s) m refl)
  ]

  does_from : (ts : List Transition) → ((k : ℕ) (t : Transition) → slice_get ts k ≡ Some t → (j : ℕ) × (slice_get r.transitions j ≡ Some t)) → (NoneHolds ts u → NoneHolds r.transitions u) → IsElapsed r.timeout e → Does (outcome ts r.timeout e u)
  does_from [] finds none h = does_timed r.timeout refl (none tt) h
  does_from (t ∷ ts) finds none h = elim (true_or_false (holds t.guard u)) [
    | inl y ↦ let place = finds 0 t refl in rw y (transition place.0 t (set_where n be) b' place.1 y m (sym (union-where n (lists t.outs) be)) refl)
    | inr y ↦ rw y (does_from ts (λ k x g. finds (suc k) x g) (λ rest. none (y, rest)) h)
  ]

  does : IsElapsed r.timeout e → Does (outcome r.transitions r.timeout e u)
  does h = does_from r.transitions (λ k t g. (k, g)) (λ x. x) h

-- the set that is heard under a `local` agrees with the valuation
pub heard_agrees : (n : ℕ) (s : Scope) (list : List ℕ) (u v p : SignalSet) → length u ≡ n → length v ≡ n → AgreeOn s u v → ((k : ℕ) → k < n → lists list k ≡ true → has v k ≡ has p k) → AgreeOn (within_locals s list) (override n list u p) v
heard_agrees n s list u v p su sv a closed k readable = elim (below_or_not k n) [
  | inl below ↦ has-set_where n (λ j. if lists list j then has p j else has u j) k below ∙ inside below
  | inr beyond ↦ has-beyond _ k (omega (arith, length-set_where n (λ j. if lists list j then has p j else has u j))) ∙ sym (has-beyond v k (omega arith))
]
  where
    inside : k < n → (if lists list k then has p k else has u k) ≡ has v k
    inside below = elim (true_or_false (lists list k)) [
      | inl y ↦ rw y (sym (closed k below y))
      | inr y ↦ rw y (a k (ap (λ b. nat_lt k s.inputs || (b || lists s.locals k)) (sym y) ∙ ap (λ b. nat_lt k s.inputs || b) (sym (lists-append list s.locals k)) ∙ readable))
    ]

mutual
  pub settles_with : (p : Process) (s : Scope) (n : ℕ) (c : Configuration) (u v : SignalSet) → length u ≡ n → length v ≡ n → IsScoped s p → IsConfiguration p c → AgreeOn s u v → IsSettled n p c v → StepWith n p c u (among n (locals_in p) v) (set_where n (emits_at p c v)) (next_at p c v)
  settles_with (automaton ss q0) s n (at q e b) u v su sv h k a x = settles_in ss s n q (entered ss) q e b u v su sv h.1 k a x
  settles_with (automaton ss q0) s n (beside cs) u v su sv h k a x = absurd k
  settles_with (parallel ps) s n (at q e b) u v su sv h k a x = absurd k
  settles_with (parallel ps) s n (beside cs) u v su sv h k a x = (next_at_parts ps cs v, refl, settles_of ps s n cs u v su sv h k a x)
  settles_with (local list p) s n c u v su sv h k a x =
      let e = set_where n (emits_at p c v) in
      let same : (j : ℕ) → j < n → lists list j ≡ true → has v j ≡ has e j = λ j below l. x.0 j below l ∙ sym (has-set_where n (emits_at p c v) j below) in (
        e,
        among n (locals_in p) v,
        settles_with p (within_locals s list) n c (override n list u e) v (length-set_where n _) sv h k (heard_agrees n s list u v e su sv a same) x.1,
        sym (without-where n list (emits_at p c v)),
        sym (among-append n list (locals_in p) v) ∙ ap (λ z. union n z (among n (locals_in p) v)) (among-agree n list v e same),
      )
  settles_with (freeze w p) s n c u v su sv h k a x = elim (true_or_false (has v w)) [
    | inl y ↦ inl (a w h.0 ∙ y, ap (λ b. set_where n (λ j. not b && emits_at p c v j)) y, rw y refl, sym (among-absent n (locals_in p) v (x.0 y)))
    | inr y ↦ inr (a w h.0 ∙ y, subst (λ b. StepWith n p c u (among n (locals_in p) v) (set_where n (λ j. not b && emits_at p c v j)) (if b then c else next_at p c v)) (sym y) (settles_with p s n c u v su sv h.1 k a (x.1 y)))
  ]

  settles_of : (ps : Processes) (s : Scope) (n : ℕ) (cs : Configurations) (u v : SignalSet) → length u ≡ n → length v ≡ n → AreScopedParts s ps → AreOfParts ps cs → AgreeOn s u v → AreSettled n ps cs v
      → PartsStepWith n ps cs u (among n (locals_in_parts ps) v) (set_where n (emits_at_parts ps cs v)) (next_at_parts ps cs v)
  settles_of no_processes s n no_configurations u v su sv h k a x = (refl, refl, sym (among-nothing n v))
  settles_of no_processes s n (configuration c cs) u v su sv h k a x = absurd k
  settles_of (process p ps) s n no_configurations u v su sv h k a x = absurd k
  settles_of (process p ps) s n (configuration c cs) u v su sv h k a x = (
    among n (locals_in p) v,
    among n (locals_in_parts ps) v,
    set_where n (emits_at p c v),
    set_where n (emits_at_parts ps cs v),
    next_at p c v,
    next_at_parts ps cs v,
    settles_with p s n c u v su sv h.0 k.0 a x.0,
    settles_of ps s n cs u v su sv h.1 k.1 a x.1,
    sym (union-where n (emits_at p c v) (emits_at_parts ps cs v)),
    refl,
    sym (among-append n (locals_in p) (locals_in_parts ps) v),
  )

  settles_in : (ss : States) (s : Scope) (n i : ℕ) (enter : ℕ → Configuration) (q e : ℕ) (b : Inner) (u v : SignalSet) → length u ≡ n → length v ≡ n → AreScopedStates s ss → IsOfState ss i e b → AgreeOn s u v → IsSettledState n ss i b v
      → StateStepsWith n ss i enter q e b u (among n (locals_in_states ss) v) (set_where n (λ j. own_emits (outcome_in ss i e v) j || emits_at_state ss i b v j)) (moved enter q e (outcome_in ss i e v) (next_at_state ss i b v))
  settles_in no_states s n i enter q e b u v su sv h k a x = absurd k
  settles_in (state r p ss) s n zero enter q e b u v su sv h k a x =
      let l = among n (locals_in_body p ++ locals_in_states ss) v in
      let m : BodyStepsWith n p b u l (set_where n (emits_at_body p b v)) (next_at_body p b v) = subst (λ z. BodyStepsWith n p b u z (set_where n (emits_at_body p b v)) (next_at_body p b v)) (among-left n (locals_in_body p) (locals_in_states ss) v x.1) (settles_within p s n b u v su sv h.2 k.1 a x.0) in
      subst (λ o. Moves n r enter q e (BodyStepsWith n p b u l) u (set_where n (λ j. own_emits o j || emits_at_body p b v j)) (moved enter q e o (next_at_body p b v))) (outcome_in-scoped (state r p ss) s zero e u v h a)
      (does n r enter q e (BodyStepsWith n p b u l) u (emits_at_body p b v) (next_at_body p b v) m k.0)
  settles_in (state r p ss) s n (suc i) enter q e b u v su sv h k a x =
      subst (λ z. StateStepsWith n ss i enter q e b u z (set_where n (λ j. own_emits (outcome_in ss i e v) j || emits_at_state ss i b v j)) (moved enter q e (outcome_in ss i e v) (next_at_state ss i b v))) (among-right n (locals_in_body p) (locals_in_states ss) v x.0)
      (settles_in ss s n i enter q e b u v su sv h.3 k a x.1)

  settles_within : (p : Body) (s : Scope) (n : ℕ) (b : Inner) (u v : SignalSet) → length u ≡ n → length v ≡ n → IsScopedBody s p → IsOfBody p b → AgreeOn s u v → IsSettledBody n p b v → BodyStepsWith n p b u (among n (locals_in_body p) v) (set_where n (emits_at_body p b v)) (next_at_body p b v)
  settles_within no_body s n no_inner u v su sv h k a x = (refl, refl, sym (among-nothing n v))
  settles_within no_body s n (inner c) u v su sv h k a x = absurd k
  settles_within (body p) s n no_inner u v su sv h k a x = absurd k
  settles_within (body p) s n (inner c) u v su sv h k a x = (next_at p c v, refl, settles_with p s n c u v su sv h k a x)

pub settles : (p : Process) (s : Scope) (n : ℕ) (c : Configuration) (u v : SignalSet) → length u ≡ n → length v ≡ n → IsScoped s p → IsConfiguration p c → AgreeOn s u v → IsSettled n p c v → Step n p c u (set_where n (emits_at p c v)) (next_at p c v)
settles p s n c u v su sv h k a x = steps p n c u (among n (locals_in p) v) (set_where n (emits_at p c v)) (next_at p c v) (settles_with p s n c u v su sv h k a x)
