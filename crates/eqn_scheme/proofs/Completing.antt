-- Each step settles: there are values of the locals with which every valuation that agrees with what the process hears is settled, and says this step and its locals.
use Rattle.std.proofs.Common.{◌≡◌, ℕ, zero, suc, ◌+◌, ◌<◌, List, [], ◌∷◌, Option, Some, None, Bool, true, false, ◌&&◌, ◌||◌, not, refl, sym, ap, ◌∙◌, inl, inr, arith, length, slice_get}
use Rattle.argos_base.specs.SignalSets.{SignalSet, has, lists, set_where, set_of, union, without, override}
use Rattle.argos_base.proofs.Bools.{true_or_false}
use Rattle.argos_base.proofs.SetLemmas.{length-set_where, has-set_where}
use Rattle.argos_core.specs.Configurations.{entered}
use Rattle.argos_core.specs.Guards.{holds}
use Rattle.argos_core.specs.Modules.{Scope, within_locals, IsScoped, AreScopedParts, AreScopedStates, IsScopedBody, locals_in, locals_in_parts, locals_in_states, locals_in_body}
use Rattle.argos_core.specs.Process.{Transition, Timeout, Rules, Process, automaton, parallel, local, freeze, Processes, no_processes, process, States, no_states, state, Body, no_body, body, Configuration, at, beside, Inner, no_inner, inner, Configurations, no_configurations, configuration}
use Rattle.argos_core.specs.Step.{NoneHolds, IsQuiet, Moves, transition, timeout, count, hold}
use Rattle.argos_core.proofs.Agreement.{Agree, AllAgree, AgreeOf, AgreeIn, AgreeWithin}
use Rattle.eqn_scheme.specs.inner.Settled.{leaves, counts, stays, timed, outcome, outcome_in, own_emits, moved, emits_at, emits_at_parts, emits_at_state, emits_at_body, next_at, next_at_parts, next_at_state, next_at_body, IsSettled, AreSettled, IsSettledState, IsSettledBody}
use Rattle.eqn_scheme.specs.Settled.{among, StepWith, PartsStepWith, StateStepsWith, BodyStepsWith}
use Rattle.eqn_scheme.proofs.Listing.{Once, once-left, once-right, Takes, first_on, takes-left, takes-right, last_or_not}
use Rattle.eqn_scheme.proofs.PresentLocals.{among-absent, among-nothing, among-append, among-left, among-right, among-agree}
use Rattle.eqn_scheme.proofs.ReadGuards.{AgreeOn, outcome_in-scoped}
use Rattle.eqn_scheme.proofs.SetAlgebra.{union-where, without-where}
use Rattle.eqn_scheme.proofs.Settling.{heard_agrees}

-- which outcome it is

record First (ts : List Transition) (w : Option Timeout) (e : ℕ) (u : SignalSet) : Type 0 where
  place : ℕ
  it : Transition
  at_place : slice_get ts place ≡ Some it
  holds_there : holds it.guard u ≡ true
  is : outcome ts w e u ≡ leaves it.outs it.target

first_taken : (ts : List Transition) (w : Option Timeout) (e : ℕ) (u : SignalSet) (k : ℕ) (t : Transition) → slice_get ts k ≡ Some t → holds t.guard u ≡ true → First ts w e u
first_taken [] w e u k t g h = cc
first_taken (x ∷ ts) w e u zero t g h =
    let same : x ≡ t = cc in
    let y : holds x.guard u ≡ true = ap (λ (z : Transition). holds z.guard u) same ∙ h in
    record { place = 0; it = x; at_place = refl; holds_there = y; is = rw y refl }
first_taken (x ∷ ts) w e u (suc k) t g h = elim (true_or_false (holds x.guard u)) [
  | inl y ↦ record { place = 0; it = x; at_place = refl; holds_there = y; is = rw y refl }
  | inr y ↦ let r = first_taken ts w e u k t g h in record { place = suc r.place; it = r.it; at_place = r.at_place; holds_there = r.holds_there; is = rw y r.is }
]

outcome-none : (ts : List Transition) (w : Option Timeout) (e : ℕ) (u : SignalSet) → NoneHolds ts u → outcome ts w e u ≡ timed w e u
outcome-none [] w e u h = refl
outcome-none (t ∷ ts) w e u h = rw h.0 (outcome-none ts w e u h.1)

timed-last : (w : Option Timeout) (x : Timeout) (e : ℕ) (u : SignalSet) → w ≡ Some x → has u x.signal ≡ true → e + 1 ≡ x.count → timed w e u ≡ leaves x.outs x.target
timed-last w x e u is s last = rw (is, s) (elim (last_or_not e x.count (omega arith)) [ inl y ↦ rw y.0 refl | inr y ↦ absurd (omega (arith, y.1)) ])

timed-count : (w : Option Timeout) (x : Timeout) (e : ℕ) (u : SignalSet) → w ≡ Some x → has u x.signal ≡ true → e + 1 < x.count → timed w e u ≡ counts
timed-count w x e u is s more = rw (is, s) (elim (last_or_not e x.count (omega arith)) [ inl y ↦ absurd (omega (arith, y.1)) | inr y ↦ rw y.0 refl ])

timed-quiet : (w : Option Timeout) (e : ℕ) (u : SignalSet) → IsQuiet w u → timed w e u ≡ stays
timed-quiet None e u h = refl
timed-quiet (Some w) e u h = rw h refl

-- what a move does
module _ (n : ℕ) (r : Rules) (enter : ℕ → Configuration) (q e : ℕ) (BodyMoves : SignalSet → Inner → Type 0) (u : SignalSet) where
  record Did (o : SignalSet) (c' : Configuration) : Type 0 where
    ob : SignalSet
    b' : Inner
    body_moves : BodyMoves ob b'
    emitted : (be : ℕ → Bool) → ob ≡ set_where n be → o ≡ set_where n (λ j. own_emits (outcome r.transitions r.timeout e u) j || be j)
    next : c' ≡ moved enter q e (outcome r.transitions r.timeout e u) b'

  did : (o : SignalSet) (c' : Configuration) → length u ≡ n → Agree n r.transitions → Moves n r enter q e BodyMoves u o c' → Did o c'
  did o c' sized agree (transition k t ob b' g h m oe ce) =
      let f = first_taken r.transitions r.timeout e u k t g h in
      let same = agree k f.place t f.it u sized g f.at_place h f.holds_there in
      record {
        ob = ob;
        b' = b';
        body_moves = m;
        emitted = λ be is. rw f.is (oe ∙ ap (λ x. union n x ob) same.1 ∙ ap (union n (set_of n f.it.outs)) is ∙ union-where n (lists f.it.outs) be);
        next = rw f.is (ce ∙ ap enter same.0);
      }
  did o c' sized agree (timeout w ob b' none is s l m oe ce) =
      let f : outcome r.transitions r.timeout e u ≡ leaves w.outs w.target = outcome-none r.transitions r.timeout e u none ∙ timed-last r.timeout w e u is s l in
      record {
        ob = ob;
        b' = b';
        body_moves = m;
        emitted = λ be is. rw f (oe ∙ ap (union n (set_of n w.outs)) is ∙ union-where n (lists w.outs) be);
        next = rw f ce;
      }
  did o c' sized agree (count w b' none is s l m ce) =
      let f : outcome r.transitions r.timeout e u ≡ counts = outcome-none r.transitions r.timeout e u none ∙ timed-count r.timeout w e u is s l in
      record { ob = o; b' = b'; body_moves = m; emitted = λ be is. rw f is; next = rw f ce }
  did o c' sized agree (hold b' none quiet m ce) =
      let f : outcome r.transitions r.timeout e u ≡ stays = outcome-none r.transitions r.timeout e u none ∙ timed-quiet r.timeout e u quiet in
      record { ob = o; b' = b'; body_moves = m; emitted = λ be is. rw f is; next = rw f ce }

-- what is to be found: values of the locals, with which each valuation that agrees from outside is as wanted
pub record Completed (n : ℕ) (s : Scope) (locals : List ℕ) (u : SignalSet) (Wanted : SignalSet → Type 0) : Type 0 where
  pub values : ℕ → Bool
  pub fits : (v : SignalSet) → length v ≡ n → AgreeOn s u v → Takes n values locals v → Wanted v

abbrev pub Says : ℕ → Process → Configuration → SignalSet → SignalSet → Configuration → SignalSet → Type 0
Says n p c l o c' v = IsSettled n p c v × (o ≡ set_where n (emits_at p c v)) × (c' ≡ next_at p c v) × (l ≡ among n (locals_in p) v)

abbrev PartsSay : ℕ → Processes → Configurations → SignalSet → SignalSet → Configurations → SignalSet → Type 0
PartsSay n ps cs l o cs' v = AreSettled n ps cs v × (o ≡ set_where n (emits_at_parts ps cs v)) × (cs' ≡ next_at_parts ps cs v) × (l ≡ among n (locals_in_parts ps) v)

abbrev StateSays : ℕ → States → ℕ → (ℕ → Configuration) → ℕ → ℕ → Inner → SignalSet → SignalSet → Configuration → SignalSet → Type 0
StateSays n ss i enter q e b l o c' v =
    IsSettledState n ss i b v × (o ≡ set_where n (λ j. own_emits (outcome_in ss i e v) j || emits_at_state ss i b v j)) × (c' ≡ moved enter q e (outcome_in ss i e v) (next_at_state ss i b v)) × (l ≡ among n (locals_in_states ss) v)

abbrev BodySays : ℕ → Body → Inner → SignalSet → SignalSet → Inner → SignalSet → Type 0
BodySays n p b l o b' v = IsSettledBody n p b v × (o ≡ set_where n (emits_at_body p b v)) × (b' ≡ next_at_body p b v) × (l ≡ among n (locals_in_body p) v)

mutual
  pub completes : (p : Process) (s : Scope) (n : ℕ) (c : Configuration) (u l o : SignalSet) (c' : Configuration) → length u ≡ n → IsScoped s p → AllAgree n p → Once (locals_in p) → StepWith n p c u l o c' → Completed n s (locals_in p) u (Says n p c l o c')
  completes (automaton ss q0) s n (at q e b) u l o c' su h a once x = let r = completes_in ss s n q (entered ss) q e b u l o c' su h.1 a once x in record { values = r.values; fits = r.fits }
  completes (automaton ss q0) s n (beside cs) u l o c' su h a once x = absurd x
  completes (parallel ps) s n (at q e b) u l o c' su h a once x = absurd x
  completes (parallel ps) s n (beside cs) u l o c' su h a once x =
      let r = completes_of ps s n cs u l o x.0 su h a once x.2 in
      record { values = r.values; fits = λ v sv g t. let f = r.fits v sv g t in (f.0, f.1, x.1 ∙ ap beside f.2, f.3) }
  completes (local list p) s n c u l o c' su h a once (emitted, inside, x, oe, le) =
      let r = completes p (within_locals s list) n c (override n list u emitted) inside emitted c' (length-set_where n _) h a (once-right list (locals_in p) once) x in
      record {
        values = first_on list (has emitted) r.values;
        fits = λ v sv g t.
            let here = takes-left n list (locals_in p) (has emitted) r.values v t in
            let f = r.fits v sv (heard_agrees n s list u v emitted su sv g here) (takes-right n list (locals_in p) (has emitted) r.values v once t) in (
              ((λ k below l. here k below l ∙ ap (λ z. has z k) f.1 ∙ has-set_where n (emits_at p c v) k below), f.0),
              oe ∙ ap (without n list) f.1 ∙ without-where n list (emits_at p c v),
              f.2,
              le ∙ ap (λ z. union n z inside) (among-agree n list emitted v (λ k below l. sym (here k below l))) ∙ ap (union n (among n list v)) f.3 ∙ among-append n list (locals_in p) v,
            );
      }
  completes (freeze w p) s n c u l o c' su h a once (inl x) = record {
    values = λ k. false;
    fits = λ v sv g t.
        let y : has v w ≡ true = sym (g w h.0) ∙ x.0 in
        (((λ z. t), (λ z. cc)), x.1 ∙ ap (λ b. set_where n (λ j. not b && emits_at p c v j)) (sym y), x.2 ∙ rw y refl, x.3 ∙ among-absent n (locals_in p) v t);
  }
  completes (freeze w p) s n c u l o c' su h a once (inr x) =
      let r = completes p s n c u l o c' su h.1 a once x.1 in
      record {
        values = r.values;
        fits = λ v sv g t.
            let f = r.fits v sv g t in
            let y : has v w ≡ false = sym (g w h.0) ∙ x.0 in
            (((λ z. cc), (λ z. f.0)), f.1 ∙ ap (λ b. set_where n (λ j. not b && emits_at p c v j)) (sym y), f.2 ∙ rw y refl, f.3);
      }

  completes_of : (ps : Processes) (s : Scope) (n : ℕ) (cs : Configurations) (u l o : SignalSet) (cs' : Configurations) → length u ≡ n → AreScopedParts s ps → AgreeOf n ps → Once (locals_in_parts ps) → PartsStepWith n ps cs u l o cs'
      → Completed n s (locals_in_parts ps) u (PartsSay n ps cs l o cs')
  completes_of no_processes s n no_configurations u l o cs' su h a once x = record { values = λ k. false; fits = λ v sv g t. (tt, x.0, x.1, x.2 ∙ among-nothing n v) }
  completes_of no_processes s n (configuration c cs) u l o cs' su h a once x = absurd x
  completes_of (process p ps) s n no_configurations u l o cs' su h a once x = absurd x
  completes_of (process p ps) s n (configuration c cs) u l o cs' su h a once (l1, l2, o1, o2, d, ds, x, y, oe, ce, le) =
      let left = completes p s n c u l1 o1 d su h.0 a.0 (once-left (locals_in p) (locals_in_parts ps) once) x in
      let r = completes_of ps s n cs u l2 o2 ds su h.1 a.1 (once-right (locals_in p) (locals_in_parts ps) once) y in
      record {
        values = first_on (locals_in p) left.values r.values;
        fits = λ v sv g t.
            let f = left.fits v sv g (takes-left n (locals_in p) (locals_in_parts ps) left.values r.values v t) in
            let k = r.fits v sv g (takes-right n (locals_in p) (locals_in_parts ps) left.values r.values v once t) in (
              (f.0, k.0),
              oe ∙ ap (λ z. union n z o2) f.1 ∙ ap (union n (set_where n (emits_at p c v))) k.1 ∙ union-where n (emits_at p c v) (emits_at_parts ps cs v),
              ce ∙ ap (λ z. configuration z ds) f.2 ∙ ap (configuration (next_at p c v)) k.2,
              le ∙ ap (λ z. union n z l2) f.3 ∙ ap (union n (among n (locals_in p) v)) k.3 ∙ among-append n (locals_in p) (locals_in_parts ps) v,
            );
      }

  completes_in : (ss : States) (s : Scope) (n i : ℕ) (enter : ℕ → Configuration) (q e : ℕ) (b : Inner) (u l o : SignalSet) (c' : Configuration) → length u ≡ n → AreScopedStates s ss → AgreeIn n ss → Once (locals_in_states ss) → StateStepsWith n ss i enter q e b u l o c'
      → Completed n s (locals_in_states ss) u (StateSays n ss i enter q e b l o c')
  completes_in no_states s n i enter q e b u l o c' su h a once x = absurd x
  completes_in (state r p ss) s n zero enter q e b u l o c' su h a once x =
      let m = did n r enter q e (BodyStepsWith n p b u l) u o c' su a.0 x in
      let inside = completes_within p s n b u l m.ob m.b' su h.2 a.1 (once-left (locals_in_body p) (locals_in_states ss) once) m.body_moves in
      record {
        values = first_on (locals_in_body p) inside.values (λ k. false);
        fits = λ v sv g t.
            let f = inside.fits v sv g (takes-left n (locals_in_body p) (locals_in_states ss) inside.values (λ k. false) v t) in
            let others = takes-right n (locals_in_body p) (locals_in_states ss) inside.values (λ k. false) v once t in
            let same : outcome r.transitions r.timeout e u ≡ outcome r.transitions r.timeout e v = outcome_in-scoped (state r p ss) s zero e u v h g in (
              (f.0, others),
              m.emitted (emits_at_body p b v) f.1 ∙ ap (λ z. set_where n (λ j. own_emits z j || emits_at_body p b v j)) same,
              m.next ∙ ap (λ z. moved enter q e z m.b') same ∙ ap (moved enter q e (outcome r.transitions r.timeout e v)) f.2,
              f.3 ∙ among-left n (locals_in_body p) (locals_in_states ss) v others,
            );
      }
  completes_in (state r p ss) s n (suc i) enter q e b u l o c' su h a once x =
      let later = completes_in ss s n i enter q e b u l o c' su h.3 a.2 (once-right (locals_in_body p) (locals_in_states ss) once) x in
      record {
        values = first_on (locals_in_body p) (λ k. false) later.values;
        fits = λ v sv g t.
            let f = later.fits v sv g (takes-right n (locals_in_body p) (locals_in_states ss) (λ k. false) later.values v once t) in
            let others = takes-left n (locals_in_body p) (locals_in_states ss) (λ k. false) later.values v t in
            ((others, f.0), f.1, f.2, f.3 ∙ among-right n (locals_in_body p) (locals_in_states ss) v others);
      }

  completes_within : (p : Body) (s : Scope) (n : ℕ) (b : Inner) (u l o : SignalSet) (b' : Inner) → length u ≡ n → IsScopedBody s p → AgreeWithin n p → Once (locals_in_body p) → BodyStepsWith n p b u l o b' → Completed n s (locals_in_body p) u (BodySays n p b l o b')
  completes_within no_body s n no_inner u l o b' su h a once x = record { values = λ k. false; fits = λ v sv g t. (tt, x.0, x.1, x.2 ∙ among-nothing n v) }
  completes_within no_body s n (inner c) u l o b' su h a once x = absurd x
  completes_within (body p) s n no_inner u l o b' su h a once x = absurd x
  completes_within (body p) s n (inner c) u l o b' su h a once (c', ce, x) =
      let r = completes p s n c u l o c' su h a once x in
      record { values = r.values; fits = λ v sv g t. let f = r.fits v sv g t in (f.0, f.1, ce ∙ ap inner f.2, f.3) }
