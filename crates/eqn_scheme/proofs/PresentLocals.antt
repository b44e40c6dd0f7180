-- A step and the locals that are present in it, and sets that are given by a valuation and a list.
use Rattle.std.proofs.Common.{◌≡◌, ℕ, zero, suc, ◌+◌, ◌<◌, List, [], ◌∷◌, ◌++◌, Bool, true, false, ◌&&◌, ◌||◌, refl, sym, ap, ◌∙◌, inl, inr}
use Rattle.argos_base.specs.SignalSets.{SignalSet, has, lists, set_where, empty, union, override}
use Rattle.argos_base.proofs.Bools.{true_or_false}
use Rattle.argos_base.proofs.SetLemmas.{has-set_where, set_where-agree}
use Rattle.argos_core.specs.Configurations.{entered}
use Rattle.argos_core.specs.Process.{Rules, Process, automaton, parallel, local, freeze, Processes, no_processes, process, States, no_states, state, Body, no_body, body, Configuration, at, beside, Inner, no_inner, inner, Configurations, no_configurations, configuration, PlainModule}
use Rattle.argos_core.specs.Reactions.{signal_count, valuation, Reacts}
use Rattle.argos_core.specs.Step.{Step, PartsStep, StateSteps, BodySteps, Moves, transition, timeout, count, hold}
use Rattle.eqn_scheme.specs.Laws.{SettledAreReactions}
use Rattle.eqn_scheme.specs.inner.Settled.{AreAbsent}
use Rattle.eqn_scheme.specs.Settled.{among, StepWith, PartsStepWith, StateStepsWith, BodyStepsWith, ReactsWith}
use Rattle.eqn_scheme.proofs.Listing.{lists-append}
use Rattle.eqn_scheme.proofs.SetAlgebra.{union-where, both-or}

never_both : (a b : Bool) → (b ≡ true → a ≡ false) → (a && b) ≡ false
never_both true true h = h refl
never_both true false h = refl
never_both false b h = refl

-- none of a list is there
pub among-absent : (n : ℕ) (list : List ℕ) (v : SignalSet) → AreAbsent n v list → empty n ≡ among n list v
among-absent n list v h = set_where-agree n (λ k. false) (λ k. has v k && lists list k) (λ k below. sym (never_both (has v k) (lists list k) (h k below)))

pub among-nothing : (n : ℕ) (v : SignalSet) → empty n ≡ among n [] v
among-nothing n v = among-absent n [] v (λ k below l. cc)

spread : (a b c : Bool) → ((a && b) || (a && c)) ≡ (a && (b || c))
spread true b c = refl
spread false b c = refl

pub among-append : (n : ℕ) (xs ys : List ℕ) (v : SignalSet) → union n (among n xs v) (among n ys v) ≡ among n (xs ++ ys) v
among-append n xs ys v =
    union-where n (λ k. has v k && lists xs k) (λ k. has v k && lists ys k)
    ∙ set_where-agree n (λ k. (has v k && lists xs k) || (has v k && lists ys k)) (λ k. has v k && lists (xs ++ ys) k) (λ k below. spread (has v k) (lists xs k) (lists ys k) ∙ ap (λ b. has v k && b) (sym (lists-append xs ys k)))

-- those of one of two lists, where none of the other is there
pub among-left : (n : ℕ) (xs ys : List ℕ) (v : SignalSet) → AreAbsent n v ys → among n xs v ≡ among n (xs ++ ys) v
among-left n xs ys v h = set_where-agree n (λ k. has v k && lists xs k) (λ k. has v k && lists (xs ++ ys) k) (λ k below. one (has v k) (lists xs k) (lists ys k) (h k below) ∙ ap (λ b. has v k && b) (sym (lists-append xs ys k)))
  where
    one : (a b c : Bool) → (c ≡ true → a ≡ false) → (a && b) ≡ (a && (b || c))
    one false b c h = refl
    one true true c h = refl
    one true false false h = refl
    one true false true h = sym (h refl)

pub among-right : (n : ℕ) (xs ys : List ℕ) (v : SignalSet) → AreAbsent n v xs → among n ys v ≡ among n (xs ++ ys) v
among-right n xs ys v h = set_where-agree n (λ k. has v k && lists ys k) (λ k. has v k && lists (xs ++ ys) k) (λ k below. one (has v k) (lists xs k) (lists ys k) (h k below) ∙ ap (λ b. has v k && b) (sym (lists-append xs ys k)))
  where
    one : (a b c : Bool) → (b ≡ true → a ≡ false) → (a && c) ≡ (a && (b || c))
    one false b c h = refl
    one true false c h = refl
    one true true true h = refl
    one true true false h = sym (h refl)

-- those of a list are the same in sets that agree on it
pub among-agree : (n : ℕ) (list : List ℕ) (v w : SignalSet) → ((k : ℕ) → k < n → lists list k ≡ true → has v k ≡ has w k) → among n list v ≡ among n list w
among-agree n list v w h = set_where-agree n (λ k. has v k && lists list k) (λ k. has w k && lists list k) (λ k below. one (has v k) (has w k) (lists list k) (h k below))
  where
    one : (a b c : Bool) → (c ≡ true → a ≡ b) → (a && c) ≡ (b && c)
    one a b true h = ap (λ x. x && true) (h refl)
    one true true false h = refl
    one true false false h = refl
    one false b false h = none b
      where
        none : (b : Bool) → false ≡ (b && false)
        none true = refl
        none false = refl

-- moves whose body moves so
module _ (n : ℕ) (s : Rules) (enter : ℕ → Configuration) (q e : ℕ) (One Other : SignalSet → Inner → Type 0) (v : SignalSet) where
  moves_as : (o : SignalSet) (c' : Configuration) → ((ob : SignalSet) (b' : Inner) → One ob b' → Other ob b') → Moves n s enter q e One v o c' → Moves n s enter q e Other v o c'
  moves_as o c' h (transition k t ob b' g y m oe ce) = transition k t ob b' g y (h ob b' m) oe ce
  moves_as o c' h (timeout w ob b' none is y l m oe ce) = timeout w ob b' none is y l (h ob b' m) oe ce
  moves_as o c' h (count w b' none is y l m ce) = count w b' none is y l (h o b' m) ce
  moves_as o c' h (hold b' none quiet m ce) = hold b' none quiet (h o b' m) ce

module _ (n : ℕ) (s : Rules) (enter : ℕ → Configuration) (q e : ℕ) (One : SignalSet → Inner → Type 0) (Other : SignalSet → SignalSet → Inner → Type 0) (v : SignalSet) where
  moves_with : (o : SignalSet) (c' : Configuration) → ((ob : SignalSet) (b' : Inner) → One ob b' → (l : SignalSet) × Other l ob b') → Moves n s enter q e One v o c' → (l : SignalSet) × Moves n s enter q e (Other l) v o c'
  moves_with o c' h (transition k t ob b' g y m oe ce) = let r = h ob b' m in (r.0, transition k t ob b' g y r.1 oe ce)
  moves_with o c' h (timeout w ob b' none is y l m oe ce) = let r = h ob b' m in (r.0, timeout w ob b' none is y l r.1 oe ce)
  moves_with o c' h (count w b' none is y l m ce) = let r = h o b' m in (r.0, count w b' none is y l r.1 ce)
  moves_with o c' h (hold b' none quiet m ce) = let r = h o b' m in (r.0, hold b' none quiet r.1 ce)

-- a step with its locals is a step
mutual
  pub steps : (p : Process) (n : ℕ) (c : Configuration) (v l o : SignalSet) (c' : Configuration) → StepWith n p c v l o c' → Step n p c v o c'
  steps (automaton ss q0) n (at q e b) v l o c' x = state_steps ss n q (entered ss) q e b v l o c' x
  steps (automaton ss q0) n (beside cs) v l o c' x = absurd x
  steps (parallel ps) n (at q e b) v l o c' x = absurd x
  steps (parallel ps) n (beside cs) v l o c' (cs', ce, x) = (cs', ce, parts_step ps n cs v l o cs' x)
  steps (local list p) n c v l o c' (emitted, inside, x, oe, le) = (emitted, steps p n c (override n list v emitted) inside emitted c' x, oe)
  steps (freeze s p) n c v l o c' (inl x) = inl (x.0, x.1, x.2)
  steps (freeze s p) n c v l o c' (inr x) = inr (x.0, steps p n c v l o c' x.1)

  parts_step : (ps : Processes) (n : ℕ) (cs : Configurations) (v l o : SignalSet) (cs' : Configurations) → PartsStepWith n ps cs v l o cs' → PartsStep n ps cs v o cs'
  parts_step no_processes n no_configurations v l o cs' x = (x.0, x.1)
  parts_step no_processes n (configuration c cs) v l o cs' x = absurd x
  parts_step (process p ps) n no_configurations v l o cs' x = absurd x
  parts_step (process p ps) n (configuration c cs) v l o cs' (l1, l2, o1, o2, d, ds, x, y, oe, ce, le) = (o1, o2, d, ds, steps p n c v l1 o1 d x, parts_step ps n cs v l2 o2 ds y, oe, ce)

  state_steps : (ss : States) (n i : ℕ) (enter : ℕ → Configuration) (q e : ℕ) (b : Inner) (v l o : SignalSet) (c' : Configuration) → StateStepsWith n ss i enter q e b v l o c' → StateSteps n ss i enter q e b v o c'
  state_steps no_states n i enter q e b v l o c' x = absurd x
  state_steps (state s p ss) n zero enter q e b v l o c' x = moves_as n s enter q e (BodyStepsWith n p b v l) (BodySteps n p b v) v o c' (λ ob b' m. body_steps p n b v l ob b' m) x
  state_steps (state s p ss) n (suc i) enter q e b v l o c' x = state_steps ss n i enter q e b v l o c' x

  body_steps : (p : Body) (n : ℕ) (b : Inner) (v l o : SignalSet) (b' : Inner) → BodyStepsWith n p b v l o b' → BodySteps n p b v o b'
  body_steps no_body n no_inner v l o b' x = (x.0, x.1)
  body_steps no_body n (inner c) v l o b' x = absurd x
  body_steps (body p) n no_inner v l o b' x = absurd x
  body_steps (body p) n (inner c) v l o b' (c', ce, x) = (c', ce, steps p n c v l o c' x)

-- and each step has its locals
mutual
  pub present_in : (p : Process) (n : ℕ) (c : Configuration) (v o : SignalSet) (c' : Configuration) → Step n p c v o c' → (l : SignalSet) × StepWith n p c v l o c'
  present_in (automaton ss q0) n (at q e b) v o c' x = present_in_state ss n q (entered ss) q e b v o c' x
  present_in (automaton ss q0) n (beside cs) v o c' x = absurd x
  present_in (parallel ps) n (at q e b) v o c' x = absurd x
  present_in (parallel ps) n (beside cs) v o c' (cs', ce, x) = let r = present_in_parts ps n cs v o cs' x in (r.0, (cs', ce, r.1))
  present_in (local list p) n c v o c' (emitted, x, oe) =
      let r = present_in p n c (override n list v emitted) emitted c' x in
      (union n (among n list emitted) r.0, (emitted, r.0, r.1, oe, refl))
  present_in (freeze s p) n c v o c' (inl x) = (empty n, inl (x.0, x.1, x.2, refl))
  present_in (freeze s p) n c v o c' (inr x) = let r = present_in p n c v o c' x.1 in (r.0, inr (x.0, r.1))

  present_in_parts : (ps : Processes) (n : ℕ) (cs : Configurations) (v o : SignalSet) (cs' : Configurations) → PartsStep n ps cs v o cs' → (l : SignalSet) × PartsStepWith n ps cs v l o cs'
  present_in_parts no_processes n no_configurations v o cs' x = (empty n, (x.0, x.1, refl))
  present_in_parts no_processes n (configuration c cs) v o cs' x = absurd x
  present_in_parts (process p ps) n no_configurations v o cs' x = absurd x
  present_in_parts (process p ps) n (configuration c cs) v o cs' (o1, o2, d, ds, x, y, oe, ce) =
      let r = present_in p n c v o1 d x in
      let s = present_in_parts ps n cs v o2 ds y in
      (union n r.0 s.0, (r.0, s.0, o1, o2, d, ds, r.1, s.1, oe, ce, refl))

  present_in_state : (ss : States) (n i : ℕ) (enter : ℕ → Configuration) (q e : ℕ) (b : Inner) (v o : SignalSet) (c' : Configuration) → StateSteps n ss i enter q e b v o c' → (l : SignalSet) × StateStepsWith n ss i enter q e b v l o c'
  present_in_state no_states n i enter q e b v o c' x = absurd x
  present_in_state (state s p ss) n zero enter q e b v o c' x = moves_with n s enter q e (BodySteps n p b v) (BodyStepsWith n p b v) v o c' (λ ob b' m. present_in_body p n b v ob b' m) x
  present_in_state (state s p ss) n (suc i) enter q e b v o c' x = present_in_state ss n i enter q e b v o c' x

  present_in_body : (p : Body) (n : ℕ) (b : Inner) (v o : SignalSet) (b' : Inner) → BodySteps n p b v o b' → (l : SignalSet) × BodyStepsWith n p b v l o b'
  present_in_body no_body n no_inner v o b' x = (empty n, (x.0, x.1, refl))
  present_in_body no_body n (inner c) v o b' x = absurd x
  present_in_body (body p) n no_inner v o b' x = absurd x
  present_in_body (body p) n (inner c) v o b' (c', ce, x) = let r = present_in p n c v o c' x in (r.0, (c', ce, r.1))

-- so reactions with their locals are reactions, and each has its locals
pub reacts_only : (P : PlainModule) (c : Configuration) (i l o : SignalSet) (c' : Configuration) → ReactsWith P c i l o c' → Reacts P c i o c'
reacts_only P c i l o c' r = record { input = r.input; emitted = r.emitted; step = steps P.process (signal_count P) c (valuation P i) l r.emitted c' r.step; outputs = r.outputs }

pub reacts_with : (P : PlainModule) (c : Configuration) (i o : SignalSet) (c' : Configuration) → Reacts P c i o c' → (l : SignalSet) × ReactsWith P c i l o c'
reacts_with P c i o c' r = let step = present_in P.process (signal_count P) c (valuation P i) r.emitted c' r.step in (step.0, record { input = r.input; emitted = r.emitted; step = step.1; outputs = r.outputs })

pub settled_are_reactions : SettledAreReactions
settled_are_reactions P c i o c' = (reacts_with P c i o c', λ x. reacts_only P c i x.0 o c' x.1)
