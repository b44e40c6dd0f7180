-- What a module emits are its outputs and locals.
use Rattle.std.proofs.Common.{◌≡◌, ℕ, suc, ◌+◌, ◌<◌, ◌≤◌, List, [], ◌∷◌, ◌++◌, Option, Some, None, true, ◌⊎◌, inl, inr, ◌∙◌, sym, subst, arith, length}
use Rattle.std.proofs.lemmas.Bool.Decides.{nat_tests}
use Rattle.argos_base.specs.SignalSets.{lists}
use Rattle.argos_base.proofs.Bools.{and_first, and_second, or_cases, or_left, or_right}
use Rattle.argos_core.specs.Modules.{Scope, is_emittable, all_emittable, within_locals, AreTransitions, IsTimeout, IsScoped, AreScopedParts, AreScopedStates, IsScopedBody, IsModule, locals_in, locals_in_parts, locals_in_states, locals_in_body, scope_of}
use Rattle.argos_core.specs.Process.{Transition, Timeout, Process, automaton, parallel, local, freeze, Processes, no_processes, process, States, no_states, state, Body, no_body, body, PlainModule}
use Rattle.argos_core.specs.Reactions.{input_count, output_count, signal_count}
use Rattle.eqn_scheme.specs.Scheme.{FireBit, guard_bits, transition_bits, transition_fires, timeout_fires, state_bits, state_fire_bits, own_bits, own_fires, process_bits, body_bits, process_fires, parts_fires, bodies_fires, body_fires}
use Rattle.eqn_scheme.proofs.Listing.{lists-append, lists-left, lists-right, nat_lt-tells}
use Rattle.std.specs.Prelude.{nat_le, ◌&&◌, ◌||◌, nat_lt}
use Rattle.eqn_build.specs.inner.BuilderViews.{AreFrom, EmitFrom}

module _ (first count : ℕ) where
  abbrev IsFrom : ℕ → Type 0
  IsFrom k = (first ≤ k) × (k < first + count)

  abbrev Emittable : Scope → Type 0
  Emittable s = (k : ℕ) → is_emittable s k ≡ true → IsFrom k

  abbrev Listed : List ℕ → Type 0
  Listed ks = (k : ℕ) → lists ks k ≡ true → IsFrom k

  emit_append : (xs ys : List FireBit) → EmitFrom first count xs → EmitFrom first count ys → EmitFrom first count (xs ++ ys)
  emit_append [] ys h k = k
  emit_append (x ∷ xs) ys h k = (h.0, emit_append xs ys h.1 k)

  all_from : (s : Scope) (ks : List ℕ) → Emittable s → all_emittable s ks ≡ true → AreFrom first count ks
  all_from s [] e h = tt
  all_from s (k ∷ ks) e h = let r = e k (and_first _ _ h) in (r.0, r.1, all_from s ks e (and_second (is_emittable s k) _ h))

  emit_transitions : (s : Scope) (b : ℕ) (ts : List Transition) → Emittable s → AreTransitions s ts → EmitFrom first count (transition_fires b ts)
  emit_transitions s b [] e h = tt
  emit_transitions s b (t ∷ ts) e h = (all_from s t.outs e h.1, emit_transitions s (suc (b + guard_bits t.guard)) ts e h.2)

  emit_timeout : (s : Scope) (b : ℕ) (w : Option Timeout) → Emittable s → IsTimeout s w → EmitFrom first count (timeout_fires b w)
  emit_timeout s b None e h = tt
  emit_timeout s b (Some w) e h = (all_from s w.outs e h.1, tt)

  emit_own : (ss : States) (s : Scope) (b : ℕ) → Emittable s → AreScopedStates s ss → EmitFrom first count (own_fires ss b)
  emit_own no_states s b e h = tt
  emit_own (state r p ss) s b e h =
      emit_append (state_fire_bits b r.transitions r.timeout) _
      (emit_append (transition_fires (suc (suc b)) r.transitions) _ (emit_transitions s (suc (suc b)) r.transitions e h.0) (emit_timeout s (suc (suc b) + transition_bits r.transitions) r.timeout e h.1))
      (emit_own ss s (b + state_bits r.transitions r.timeout) e h.3)

  within : (s : Scope) (list more : List ℕ) → Emittable s → Listed (list ++ more) → Emittable (within_locals s list)
  within s list more e l k h = elim (or_cases (nat_le s.inputs k && nat_lt k (s.inputs + s.outputs)) (lists (list ++ s.locals) k) h) [
    | inl out ↦ e k (outside out)
    | inr listed ↦ elim (or_cases (lists list k) (lists s.locals k) (sym (lists-append list s.locals k) ∙ listed)) [
      | inl here ↦ l k (lists-left list more k here)
      | inr around ↦ e k (inside around)
    ]
  ]
    where
      outside : (nat_le s.inputs k && nat_lt k (s.inputs + s.outputs)) ≡ true → is_emittable s k ≡ true
      outside y = or_left _ _ y

      inside : lists s.locals k ≡ true → is_emittable s k ≡ true
      inside y = or_right (nat_le s.inputs k && nat_lt k (s.inputs + s.outputs)) _ y

  mutual
    pub emit_process : (p : Process) (s : Scope) (b : ℕ) → Emittable s → Listed (locals_in p) → IsScoped s p → EmitFrom first count (process_fires p b)
    emit_process (automaton ss q) s b e l h = emit_append (own_fires ss (suc b)) _ (emit_own ss s (suc b) e h.1) (emit_bodies ss s (suc b + own_bits ss) e l h.1)
    emit_process (parallel ps) s b e l h = emit_parts ps s b e l h
    emit_process (local list p) s b e l h = emit_process p (within_locals s list) b (within s list (locals_in p) e l) (λ k y. l k (lists-right list (locals_in p) k y)) h
    emit_process (freeze a p) s b e l h = emit_process p s (suc b) e l h.1

    emit_parts : (ps : Processes) (s : Scope) (b : ℕ) → Emittable s → Listed (locals_in_parts ps) → AreScopedParts s ps → EmitFrom first count (parts_fires ps b)
    emit_parts no_processes s b e l h = tt
    emit_parts (process p ps) s b e l h = emit_append (process_fires p b) _ (emit_process p s b e (λ k y. l k (lists-left (locals_in p) (locals_in_parts ps) k y)) h.0) (emit_parts ps s (b + process_bits p) e (λ k y. l k (lists-right (locals_in p) (locals_in_parts ps) k y)) h.1)

    emit_bodies : (ss : States) (s : Scope) (b : ℕ) → Emittable s → Listed (locals_in_states ss) → AreScopedStates s ss → EmitFrom first count (bodies_fires ss b)
    emit_bodies no_states s b e l h = tt
    emit_bodies (state r p ss) s b e l h = emit_append (body_fires p b) _ (emit_body p s b e (λ k y. l k (lists-left (locals_in_body p) (locals_in_states ss) k y)) h.2) (emit_bodies ss s (b + body_bits p) e (λ k y. l k (lists-right (locals_in_body p) (locals_in_states ss) k y)) h.3)

    emit_body : (p : Body) (s : Scope) (b : ℕ) → Emittable s → Listed (locals_in_body p) → IsScopedBody s p → EmitFrom first count (body_fires p b)
    emit_body no_body s b e l h = tt
    emit_body (body p) s b e l h = emit_process p s (suc (suc (suc (suc b)))) e l h

-- in a module these are the signals behind its inputs
pub module_emits : (P : PlainModule) (b : ℕ) → IsModule P → EmitFrom (input_count P) (output_count P + length P.locals) (process_fires P.process b)
module_emits P b is = emit_process (input_count P) (output_count P + length P.locals) P.process (scope_of P) b outside (λ k l. inside k (is.locals_alone k l)) is.scoped
  where
    inside : (k : ℕ) → (input_count P + output_count P ≤ k) × (k < signal_count P) → (input_count P ≤ k) × (k < input_count P + (output_count P + length P.locals))
    inside k r = let low = r.0 in let high = r.1 in (omega arith, omega arith)

    bounds : (a b k : ℕ) → nat_le a k ≡ true → nat_lt k b ≡ true → (a ≤ k) × (k < b)
    bounds a b k h g = (grind (arith, nat_tests), nat_lt-tells k b g)

    outside : (k : ℕ) → is_emittable (scope_of P) k ≡ true → (input_count P ≤ k) × (k < input_count P + (output_count P + length P.locals))
    outside k h = elim (or_cases (nat_le (input_count P) k && nat_lt k (input_count P + output_count P)) _ h) [
      | inl y ↦ let r = bounds (input_count P) (input_count P + output_count P) k (and_first _ _ y) (and_second (nat_le (input_count P) k) _ y) in let high = r.1 in (r.0, omega arith)
      | inr y ↦ cc
    ]
