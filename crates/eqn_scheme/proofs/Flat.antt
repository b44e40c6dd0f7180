-- A valuation is closed exactly where each local is in it exactly where some fire of the whole process emits it: outside its `local` nothing can.
use Rattle.std.proofs.Common.{◌≡◌, ℕ, suc, ◌+◌, ◌<◌, List, [], ◌∷◌, ◌++◌, Option, Some, None, Bool, true, false, ◌&&◌, ◌||◌, not, nat_eq, nat_le, nat_lt, refl, sym, ap, ◌∙◌, inl, inr}
use Rattle.std.specs.Prelude.{slice_index_or}
use Rattle.argos_base.specs.SignalSets.{SignalSet, has, lists}
use Rattle.argos_base.proofs.Bools.{and_first, and_second, or_neither, or_cases, is_false, or_first_false, or_second_false}
use Rattle.argos_core.specs.Automata.{counts_of, register_count, registers_within}
use Rattle.argos_core.specs.Modules.{Scope, is_emittable, all_emittable, within_locals, AreTransitions, IsTimeout, IsScoped, AreScopedParts, AreScopedStates, IsScopedBody, locals_in, locals_in_parts, locals_in_states, locals_in_body}
use Rattle.argos_core.specs.Process.{Transition, Timeout, Process, automaton, parallel, local, freeze, Processes, no_processes, process, States, no_states, state, Body, no_body, body}
use Rattle.argos_core.proofs.Numbers.{same_or_other, nat_eq-other}
use Rattle.eqn_scheme.specs.Wired.{is_in, Fire, fires_of, none_holds, times_of, state_fires, fires_in, fires_emit, emits, emits_parts, emits_in, emits_within, IsClosed, AreClosed, IsClosedIn, IsClosedWithin, all_fires, all_fires_of, all_fires_in, all_fires_within}
use Rattle.eqn_scheme.proofs.Firing.{emit-append, or-false, and-false}
use Rattle.eqn_scheme.proofs.Listing.{lists-append, lists-left, lists-right, Once, once-left, once-right, once-apart}
use Rattle.eqn_scheme.proofs.SetAlgebra.{both-or}

and-true : (a b : Bool) → b ≡ true → (a && b) ≡ a
and-true true b h = h
and-true false b h = refl

not-listed : (xs ys : List ℕ) (k : ℕ) → lists (xs ++ ys) k ≡ false → (lists xs k ≡ false) × (lists ys k ≡ false)
not-listed xs ys k h = let both : (lists xs k || lists ys k) ≡ false = sym (lists-append xs ys k) ∙ h in (or_first_false (lists xs k) (lists ys k) both, or_second_false (lists xs k) (lists ys k) both)

-- a signal that is shut local of the process is emitted where some fire emits it
module _ (m : List ℕ) (v : SignalSet) (k : ℕ) where
  mutual
    pub emits-fires : (p : Process) (r : ℕ) (run : Bool) → lists (locals_in p) k ≡ false → emits p r m run v k ≡ fires_emit (all_fires p r m run v) k
    emits-fires (automaton ss q0) r run h =
        let code = slice_index_or m r 0 in
        ap (λ b. fires_emit (fires_in ss run 1 code v) k || b) (emits-fires_in ss (suc r) run 1 code h) ∙ sym (emit-append (fires_in ss run 1 code v) (all_fires_in ss (suc r) m run 1 code v) k)
    emits-fires (parallel ps) r run h = emits-fires_of ps r run h
    emits-fires (local list p) r run h =
        let none = not-listed list (locals_in p) k h in
        and-true (emits p r m run v k) (not (lists list k)) (ap not none.0) ∙ emits-fires p r run none.1
    emits-fires (freeze s p) r run h = emits-fires p r (run && not (has v s)) h

    emits-fires_of : (ps : Processes) (r : ℕ) (run : Bool) → lists (locals_in_parts ps) k ≡ false → emits_parts ps r m run v k ≡ fires_emit (all_fires_of ps r m run v) k
    emits-fires_of no_processes r run h = refl
    emits-fires_of (process p ps) r run h =
        let none = not-listed (locals_in p) (locals_in_parts ps) k h in
        both-or _ _ _ _ (emits-fires p r run none.0) (emits-fires_of ps (r + register_count p) run none.1) ∙ sym (emit-append (all_fires p r m run v) (all_fires_of ps (r + register_count p) m run v) k)

    emits-fires_in : (ss : States) (r : ℕ) (run : Bool) (first code : ℕ) → lists (locals_in_states ss) k ≡ false → emits_in ss r m run first code v k ≡ fires_emit (all_fires_in ss r m run first code v) k
    emits-fires_in no_states r run first code h = refl
    emits-fires_in (state s p ss) r run first code h =
        let none = not-listed (locals_in_body p) (locals_in_states ss) k h in
        both-or _ _ _ _ (emits-fires_within p r (run && is_in first s.timeout code) none.0) (emits-fires_in ss (r + registers_within p) run (first + counts_of s.timeout) code none.1)
        ∙ sym (emit-append (all_fires_within p r m (run && is_in first s.timeout code) v) (all_fires_in ss (r + registers_within p) m run (first + counts_of s.timeout) code v) k)

    emits-fires_within : (p : Body) (r : ℕ) (run : Bool) → lists (locals_in_body p) k ≡ false → emits_within p r m run v k ≡ fires_emit (all_fires_within p r m run v) k
    emits-fires_within no_body r run h = refl
    emits-fires_within (body p) r run h = emits-fires p r run h

-- what isn't emittable isn't among emittable signals
pub unlisted : (s : Scope) (outs : List ℕ) (k : ℕ) → all_emittable s outs ≡ true → is_emittable s k ≡ false → lists outs k ≡ false
unlisted s [] k h shut = refl
unlisted s (x ∷ outs) k h shut = elim (same_or_other x k) [
  | inl same ↦ let yes : is_emittable s k ≡ true = ap (is_emittable s) (sym same) ∙ and_first (is_emittable s x) (all_emittable s outs) h in cc
  | inr other ↦ or_neither (nat_eq x k) (lists outs k) (nat_eq-other x k other) (unlisted s outs k (and_second (is_emittable s x) (all_emittable s outs) h) shut)
]

-- a signal that is neither emittable nor a local of the process is emitted by shut fire
module _ (m : List ℕ) (v : SignalSet) (k : ℕ) where
  transitions_unemitted : (ts : List Transition) (s : Scope) (live : Bool) → AreTransitions s ts → is_emittable s k ≡ false → fires_emit (fires_of live v ts) k ≡ false
  transitions_unemitted [] s live h shut = refl
  transitions_unemitted (t ∷ ts) s live h shut = or_neither _ _ (and-false _ (lists t.outs k) (unlisted s t.outs k h.1 shut)) (transitions_unemitted ts s live h.2 shut)

  times_unemitted : (w : Option Timeout) (s : Scope) (waits : Bool) (first code : ℕ) → IsTimeout s w → is_emittable s k ≡ false → fires_emit (times_of waits first code v w) k ≡ false
  times_unemitted None s waits first code h shut = refl
  times_unemitted (Some w) s waits first code h shut = or_neither _ _ (and-false _ (lists w.outs k) (unlisted s w.outs k h.1 shut)) refl

  own_unemitted : (ss : States) (s : Scope) (run : Bool) (first code : ℕ) → AreScopedStates s ss → is_emittable s k ≡ false → fires_emit (fires_in ss run first code v) k ≡ false
  own_unemitted no_states s run first code h shut = refl
  own_unemitted (state x p ss) s run first code h shut =
      let live = run && is_in first x.timeout code in
      emit-append (state_fires live first code v x.transitions x.timeout) (fires_in ss run (first + counts_of x.timeout) code v) k
      ∙ or_neither _ _
      (emit-append (fires_of live v x.transitions) (times_of (live && none_holds v x.transitions) first code v x.timeout) k ∙ or_neither _ _ (transitions_unemitted x.transitions s live h.0 shut) (times_unemitted x.timeout s (live && none_holds v x.transitions) first code h.1 shut))
      (own_unemitted ss s run (first + counts_of x.timeout) code h.3 shut)

  -- nor in the scope of more locals that don't list it
  unemittable_within : (s : Scope) (list : List ℕ) → is_emittable s k ≡ false → lists list k ≡ false → is_emittable (within_locals s list) k ≡ false
  unemittable_within s list shut none =
      let front = nat_le s.inputs k && nat_lt k (s.inputs + s.outputs) in
      or_neither front (lists (list ++ s.locals) k) (or_first_false front (lists s.locals k) shut) (lists-append list s.locals k ∙ or_neither (lists list k) (lists s.locals k) none (or_second_false front (lists s.locals k) shut))

  mutual
    pub unemitted : (p : Process) (s : Scope) (r : ℕ) (run : Bool) → IsScoped s p → is_emittable s k ≡ false → lists (locals_in p) k ≡ false → fires_emit (all_fires p r m run v) k ≡ false
    unemitted (automaton ss q0) s r run h shut none =
        let code = slice_index_or m r 0 in
        emit-append (fires_in ss run 1 code v) (all_fires_in ss (suc r) m run 1 code v) k ∙ or_neither _ _ (own_unemitted ss s run 1 code h.1 shut) (unemitted_in ss s (suc r) run 1 code h.1 shut none)
    unemitted (parallel ps) s r run h shut none = unemitted_of ps s r run h shut none
    unemitted (local list p) s r run h shut none = let both = not-listed list (locals_in p) k none in unemitted p (within_locals s list) r run h (unemittable_within s list shut both.0) both.1
    unemitted (freeze w p) s r run h shut none = unemitted p s r (run && not (has v w)) h.1 shut none

    unemitted_of : (ps : Processes) (s : Scope) (r : ℕ) (run : Bool) → AreScopedParts s ps → is_emittable s k ≡ false → lists (locals_in_parts ps) k ≡ false → fires_emit (all_fires_of ps r m run v) k ≡ false
    unemitted_of no_processes s r run h shut none = refl
    unemitted_of (process p ps) s r run h shut none =
        let both = not-listed (locals_in p) (locals_in_parts ps) k none in
        emit-append (all_fires p r m run v) (all_fires_of ps (r + register_count p) m run v) k ∙ or_neither _ _ (unemitted p s r run h.0 shut both.0) (unemitted_of ps s (r + register_count p) run h.1 shut both.1)

    unemitted_in : (ss : States) (s : Scope) (r : ℕ) (run : Bool) (first code : ℕ) → AreScopedStates s ss → is_emittable s k ≡ false → lists (locals_in_states ss) k ≡ false → fires_emit (all_fires_in ss r m run first code v) k ≡ false
    unemitted_in no_states s r run first code h shut none = refl
    unemitted_in (state x p ss) s r run first code h shut none =
        let both = not-listed (locals_in_body p) (locals_in_states ss) k none in
        emit-append (all_fires_within p r m (run && is_in first x.timeout code) v) (all_fires_in ss (r + registers_within p) m run (first + counts_of x.timeout) code v) k
        ∙ or_neither _ _ (unemitted_within p s r (run && is_in first x.timeout code) h.2 shut both.0) (unemitted_in ss s (r + registers_within p) run (first + counts_of x.timeout) code h.3 shut both.1)

    unemitted_within : (p : Body) (s : Scope) (r : ℕ) (run : Bool) → IsScopedBody s p → is_emittable s k ≡ false → lists (locals_in_body p) k ≡ false → fires_emit (all_fires_within p r m run v) k ≡ false
    unemitted_within no_body s r run h shut none = refl
    unemitted_within (body p) s r run h shut none = unemitted p s r run h shut none

-- each of these signals is in the valuation exactly where some fire of the list emits it
abbrev pub IsFlat : ℕ → List ℕ → List Fire → SignalSet → Type 0
IsFlat n list fires v = (k : ℕ) → k < n → lists list k ≡ true → has v k ≡ fires_emit fires k

-- none of these signals is emittable
abbrev pub AreUnemittable : Scope → List ℕ → Type 0
AreUnemittable s list = (k : ℕ) → lists list k ≡ true → is_emittable s k ≡ false

-- more fires that don't emit them
module _ (n : ℕ) (list : List ℕ) (xs ys : List Fire) (v : SignalSet) where
  flat-left : ((k : ℕ) → lists list k ≡ true → fires_emit ys k ≡ false) → IsFlat n list (xs ++ ys) v → IsFlat n list xs v
  flat-left none h k below l = h k below l ∙ emit-append xs ys k ∙ ap (λ b. fires_emit xs k || b) (none k l) ∙ or-false (fires_emit xs k)

  flat-right : ((k : ℕ) → lists list k ≡ true → fires_emit xs k ≡ false) → IsFlat n list (xs ++ ys) v → IsFlat n list ys v
  flat-right none h k below l = h k below l ∙ emit-append xs ys k ∙ ap (λ b. b || fires_emit ys k) (none k l)

  left-flat : ((k : ℕ) → lists list k ≡ true → fires_emit ys k ≡ false) → IsFlat n list xs v → IsFlat n list (xs ++ ys) v
  left-flat none h k below l = h k below l ∙ sym (or-false (fires_emit xs k)) ∙ ap (λ b. fires_emit xs k || b) (sym (none k l)) ∙ sym (emit-append xs ys k)

  right-flat : ((k : ℕ) → lists list k ≡ true → fires_emit xs k ≡ false) → IsFlat n list ys v → IsFlat n list (xs ++ ys) v
  right-flat none h k below l = h k below l ∙ ap (λ b. b || fires_emit ys k) (sym (none k l)) ∙ sym (emit-append xs ys k)

flat-both : (n : ℕ) (xs ys : List ℕ) (fires : List Fire) (v : SignalSet) → IsFlat n xs fires v → IsFlat n ys fires v → IsFlat n (xs ++ ys) fires v
flat-both n xs ys fires v h i k below l = elim (or_cases (lists xs k) (lists ys k) (sym (lists-append xs ys k) ∙ l)) [ inl a ↦ h k below a | inr a ↦ i k below a ]

once_behind : (xs ys : List ℕ) (k : ℕ) → Once (xs ++ ys) → lists xs k ≡ true → lists ys k ≡ false
once_behind xs ys k once l = is_false (lists ys k) (λ y. let shut = once-apart xs ys k once y in cc)

inner_unemittable : (s : Scope) (list ys : List ℕ) → Once (list ++ ys) → AreUnemittable s (list ++ ys) → AreUnemittable (within_locals s list) ys
inner_unemittable s list ys once h k l = unemittable_within [] [] k s list (h k (lists-right list ys k l)) (once-apart list ys k once l)

module _ (n : ℕ) (m : List ℕ) (v : SignalSet) where
  mutual
    pub closed_flat : (p : Process) (s : Scope) (r : ℕ) (run : Bool) → IsScoped s p → Once (locals_in p) → AreUnemittable s (locals_in p) → IsClosed n p r m run v → IsFlat n (locals_in p) (all_fires p r m run v) v
    closed_flat (automaton ss q0) s r run h once u x =
        let code = slice_index_or m r 0 in
        right-flat n (locals_in_states ss) (fires_in ss run 1 code v) (all_fires_in ss (suc r) m run 1 code v) v (λ k l. own_unemitted m v k ss s run 1 code h.1 (u k l)) (closed_flat_in ss s (suc r) run 1 code h.1 once u x)
    closed_flat (parallel ps) s r run h once u x = closed_flat_of ps s r run h once u x
    closed_flat (local list p) s r run h once u x =
        flat-both n list (locals_in p) (all_fires p r m run v) v
        (λ k below l. x.0 k below l ∙ emits-fires m v k p r run (once_behind list (locals_in p) k once l))
        (closed_flat p (within_locals s list) r run h (once-right list (locals_in p) once) (inner_unemittable s list (locals_in p) once u) x.1)
    closed_flat (freeze w p) s r run h once u x = closed_flat p s r (run && not (has v w)) h.1 once u x

    closed_flat_of : (ps : Processes) (s : Scope) (r : ℕ) (run : Bool) → AreScopedParts s ps → Once (locals_in_parts ps) → AreUnemittable s (locals_in_parts ps) → AreClosed n ps r m run v → IsFlat n (locals_in_parts ps) (all_fires_of ps r m run v) v
    closed_flat_of no_processes s r run h once u x = λ k below l. cc
    closed_flat_of (process p ps) s r run h once u x =
        let fs = all_fires p r m run v in
        let gs = all_fires_of ps (r + register_count p) m run v in
        flat-both n (locals_in p) (locals_in_parts ps) (fs ++ gs) v
        (left-flat n (locals_in p) fs gs v (λ k l. unemitted_of m v k ps s (r + register_count p) run h.1 (u k (lists-left (locals_in p) (locals_in_parts ps) k l)) (once_behind (locals_in p) (locals_in_parts ps) k once l)) (closed_flat p s r run h.0 (once-left (locals_in p) (locals_in_parts ps) once) (λ k l. u k (lists-left (locals_in p) (locals_in_parts ps) k l)) x.0))
        (right-flat n (locals_in_parts ps) fs gs v (λ k l. unemitted m v k p s r run h.0 (u k (lists-right (locals_in p) (locals_in_parts ps) k l)) (once-apart (locals_in p) (locals_in_parts ps) k once l)) (closed_flat_of ps s (r + register_count p) run h.1 (once-right (locals_in p) (locals_in_parts ps) once) (λ k l. u k (lists-right (locals_in p) (locals_in_parts ps) k l)) x.1))

    closed_flat_in : (ss : States) (s : Scope) (r : ℕ) (run : Bool) (first code : ℕ) → AreScopedStates s ss → Once (locals_in_states ss) → AreUnemittable s (locals_in_states ss) → IsClosedIn n ss r m run first code v → IsFlat n (locals_in_states ss) (all_fires_in ss r m run first code v) v
    closed_flat_in no_states s r run first code h once u x = λ k below l. cc
    closed_flat_in (state y p ss) s r run first code h once u x =
        let live = run && is_in first y.timeout code in
        let fs = all_fires_within p r m live v in
        let gs = all_fires_in ss (r + registers_within p) m run (first + counts_of y.timeout) code v in
        flat-both n (locals_in_body p) (locals_in_states ss) (fs ++ gs) v
        (left-flat n (locals_in_body p) fs gs v (λ k l. unemitted_in m v k ss s (r + registers_within p) run (first + counts_of y.timeout) code h.3 (u k (lists-left (locals_in_body p) (locals_in_states ss) k l)) (once_behind (locals_in_body p) (locals_in_states ss) k once l)) (closed_flat_within p s r live h.2 (once-left (locals_in_body p) (locals_in_states ss) once) (λ k l. u k (lists-left (locals_in_body p) (locals_in_states ss) k l)) x.0))
        (right-flat n (locals_in_states ss) fs gs v (λ k l. unemitted_within m v k p s r live h.2 (u k (lists-right (locals_in_body p) (locals_in_states ss) k l)) (once-apart (locals_in_body p) (locals_in_states ss) k once l)) (closed_flat_in ss s (r + registers_within p) run (first + counts_of y.timeout) code h.3 (once-right (locals_in_body p) (locals_in_states ss) once) (λ k l. u k (lists-right (locals_in_body p) (locals_in_states ss) k l)) x.1))

    closed_flat_within : (p : Body) (s : Scope) (r : ℕ) (run : Bool) → IsScopedBody s p → Once (locals_in_body p) → AreUnemittable s (locals_in_body p) → IsClosedWithin n p r m run v → IsFlat n (locals_in_body p) (all_fires_within p r m run v) v
    closed_flat_within no_body s r run h once u x = λ k below l. cc
    closed_flat_within (body p) s r run h once u x = closed_flat p s r run h once u x

  mutual
    pub flat_closed : (p : Process) (s : Scope) (r : ℕ) (run : Bool) → IsScoped s p → Once (locals_in p) → AreUnemittable s (locals_in p) → IsFlat n (locals_in p) (all_fires p r m run v) v → IsClosed n p r m run v
    flat_closed (automaton ss q0) s r run h once u x =
        let code = slice_index_or m r 0 in
        flat_closed_in ss s (suc r) run 1 code h.1 once u (flat-right n (locals_in_states ss) (fires_in ss run 1 code v) (all_fires_in ss (suc r) m run 1 code v) v (λ k l. own_unemitted m v k ss s run 1 code h.1 (u k l)) x)
    flat_closed (parallel ps) s r run h once u x = flat_closed_of ps s r run h once u x
    flat_closed (local list p) s r run h once u x = (
      (λ k below l. x k below (lists-left list (locals_in p) k l) ∙ sym (emits-fires m v k p r run (once_behind list (locals_in p) k once l))),
      flat_closed p (within_locals s list) r run h (once-right list (locals_in p) once) (inner_unemittable s list (locals_in p) once u) (λ k below l. x k below (lists-right list (locals_in p) k l)),
    )
    flat_closed (freeze w p) s r run h once u x = flat_closed p s r (run && not (has v w)) h.1 once u x

    flat_closed_of : (ps : Processes) (s : Scope) (r : ℕ) (run : Bool) → AreScopedParts s ps → Once (locals_in_parts ps) → AreUnemittable s (locals_in_parts ps) → IsFlat n (locals_in_parts ps) (all_fires_of ps r m run v) v → AreClosed n ps r m run v
    flat_closed_of no_processes s r run h once u x = tt
    flat_closed_of (process p ps) s r run h once u x =
        let fs = all_fires p r m run v in
        let gs = all_fires_of ps (r + register_count p) m run v in
        let a = locals_in p in
        let b = locals_in_parts ps in (
          flat_closed p s r run h.0 (once-left a b once) (λ k l. u k (lists-left a b k l)) (flat-left n a fs gs v (λ k l. unemitted_of m v k ps s (r + register_count p) run h.1 (u k (lists-left a b k l)) (once_behind a b k once l)) (λ k below l. x k below (lists-left a b k l))),
          flat_closed_of ps s (r + register_count p) run h.1 (once-right a b once) (λ k l. u k (lists-right a b k l)) (flat-right n b fs gs v (λ k l. unemitted m v k p s r run h.0 (u k (lists-right a b k l)) (once-apart a b k once l)) (λ k below l. x k below (lists-right a b k l))),
        )

    flat_closed_in : (ss : States) (s : Scope) (r : ℕ) (run : Bool) (first code : ℕ) → AreScopedStates s ss → Once (locals_in_states ss) → AreUnemittable s (locals_in_states ss) → IsFlat n (locals_in_states ss) (all_fires_in ss r m run first code v) v → IsClosedIn n ss r m run first code v
    flat_closed_in no_states s r run first code h once u x = tt
    flat_closed_in (state y p ss) s r run first code h once u x =
        let live = run && is_in first y.timeout code in
        let fs = all_fires_within p r m live v in
        let gs = all_fires_in ss (r + registers_within p) m run (first + counts_of y.timeout) code v in
        let a = locals_in_body p in
        let b = locals_in_states ss in (
          flat_closed_within p s r live h.2 (once-left a b once) (λ k l. u k (lists-left a b k l)) (flat-left n a fs gs v (λ k l. unemitted_in m v k ss s (r + registers_within p) run (first + counts_of y.timeout) code h.3 (u k (lists-left a b k l)) (once_behind a b k once l)) (λ k below l. x k below (lists-left a b k l))),
          flat_closed_in ss s (r + registers_within p) run (first + counts_of y.timeout) code h.3 (once-right a b once) (λ k l. u k (lists-right a b k l)) (flat-right n b fs gs v (λ k l. unemitted_within m v k p s r live h.2 (u k (lists-right a b k l)) (once-apart a b k once l)) (λ k below l. x k below (lists-right a b k l))),
        )

    flat_closed_within : (p : Body) (s : Scope) (r : ℕ) (run : Bool) → IsScopedBody s p → Once (locals_in_body p) → AreUnemittable s (locals_in_body p) → IsFlat n (locals_in_body p) (all_fires_within p r m run v) v → IsClosedWithin n p r m run v
    flat_closed_within no_body s r run h once u x = tt
    flat_closed_within (body p) s r run h once u x = flat_closed p s r run h once u x
