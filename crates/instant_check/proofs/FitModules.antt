-- Modules keep what the search of their states asks.
use Rattle.std.proofs.Common.{◌≡◌, ℕ, suc, ◌<◌, ◌≤◌, List, [], ◌∷◌, ◌++◌, Option, Some, None, true, false, nat_lt, nat_eq, length, length-append, refl, ap, arith, inl, inr, ◌⊎◌}
use Rattle.std.proofs.lemmas.Bool.Decides.{nat_tests}
use Rattle.argos_base.specs.Limits.{size_limit}
use Rattle.argos_base.specs.SignalSets.{lists}
use Rattle.argos_base.proofs.Bools.{or_left, or_right, or_cases}
use Rattle.argos_core.specs.Automata.{counts_of, code_count, rules_of, register_count, registers_of, registers_in, registers_within}
use Rattle.argos_core.specs.Guards.{reads, reads_some}
use Rattle.argos_core.specs.Modules.{Scope, is_readable, within_locals, IsGuard, AreGuards, AreTransitions, IsCounting, IsScoped, AreScopedParts, AreScopedStates, IsScopedBody, IsShaped, AreShapedParts, AreShapedStates, IsShapedBody, locals_in, locals_in_parts, locals_in_states, locals_in_body, scope_of, IsModule}
use Rattle.argos_core.specs.Overlaps.{some_reads}
use Rattle.argos_core.specs.Process.{Guard, always, never, present, negation, all, any, Guards, no_guards, guard, Transition, Timeout, Process, automaton, parallel, local, freeze, Processes, no_processes, process, States, no_states, state, Body, no_body, body, PlainModule}
use Rattle.argos_core.specs.Reactions.{input_count, signal_count}
use Rattle.argos_core.specs.Sizes.{process_size, parts_size, states_size, body_size}
use Rattle.instant_check.specs.inner.Jobs.{Jobs, transitions_in, jobs_of, jobs_of_parts, jobs_in, jobs_within, AreFitStates, AreFit}
use Rattle.instant_check.proofs.LeastOverlaps.{each_counts}
use Rattle.instant_check.proofs.Places.{nat_eq-true}

lists-append : (xs ys : List ℕ) (k : ℕ) → lists (xs ++ ys) k ≡ true → (lists xs k ≡ true) ⊎ (lists ys k ≡ true)
lists-append [] ys k h = inr h
lists-append (x ∷ xs) ys k h = elim (or_cases (nat_eq x k) (lists (xs ++ ys) k) h) [
  | inl e ↦ inl (or_left (nat_eq x k) (lists xs k) e)
  | inr r ↦ elim (lists-append xs ys k r) [ inl a ↦ inl (or_right (nat_eq x k) (lists xs k) a) | inr b ↦ inr b ]
]

lists-front : (xs ys : List ℕ) (k : ℕ) → lists xs k ≡ true → lists (xs ++ ys) k ≡ true
lists-front [] ys k h = cc
lists-front (x ∷ xs) ys k h = elim (or_cases (nat_eq x k) (lists xs k) h) [
  | inl e ↦ or_left (nat_eq x k) (lists (xs ++ ys) k) e
  | inr r ↦ or_right (nat_eq x k) (lists (xs ++ ys) k) (lists-front xs ys k r)
]

lists-behind : (xs ys : List ℕ) (k : ℕ) → lists ys k ≡ true → lists (xs ++ ys) k ≡ true
lists-behind [] ys k h = h
lists-behind (x ∷ xs) ys k h = or_right (nat_eq x k) (lists (xs ++ ys) k) (lists-behind xs ys k h)

fit_both : (n : ℕ) (first rest : Jobs) → AreFit n first → AreFit n rest → AreFit n (first ++ rest)
fit_both n [] rest a b = b
fit_both n (x ∷ first) rest a b = (a.0, a.1, fit_both n first rest a.2 b)

counts_positive : (n : ℕ) (w : Option Timeout) → IsCounting n w → 1 ≤ counts_of w
counts_positive n None h = omega arith
counts_positive n (Some w) h = h.0

states_counted : (ss : States) (n : ℕ) → AreShapedStates n ss → length (transitions_in ss) ≤ code_count ss
states_counted no_states n h = omega arith
states_counted (state s p ss) n h = let one = counts_positive n s.timeout h.1 in let r = states_counted ss n h.3 in omega (arith, one, r)

module _ (n : ℕ) where
  abbrev ReadsBelow : Scope → Type 0
  ReadsBelow sc = (k : ℕ) → is_readable sc k ≡ true → k < n

  abbrev AreBelow : List ℕ → Type 0
  AreBelow list = (k : ℕ) → lists list k ≡ true → k < n

  mutual
    guard_below : (g : Guard) (sc : Scope) → ReadsBelow sc → IsGuard sc g → (k : ℕ) → reads g k ≡ true → k < n
    guard_below always sc below is k h = cc
    guard_below never sc below is k h = cc
    guard_below (present s) sc below is k h = let e = nat_eq-true s k h in let b = below s is in omega (arith, e, b)
    guard_below (negation g) sc below is k h = guard_below g sc below is k h
    guard_below (all gs) sc below is k h = guards_below gs sc below is.1 k h
    guard_below (any gs) sc below is k h = guards_below gs sc below is.1 k h

    guards_below : (gs : Guards) (sc : Scope) → ReadsBelow sc → AreGuards sc gs → (k : ℕ) → reads_some gs k ≡ true → k < n
    guards_below no_guards sc below are k h = cc
    guards_below (guard g gs) sc below are k h = elim (or_cases (reads g k) (reads_some gs k) h) [
      | inl a ↦ guard_below g sc below are.0 k a
      | inr b ↦ guards_below gs sc below are.1 k b
    ]

  transitions_below : (ts : List Transition) (sc : Scope) → ReadsBelow sc → AreTransitions sc ts → (k : ℕ) → some_reads ts k ≡ true → k < n
  transitions_below [] sc below are k h = cc
  transitions_below (t ∷ ts) sc below are k h = elim (or_cases (reads t.guard k) (some_reads ts k) h) [
    | inl a ↦ guard_below t.guard sc below are.0 k a
    | inr b ↦ transitions_below ts sc below are.2 k b
  ]

  reads_within : (sc : Scope) (list : List ℕ) → ReadsBelow sc → AreBelow list → ReadsBelow (within_locals sc list)
  reads_within sc list below are k h = elim (or_cases (nat_lt k sc.inputs) (lists (list ++ sc.locals) k) h) [
    | inl a ↦ below k (or_left (nat_lt k sc.inputs) (lists sc.locals k) a)
    | inr b ↦ elim (lists-append list sc.locals k b) [
      | inl own ↦ are k own
      | inr outer ↦ below k (or_right (nat_lt k sc.inputs) (lists sc.locals k) outer)
    ]
  ]

  states_fit : (ss : States) (sc : Scope) → ReadsBelow sc → AreScopedStates sc ss → states_size ss ≤ size_limit → AreFitStates n (transitions_in ss)
  states_fit no_states sc below are small = tt
  states_fit (state s p ss) sc below are small =
      let few = each_counts s.transitions in
      (record { few = omega (arith, few); read = transitions_below s.transitions sc below are.0 }, states_fit ss sc below are.3 (omega arith))

  mutual
    process_fit : (p : Process) (sc : Scope) → ReadsBelow sc → AreBelow (locals_in p) → IsScoped sc p → IsShaped p → process_size p ≤ size_limit → AreFit n (jobs_of p)
    process_fit (automaton ss q) sc below own is shaped small =
        let counted = states_counted ss (length (rules_of ss)) shaped.2 in
        let codes = shaped.1 in
        (omega (arith, counted, codes), states_fit ss sc below is.1 (omega arith), bodies_fit ss sc (length (rules_of ss)) below own is.1 shaped.2 (omega arith))
    process_fit (parallel ps) sc below own is shaped small = parts_fit ps sc below own is shaped.1 (omega arith)
    process_fit (local list p) sc below own is shaped small =
        process_fit p (within_locals sc list) (reads_within sc list below (λ k h. own k (lists-front list (locals_in p) k h))) (λ k h. own k (lists-behind list (locals_in p) k h)) is shaped (omega arith)
    process_fit (freeze s p) sc below own is shaped small = process_fit p sc below own is.1 shaped (omega arith)

    parts_fit : (ps : Processes) (sc : Scope) → ReadsBelow sc → AreBelow (locals_in_parts ps) → AreScopedParts sc ps → AreShapedParts ps → parts_size ps ≤ size_limit → AreFit n (jobs_of_parts ps)
    parts_fit no_processes sc below own are shaped small = tt
    parts_fit (process p ps) sc below own are shaped small =
        fit_both n (jobs_of p) (jobs_of_parts ps)
        (process_fit p sc below (λ k h. own k (lists-front (locals_in p) (locals_in_parts ps) k h)) are.0 shaped.0 (omega arith))
        (parts_fit ps sc below (λ k h. own k (lists-behind (locals_in p) (locals_in_parts ps) k h)) are.1 shaped.1 (omega arith))

    bodies_fit : (ss : States) (sc : Scope) (m : ℕ) → ReadsBelow sc → AreBelow (locals_in_states ss) → AreScopedStates sc ss → AreShapedStates m ss → states_size ss ≤ size_limit → AreFit n (jobs_in ss)
    bodies_fit no_states sc m below own are shaped small = tt
    bodies_fit (state s p ss) sc m below own are shaped small =
        fit_both n (jobs_within p) (jobs_in ss)
        (body_fit p sc below (λ k h. own k (lists-front (locals_in_body p) (locals_in_states ss) k h)) are.2 shaped.2 (omega arith))
        (bodies_fit ss sc m below (λ k h. own k (lists-behind (locals_in_body p) (locals_in_states ss) k h)) are.3 shaped.3 (omega arith))

    body_fit : (p : Body) (sc : Scope) → ReadsBelow sc → AreBelow (locals_in_body p) → IsScopedBody sc p → IsShapedBody p → body_size p ≤ size_limit → AreFit n (jobs_within p)
    body_fit no_body sc below own is shaped small = tt
    body_fit (body p) sc below own is shaped small = process_fit p sc below own is shaped small

inputs_read : (P : PlainModule) (k : ℕ) → is_readable (scope_of P) k ≡ true → k < signal_count P
inputs_read P k h = elim (or_cases (nat_lt k (input_count P)) false h) [
  | inl a ↦ let b = below k (input_count P) a in omega (arith, b)
  | inr b ↦ cc
]
  where
    below : (i j : ℕ) → nat_lt i j ≡ true → i < j
    below i j e = grind (arith, nat_tests)

pub module_fit : (P : PlainModule) → IsModule P → AreFit (signal_count P) (jobs_of P.process)
module_fit P is = let size = is.size in process_fit (signal_count P) P.process (scope_of P) (inputs_read P) (λ k h. (is.locals_alone k h).1) is.scoped is.shaped (omega (arith, size))

-- one automaton per register
mutual
  jobs-counted : (p : Process) → length (jobs_of p) ≡ register_count p
  jobs-counted (automaton ss q) = ap suc (bodies-counted ss)
  jobs-counted (parallel ps) = parts-counted ps
  jobs-counted (local list p) = jobs-counted p
  jobs-counted (freeze s p) = jobs-counted p

  parts-counted : (ps : Processes) → length (jobs_of_parts ps) ≡ registers_of ps
  parts-counted no_processes = refl
  parts-counted (process p ps) = let a = jobs-counted p in let b = parts-counted ps in let l = length-append (jobs_of p) (jobs_of_parts ps) in omega (arith, a, b, l)

  bodies-counted : (ss : States) → length (jobs_in ss) ≡ registers_in ss
  bodies-counted no_states = refl
  bodies-counted (state s p ss) = let a = body-counted p in let b = bodies-counted ss in let l = length-append (jobs_within p) (jobs_in ss) in omega (arith, a, b, l)

  body-counted : (b : Body) → length (jobs_within b) ≡ registers_within b
  body-counted no_body = refl
  body-counted (body p) = jobs-counted p

pub module_numbered : (P : PlainModule) → IsModule P → length (jobs_of P.process) ≤ 4096
module_numbered P is = let a = jobs-counted P.process in let b = is.automata in omega (arith, a, b)
