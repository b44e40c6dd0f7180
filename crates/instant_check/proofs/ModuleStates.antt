-- From the states of a list to those of a module.
use Rattle.std.proofs.Common.{◌≡◌, ℕ, zero, suc, ◌+◌, ◌-◌, List, [], ◌∷◌, ◌++◌, Option, Some, None, false, Bool, ◌||◌, nat_eq, map, length, slice_get, refl, sym, ap, subst, ◌∙◌, arith, inl, inr, Result, Ok, Err, IfOk}
use Rattle.argos_base.specs.Orders.{IsEarlier, digits}
use Rattle.argos_base.specs.SignalSets.{SignalSet}
use Rattle.argos_core.specs.Automata.{Automaton, Parent, counts_of, rules_of, register_count, registers_within, automata_of, automata_from, automata_of_parts, automata_in, automata_within}
use Rattle.argos_core.specs.Overlaps.{IsStateAt, IsOverlap}
use Rattle.argos_core.specs.Process.{Transition, Rules, Process, automaton, parallel, local, freeze, Processes, no_processes, process, States, no_states, state, Body, no_body, body, PlainModule}
use Rattle.argos_core.specs.Reactions.{signal_count}
use Rattle.dd_core.specs.Arenas.{ArenaView}
use Rattle.instant_check.specs.ModuleOverlaps.{Fits, IsReached, IsClear, IsFound, IsAnswer, IsTooWide, IsOutOfBudget}
use Rattle.instant_check.specs.Effects.{SomeDiffer}
use Rattle.instant_check.specs.Reading.{signals_read}
use Rattle.instant_check.specs.StateOverlaps.{OverlapsAt, IsLeastOverlap, IsStopped}
use Rattle.eqn_dd.specs.declared.errors.CheckError.{CheckError}
use Rattle.eqn_dd.specs.declared.errors.CheckError.TheVariants.{Variables, Budget}
use Rattle.instant_check.specs.declared.search.OverlapFound.{OverlapFound}
use Rattle.instant_check.specs.declared.search.OverlapFound.TheVariants.{Clear, Overlap}
use Rattle.instant_check.specs.inner.Jobs.{Jobs, transitions_in, jobs_of, jobs_of_parts, jobs_in, jobs_within}
use Rattle.instant_check.specs.inner.Searching.{IsAt, ArePassed, Reaches, Answers}

abbrev job : Automaton → List (List Transition)
job a = transitions_in a.states

map-append : (xs ys : List Automaton) → map job (xs ++ ys) ≡ map job xs ++ map job ys
map-append [] ys = refl
map-append (x ∷ xs) ys = ap (λ (l : Jobs). job x ∷ l) (map-append xs ys)

-- the list has the automata of the process in their order
mutual
  jobs-automata : (p : Process) (r : ℕ) (up : Option Parent) (by : ℕ → Bool) → jobs_of p ≡ map job (automata_from r up by p)
  jobs-automata (automaton ss q) r up by = ap (λ (l : Jobs). transitions_in ss ∷ l) (bodies-automata ss (suc r) r 1 by)
  jobs-automata (parallel ps) r up by = parts-automata ps r up by
  jobs-automata (local list p) r up by = jobs-automata p r up by
  jobs-automata (freeze s p) r up by = jobs-automata p r up (λ k. nat_eq s k || by k)

  parts-automata : (ps : Processes) (r : ℕ) (up : Option Parent) (by : ℕ → Bool) → jobs_of_parts ps ≡ map job (automata_of_parts r up by ps)
  parts-automata no_processes r up by = refl
  parts-automata (process p ps) r up by =
      let next = r + register_count p in
      ap (λ (l : Jobs). l ++ jobs_of_parts ps) (jobs-automata p r up by)
      ∙ ap (λ (l : Jobs). map job (automata_from r up by p) ++ l) (parts-automata ps next up by)
      ∙ sym (map-append (automata_from r up by p) (automata_of_parts next up by ps))

  bodies-automata : (ss : States) (r own code : ℕ) (by : ℕ → Bool) → jobs_in ss ≡ map job (automata_in r own code by ss)
  bodies-automata no_states r own code by = refl
  bodies-automata (state x p ss) r own code by =
      let up : Parent = record { register = own; first = code; last = code + counts_of x.timeout - 1 } in
      let next = r + registers_within p in
      let more = code + counts_of x.timeout in
      ap (λ (l : Jobs). l ++ jobs_in ss) (body-automata p r up by)
      ∙ ap (λ (l : Jobs). map job (automata_within r up by p) ++ l) (bodies-automata ss next own more by)
      ∙ sym (map-append (automata_within r up by p) (automata_in next own more by ss))

  body-automata : (b : Body) (r : ℕ) (up : Parent) (by : ℕ → Bool) → jobs_within b ≡ map job (automata_within r up by b)
  body-automata no_body r up by = refl
  body-automata (body p) r up by = jobs-automata p r (Some up) by

module-automata : (P : PlainModule) → jobs_of P.process ≡ map job (automata_of P.process)
module-automata P = jobs-automata P.process 0 None (λ k. false)

get-map : (xs : List Automaton) (k : ℕ) (a : Automaton) → slice_get xs k ≡ Some a → slice_get (map job xs) k ≡ Some (job a)
get-map [] k a at = cc
get-map (x ∷ xs) zero a at = let same : x ≡ a = cc in ap (λ (z : Automaton). Some (job z)) same
get-map (x ∷ xs) (suc k) a at = get-map xs k a at

map-get : (xs : List Automaton) (k : ℕ) (states : List (List Transition)) → slice_get (map job xs) k ≡ Some states → (a : Automaton) × (slice_get xs k ≡ Some a) × (job a ≡ states)
map-get [] k states at = cc
map-get (x ∷ xs) zero states at = (x, refl, (let e : job x ≡ states = cc in e))
map-get (x ∷ xs) (suc k) states at = map-get xs k states at

get-transitions : (ss : States) (q : ℕ) (s : Rules) → slice_get (rules_of ss) q ≡ Some s → slice_get (transitions_in ss) q ≡ Some s.transitions
get-transitions no_states q s at = cc
get-transitions (state x p ss) zero s at = let same : x ≡ s = cc in ap (λ (z : Rules). Some z.transitions) same
get-transitions (state x p ss) (suc q) s at = get-transitions ss q s at

transitions-get : (ss : States) (q : ℕ) (ts : List Transition) → slice_get (transitions_in ss) q ≡ Some ts → (s : Rules) × (slice_get (rules_of ss) q ≡ Some s) × (s.transitions ≡ ts)
transitions-get no_states q ts at = cc
transitions-get (state x p ss) zero ts at = (x, refl, (let e : x.transitions ≡ ts = cc in e))
transitions-get (state x p ss) (suc q) ts at = transitions-get ss q ts at

-- a state of the module is one of the list
state_at : {P : PlainModule} {r q : ℕ} {s : Rules} → IsStateAt P r q s → IsAt (jobs_of P.process) r q s.transitions
state_at {P} {r} {q} {s} is = record {
  states = job is.automaton;
  automaton = ap (λ (l : Jobs). slice_get l r) (module-automata P) ∙ get-map (automata_of P.process) r is.automaton is.register;
  state = get-transitions is.automaton.states q s is.state;
}

-- and the other way round
pub record HasState (P : PlainModule) (r q : ℕ) (ts : List Transition) : Type 0 where
  pub rules : Rules
  pub is : IsStateAt P r q rules
  pub same : rules.transitions ≡ ts

has_state : {P : PlainModule} {r q : ℕ} {ts : List Transition} → IsAt (jobs_of P.process) r q ts → HasState P r q ts
has_state {P} {r} {q} {ts} a =
    let m = map-get (automata_of P.process) r a.states (ap (λ (l : Jobs). slice_get l r) (sym (module-automata P)) ∙ a.automaton) in
    let t = transitions-get m.0.states q ts (ap (λ (l : List (List Transition)). slice_get l q) m.2 ∙ a.state) in
    record { rules = t.0; is = record { automaton = m.0; register = m.1; state = t.1 }; same = t.2 }

one_automaton : {a b : Automaton} → ◌≡◌ {A = Option Automaton} (Some a) (Some b) → a ≡ b
one_automaton e = cc

one_rules : {s t : Rules} → ◌≡◌ {A = Option Rules} (Some s) (Some t) → s ≡ t
one_rules e = cc

-- at one place there is one state
pub one_state : {P : PlainModule} {r q r' q' : ℕ} {s t : Rules} → r' ≡ r → q' ≡ q → IsStateAt P r' q' t → IsStateAt P r q s → t ≡ s
one_state {P} {r} {q} {r'} {q'} {s} {t} e f u v =
    let a : u.automaton ≡ v.automaton = one_automaton (sym u.register ∙ ap (slice_get (automata_of P.process)) e ∙ v.register) in
    one_rules (sym u.state ∙ ap (slice_get (rules_of u.automaton.states)) f ∙ ap (λ (z : Automaton). slice_get (rules_of z.states) q) a ∙ v.state)

-- an overlap of a module is one of its state
pub overlap_of : {P : PlainModule} {r q x y : ℕ} {S : SignalSet} (o : IsOverlap P r q x y S) → OverlapsAt (signal_count P) o.rules.transitions x y S
overlap_of o = record { order = o.order; first = o.first; first_at = o.first_at; second = o.second; second_at = o.second_at; sized = o.sized; read = o.read; first_holds = o.first_holds; second_holds = o.second_holds; differ = o.differ }

clear_module : (P : PlainModule) → ArePassed (signal_count P) (jobs_of P.process) → IsClear P
clear_module P passed = record {
  none = λ r q x y S o. (passed r q o.rules.transitions (state_at o.state)).none x y S (overlap_of o);
  fits = λ r q rules is. (passed r q rules.transitions (state_at is)).fits;
}

reached_module : {P : PlainModule} {r q : ℕ} {ts : List Transition} (h : HasState P r q ts) → Reaches (signal_count P) (jobs_of P.process) r q ts → IsReached P r q h.rules
reached_module h reaches = record { state = h.is; before = λ r' q' earlier b is. reaches.before r' q' earlier.transitions b (state_at is) }

found_module : {P : PlainModule} {r q x y : ℕ} {S : SignalSet} {ts : List Transition} → Reaches (signal_count P) (jobs_of P.process) r q ts → Fits (signal_count P) ts → IsLeastOverlap (signal_count P) ts x y S → IsFound P r q x y S
found_module {P} {r} {q} {x} {y} {S} {ts} reaches fits overlap =
    record { first = record { is = first; first = earlier }; rules = h.rules; reached = reached_module h reaches; fits = subst (Fits (signal_count P)) (sym h.same) fits }
  where
    h : HasState P r q ts
    h = has_state reaches.at

    least : IsLeastOverlap (signal_count P) h.rules.transitions x y S
    least = subst (λ (us : List Transition). IsLeastOverlap (signal_count P) us x y S) (sym h.same) overlap

    first : IsOverlap P r q x y S
    first = record { rules = h.rules; state = h.is; order = least.is.order; first = least.is.first; first_at = least.is.first_at; second = least.is.second; second_at = least.is.second_at; sized = least.is.sized; read = least.is.read; first_holds = least.is.first_holds; second_holds = least.is.second_holds; differ = least.is.differ }

    earlier : (r' q' x' y' : ℕ) (S' : SignalSet) → IsOverlap P r' q' x' y' S' → ¬ (IsEarlier (r' ∷ q' ∷ x' ∷ y' ∷ digits S') (r ∷ q ∷ x ∷ y ∷ digits S))
    earlier r' q' x' y' S' o (inl less) = (reaches.before r' q' o.rules.transitions (inl less) (state_at o.state)).none x' y' S' (overlap_of o)
    earlier r' q' x' y' S' o (inr (same_r, inl less)) = (reaches.before r' q' o.rules.transitions (inr (same_r, less)) (state_at o.state)).none x' y' S' (overlap_of o)
    earlier r' q' x' y' S' o (inr (same_r, inr (same_q, e))) =
        let same : o.rules ≡ h.rules = one_state same_r same_q o.state h.is in
        least.first x' y' S' (subst (λ (z : Rules). OverlapsAt (signal_count P) z.transitions x' y' S') same (overlap_of o)) e

-- the answer of the list is that of the module
pub answer_found : (P : PlainModule) (budget : ℕ) (result : Result OverlapFound CheckError) → Answers (signal_count P) budget 0 (jobs_of P.process) result → IfOk result (IsAnswer P)
answer_found P budget (Ok Clear) (inl clear) = clear_module P clear.1
answer_found P budget (Ok Clear) (inr s) = absurd s.decides
answer_found P budget (Ok (Overlap r q x y S)) (inl clear) = absurd (let e = clear.0 in cc)
answer_found P budget (Ok (Overlap r q x y S)) (inr s) =
    let d = s.decides in
    let f : IsFound P s.place s.number x y S = found_module s.reaches d.2 d.3 in
    let at : s.place ≡ r.0 = omega (arith, d.0) in
    subst (λ (k : ℕ). IsFound P k q x y S) at (subst (λ (k : ℕ). IsFound P s.place k x y S) (sym d.1) f)
answer_found P budget (Err e) a = tt

pub answer_wide : (P : PlainModule) (budget : ℕ) (result : Result OverlapFound CheckError) → Answers (signal_count P) budget 0 (jobs_of P.process) result → (n : ℕ) → result ≡ Err (Variables n) → IsTooWide P n
answer_wide P budget result a n e = at (subst (λ (r : Result OverlapFound CheckError). Answers (signal_count P) budget 0 (jobs_of P.process) r) e a)
  where
    at : Answers (signal_count P) budget 0 (jobs_of P.process) (Err (Variables n)) → IsTooWide P n
    at (inl clear) = absurd (let f = clear.0 in cc)
    at (inr s) =
        let h : HasState P s.place s.number s.transitions = has_state s.reaches.at in
        let d = s.decides in
        record {
          register = s.place;
          number = s.number;
          rules = h.rules;
          reached = reached_module h s.reaches;
          differ = subst (λ (us : List Transition). SomeDiffer (signal_count P) us) (sym h.same) d.0;
          variables = d.1 ∙ ap (λ (us : List Transition). length (signals_read (signal_count P) us)) (sym h.same);
          many = d.2;
        }

pub answer_stopped : (P : PlainModule) (budget : ℕ) (result : Result OverlapFound CheckError) → Answers (signal_count P) budget 0 (jobs_of P.process) result → (arena : ArenaView) → result ≡ Err (Budget arena) → IsOutOfBudget P budget arena
answer_stopped P budget result a arena e = at (subst (λ (r : Result OverlapFound CheckError). Answers (signal_count P) budget 0 (jobs_of P.process) r) e a)
  where
    at : Answers (signal_count P) budget 0 (jobs_of P.process) (Err (Budget arena)) → IsOutOfBudget P budget arena
    at (inl clear) = absurd (let f = clear.0 in cc)
    at (inr s) =
        let h : HasState P s.place s.number s.transitions = has_state s.reaches.at in
        let d = s.decides in
        record {
          register = s.place;
          number = s.number;
          rules = h.rules;
          reached = reached_module h s.reaches;
          differ = subst (λ (us : List Transition). SomeDiffer (signal_count P) us) (sym h.same) d.0;
          stopped = subst (λ (us : List Transition). IsStopped (signal_count P) us budget arena) (sym h.same) d.1;
        }
