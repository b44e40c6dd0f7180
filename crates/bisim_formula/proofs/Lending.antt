-- What a module lends are its registers, and none has more states than codes.
use Rattle.std.proofs.Common.{◌≡◌, ℕ, suc, ◌+◌, ◌-◌, ◌≤◌, List, [], ◌∷◌, ◌++◌, Option, Some, None, false, Bool, ◌||◌, nat_eq, map, option_map, length, refl, sym, ap, ◌∙◌, All, IfOk, Vec, Result, Ok, Err, arith}
use Rattle.std.specs.Borrow.{Bor}
use Rattle.std.specs.declared.alloc.Global.{Global}
use Rattle.argos_base.specs.declared.out_of_memory.OutOfMemory.{OutOfMemory}
use Rattle.std.proofs.lemmas.List.Elements.{All-append, All-nil, All-cons, All-head, All-tail}
use Rattle.argos_core.specs.Automata.{Automaton, Parent, counts_of, code_count, rules_of, register_count, registers_within, automata_of, automata_from, automata_of_parts, automata_in, automata_within}
use Rattle.argos_core.specs.Modules.{IsCounting, IsModule, IsShaped, AreShapedParts, AreShapedStates, IsShapedBody}
use Rattle.argos_core.specs.Process.{Timeout, Process, automaton, parallel, local, freeze, Processes, no_processes, process, States, no_states, state, Body, no_body, body, PlainModule}
use Rattle.argos_core.specs.Process as plain
use Rattle.argos_core.specs.Views.{OneState, timeout_in, process_layer, automaton_layer, state_layer, state_of, states_of}
use Rattle.argos_core.specs.declared.prog.State.{State, fold_out-State}
use Rattle.argos_core.specs.declared.prog.Timed.{Timed}
use Rattle.argos_core.proofs.Shaping.{rules-length}
use Rattle.argos_states.specs.Lent.{states_behind}
use Rattle.bisim_formula.specs.Certificates.{Known, Registers, known_of}
use Rattle.bisim_formula.specs.inner.Lent.{known_state, states_in, registers_in, AreFew, AreLentBy}

-- each state has a code
counts_some : (n : ℕ) (w : Option Timeout) → IsCounting n w → 1 ≤ counts_of w
counts_some n None h = omega arith
counts_some n (Some w) h = h.0

states_few : (ss : States) (n : ℕ) → AreShapedStates n ss → length (rules_of ss) ≤ code_count ss
states_few no_states n h = omega arith
states_few (state s p ss) n h = omega (arith, counts_some n s.timeout h.1, states_few ss n h.3)

abbrev HasFew : Automaton → Type 0
HasFew a = length (rules_of a.states) ≤ 65535

few-append : (xs ys : List Automaton) → All HasFew xs → All HasFew ys → All HasFew (xs ++ ys)
few-append = All-append HasFew

mutual
  process-few : (p : Process) (r : ℕ) (up : Option Parent) (by : ℕ → Bool) → IsShaped p → All HasFew (automata_from r up by p)
  process-few (automaton ss q) r up by h =
      let a : Automaton = record { states = ss; initial = q; parent = up; stopped_by = by } in
      let bound : length (rules_of ss) ≤ 65535 = omega (arith, h.1, states_few ss (length (rules_of ss)) h.2) in
      All-cons HasFew a (automata_in (suc r) r 1 by ss) bound (bodies-few ss (length (rules_of ss)) (suc r) r 1 by h.2)
  process-few (parallel ps) r up by h = parts-few ps r up by h.1
  process-few (local list p) r up by h = process-few p r up by h
  process-few (freeze s p) r up by h = process-few p r up (λ k. nat_eq s k || by k) h

  parts-few : (ps : Processes) (r : ℕ) (up : Option Parent) (by : ℕ → Bool) → AreShapedParts ps → All HasFew (automata_of_parts r up by ps)
  parts-few no_processes r up by h = All-nil HasFew
  parts-few (process p ps) r up by h =
      let next = r + register_count p in
      few-append (automata_from r up by p) (automata_of_parts next up by ps) (process-few p r up by h.0) (parts-few ps next up by h.1)

  bodies-few : (ss : States) (n r own code : ℕ) (by : ℕ → Bool) → AreShapedStates n ss → All HasFew (automata_in r own code by ss)
  bodies-few no_states n r own code by h = All-nil HasFew
  bodies-few (state x p ss) n r own code by h =
      let up : Parent = record { register = own; first = code; last = code + counts_of x.timeout - 1 } in
      let next = r + registers_within p in
      let more = code + counts_of x.timeout in
      few-append (automata_within r up by p) (automata_in next own more by ss) (body-few p r up by h.2) (bodies-few ss n next own more by h.3)

  body-few : (b : Body) (r : ℕ) (up : Parent) (by : ℕ → Bool) → IsShapedBody b → All HasFew (automata_within r up by b)
  body-few no_body r up by h = All-nil HasFew
  body-few (body p) r up by h = process-few p r (Some up) by h

-- what the code lends
counted : (w : Option Timed) → option_map (λ t. t.count) (timeout_in w) ≡ option_map (λ t. t.count) w
counted None = refl
counted (Some t) = refl

state-known : (s : State) → known_of (state_of s).rules ≡ known_state s
state-known s =
    ap (λ (o : OneState). known_of o.rules) (fold_out-State plain.Process plain.Process OneState process_layer automaton_layer state_layer s)
    ∙ ap (λ (o : Option ℕ). let known : Known = record { name = s.name; count = o } in known) (counted s.timed)

states-known : (ss : List State) → map known_of (rules_of (states_of (map state_of ss))) ≡ states_in ss
states-known [] = refl
states-known (s ∷ ss) = ap (λ (k : Known). k ∷ map known_of (rules_of (states_of (map state_of ss)))) (state-known s) ∙ ap (λ (l : List Known). known_state s ∷ l) (states-known ss)

abbrev IsShort : Bor (List State) → Type 0
IsShort states = length states.now ≤ 65535

few : (all : List (Bor (List State))) (list : List Automaton) → states_behind all ≡ map (λ a. a.states) list → All HasFew list → AreFew all
few [] list are h = All-nil IsShort
few (x ∷ all) [] are h = cc
few (x ∷ all) (a ∷ list) are h =
    let same : states_of (map state_of x.now) ≡ a.states = cc in
    let more : states_behind all ≡ map (λ a. a.states) list = cc in
    let long : length (rules_of a.states) ≡ length x.now = ap (λ (ss : States). length (rules_of ss)) (sym same) ∙ rules-length x.now in
    let short : IsShort x = omega (arith, All-head HasFew a list h) in
    All-cons IsShort x all short (few all list more (All-tail HasFew a list h))

known : (all : List (Bor (List State))) (list : List Automaton) → states_behind all ≡ map (λ a. a.states) list → registers_in all ≡ map (λ a. map known_of (rules_of a.states)) list
known [] [] are = refl
known [] (a ∷ list) are = cc
known (x ∷ all) [] are = cc
known (x ∷ all) (a ∷ list) are =
    let same : states_of (map state_of x.now) ≡ a.states = cc in
    let more : states_behind all ≡ map (λ a. a.states) list = cc in
    let first : states_in x.now ≡ map known_of (rules_of a.states) = sym (states-known x.now) ∙ ap (λ (ss : States). map known_of (rules_of ss)) same in
    ap (λ (l : List Known). l ∷ registers_in all) first ∙ ap (λ (l : Registers). map known_of (rules_of a.states) ∷ l) (known all list more)

lent : (P : PlainModule) (all : List (Bor (List State))) → IsModule P → states_behind all ≡ map (λ a. a.states) (automata_of P.process) → AreLentBy P all
lent P all kept are = record {
  few = few all (automata_of P.process) are (process-few P.process 0 None (λ k. false) kept.shaped);
  known = known all (automata_of P.process) are;
}

pub all_lent : (P : PlainModule) (r : Result (Vec (Bor (List State)) Global) OutOfMemory) → IsModule P → IfOk r (λ all. states_behind all.items ≡ map (λ a. a.states) (automata_of P.process)) → IfOk r (λ all. AreLentBy P all.items)
all_lent P (Ok all) kept are = lent P all.items kept are
all_lent P (Err e) kept are = tt
