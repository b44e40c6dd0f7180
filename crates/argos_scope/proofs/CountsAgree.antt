-- The sizes of an expansion are the sums of what its visits add.
use Rattle.std.proofs.Common.{◌≡◌, ℕ, ◌+◌, List, [], ◌∷◌, ◌++◌, Option, Some, None, length, map, refl, sym, arith}
use Rattle.std.specs.Prelude.{sum_by, option_map}
use Rattle.std.specs.List.{AllByRecursion}
use Rattle.std.proofs.lemmas.List.{length-map, length-append}
use Rattle.std.proofs.lemmas.List.Sums.{sum_by-cons, sum_by-append}
use Rattle.argos_core.specs.Automata.{register_count, registers_of, registers_in, registers_within}
use Rattle.argos_core.specs.Process as plain
use Rattle.argos_core.specs.Sizes.{guard_size, guards_size, transitions_size, timeout_size, state_size, process_size, parts_size, states_size, body_size}
use Rattle.argos_grammar.specs.Forms.{Mark, Formulas, yes, no, atom, opposite, all, any, no_formulas, formula, GuardForm, TransForm, TimedForm, Head, ProcessForm, automaton, local, freeze, run, BlockForm, no_processes, process, StateForms, no_states, state, BodyForm, plain, refined, ComponentForm}
use Rattle.argos_names.specs.Scope.{Scope, inner, with_names, state_names}
use Rattle.argos_expansion.specs.Expansion.{Numbers, numbered, guard_of, guards_of, nodes_of, nodes_in, transition_of, timeout_of, rules_of, size_of_trans, size_of_timed, size_in, Visit, Known, found, Grown, grown_run, grown_process, grown_block, grown_rest, grown_states, grown_body}
use Rattle.argos_expansion.specs.Limits.{signals_at, automata_at, size_at}
use Rattle.argos_scope.proofs.KnownFacts.{known_of, OfFound, of_found}
use Rattle.argos_scope.proofs.SoundForms.{IsFound, IsSound, IsSoundBlock, AreSound, AreSoundStates, IsSoundBody, scope_in, IsSoundComponent}

-- both ways of counting agree on conditions, transitions, timeouts and states
mutual
  guard_size-guard_of : (ns : Numbers) (f : GuardForm) → guard_size (guard_of ns f) ≡ nodes_of f
  guard_size-guard_of ns yes = refl
  guard_size-guard_of ns no = refl
  guard_size-guard_of ns (atom m) = refl
  guard_size-guard_of ns (opposite f) = let e = guard_size-guard_of ns f in omega arith
  guard_size-guard_of ns (all fs) = let e = guards_size-guards_of ns fs in omega arith
  guard_size-guard_of ns (any fs) = let e = guards_size-guards_of ns fs in omega arith

  guards_size-guards_of : (ns : Numbers) (fs : Formulas Mark) → guards_size (guards_of ns fs) ≡ nodes_in fs
  guards_size-guards_of ns no_formulas = refl
  guards_size-guards_of ns (formula f fs) = let e = guard_size-guard_of ns f in let d = guards_size-guards_of ns fs in omega arith

transitions_size-map : (ns : Numbers) (names : List (List ℕ)) (ts : List TransForm) → transitions_size (map (transition_of ns names) ts) ≡ sum_by (size_of_trans ns) ts
transitions_size-map ns names [] = refl
transitions_size-map ns names (t ∷ ts) =
    let e = guard_size-guard_of ns t.guard in
    let d = transitions_size-map ns names ts in
    let s = sum_by-cons (size_of_trans ns) t ts in
    omega arith

timeout_size-map : (ns : Numbers) (names : List (List ℕ)) (o : Option TimedForm) → timeout_size (option_map (timeout_of ns names) o) ≡ size_of_timed ns o
timeout_size-map ns names None = refl
timeout_size-map ns names (Some t) = refl

state_size-rules_of : (ns : Numbers) (names : List (List ℕ)) (h : Head) → state_size (rules_of ns names h) ≡ 1 + sum_by (size_of_trans ns) h.trans + size_of_timed ns h.timed
state_size-rules_of ns names h =
    let e = transitions_size-map ns names h.trans in
    let d = timeout_size-map ns names h.timed in
    omega arith

-- these visits, and so much more size that a visit above has added, are of so many locals and registers, and of this size
pub record IsTally (more : ℕ) (locals : List (List ℕ)) (registers size : ℕ) (vs : List Visit) : Type 0 where
  pub signals : signals_at vs ≡ length locals
  pub automata : automata_at vs ≡ registers
  pub sizes : size_at vs + more ≡ length locals + size

none_tally : IsTally 0 [] 0 0 []
none_tally = record { signals = refl; automata = refl; sizes = refl }

two_tally : (x y : ℕ) (ls ms : List (List ℕ)) (r q s t : ℕ) (vs us : List Visit) → IsTally x ls r s vs → IsTally y ms q t us → IsTally (x + y) (ls ++ ms) (r + q) (s + t) (vs ++ us)
two_tally x y ls ms r q s t vs us h k =
    let l = length-append ls ms in
    let a = sum_by-append (λ (v : Visit). v.signals) vs us in
    let b = sum_by-append (λ (v : Visit). v.automata) vs us in
    let c = sum_by-append (λ (v : Visit). v.size) vs us in
    record { signals = omega (arith, h.signals, k.signals); automata = omega (arith, h.automata, k.automata); sizes = omega (arith, h.sizes, k.sizes) }

-- one more visit, where locals come in front
more_tally : (v : Visit) (x y : ℕ) (new ls : List (List ℕ)) (r q s t : ℕ) (vs : List Visit) → IsTally x ls r s vs → v.signals ≡ length new → q ≡ v.automata + r
    → v.size + y + s ≡ v.signals + x + t → IsTally y (new ++ ls) q t (v ∷ vs)
more_tally v x y new ls r q s t vs h n e d =
    let l = length-append new ls in
    let a = sum_by-cons (λ (u : Visit). u.signals) v vs in
    let b = sum_by-cons (λ (u : Visit). u.automata) v vs in
    let c = sum_by-cons (λ (u : Visit). u.size) v vs in
    record { signals = omega (arith, h.signals); automata = omega (arith, h.automata); sizes = omega (arith, h.sizes) }

-- what a component grows to
abbrev pub IsGrownTally : Grown plain.Process → Type 0
IsGrownTally g = IsTally 0 g.locals (register_count g.whole) (process_size g.whole) g.visits

abbrev pub HasTally : Known → Type 0
HasTally k = (env : Numbers) (depth next : ℕ) → IsGrownTally (k.grown env depth next)

run_tally : (o : Option Known) → OfFound HasTally o → (env : Numbers) (xs ys : List Mark) (depth next : ℕ) → IsFound o (length xs) (length ys) → IsGrownTally (grown_run o env xs ys depth next)
run_tally None h env xs ys depth next f = absurd f
run_tally (Some k) h env xs ys depth next f = h _ (depth + 1) next

module _ (ks : List Known) (known : AllByRecursion HasTally ks) where
  mutual
    process_tally : (s : Scope) (env : Numbers) (depth next : ℕ) (p : ProcessForm) → IsSound ks s p → IsGrownTally (grown_process ks env depth next p)
    process_tally s env depth next (automaton i ss) h = more_tally _ (size_in env ss) 0 [] _ _ _ _ _ _ (states_tally s env (state_names ss) (depth + 1) next ss h.2) refl (omega arith) (omega arith)
    process_tally s env depth next (local ns b) h =
        let e : length (map (λ m. m.name) ns) ≡ length ns = length-map ns (λ m. m.name) in
        more_tally _ 0 0 (map (λ m. m.name) ns) _ _ _ _ _ _ (block_tally (with_names inner ns s) (numbered ns next env) (depth + 1) (next + length ns) b h) (sym e) (omega arith) (omega arith)
    process_tally s env depth next (freeze m b) h = more_tally _ 0 0 [] _ _ _ _ _ _ (block_tally s env (depth + 1) next b h.1) refl (omega arith) (omega arith)
    process_tally s env depth next (run c xs ys) h = more_tally _ 0 0 [] _ _ _ _ _ _ (run_tally (found c.name ks) (of_found HasTally c.name ks known) env xs ys depth next h.0) refl (omega arith) (omega arith)

    block_tally : (s : Scope) (env : Numbers) (depth next : ℕ) (b : BlockForm) → IsSoundBlock ks s b → IsGrownTally (grown_block ks env depth next b)
    block_tally s env depth next no_processes h = absurd h
    block_tally s env depth next (process p no_processes) h = process_tally s env depth next p h.0
    block_tally s env depth next (process p (process q b)) h =
        more_tally _ 0 0 [] _ _ _ _ _ _ (two_tally 0 0 _ _ _ _ _ _ _ _ (process_tally s env (depth + 1) next p h.0) (rest_tally s env (depth + 1) _ (process q b) h.1)) refl (omega arith) (omega arith)

    rest_tally : (s : Scope) (env : Numbers) (depth next : ℕ) (b : BlockForm) → AreSound ks s b
        → IsTally 0 (grown_rest ks env depth next b).locals (registers_of (grown_rest ks env depth next b).whole) (parts_size (grown_rest ks env depth next b).whole) (grown_rest ks env depth next b).visits
    rest_tally s env depth next no_processes h = none_tally
    rest_tally s env depth next (process p b) h = two_tally 0 0 _ _ _ _ _ _ _ _ (process_tally s env depth next p h.0) (rest_tally s env depth _ b h.1)

    states_tally : (s : Scope) (env : Numbers) (names : List (List ℕ)) (depth next : ℕ) (ss : StateForms) → AreSoundStates ks s names ss
        → IsTally (size_in env ss) (grown_states ks env names depth next ss).locals (registers_in (grown_states ks env names depth next ss).whole) (states_size (grown_states ks env names depth next ss).whole) (grown_states ks env names depth next ss).visits
    states_tally s env names depth next no_states h = none_tally
    states_tally s env names depth next (state x b ss) h =
        let e = state_size-rules_of env names x in
        let t = two_tally 0 (size_in env ss) _ _ _ _ _ _ _ _ (body_tally s env depth next b h.1) (states_tally s env names depth _ ss h.2) in
        record { signals = t.signals; automata = t.automata; sizes = omega (arith, t.sizes) }

    body_tally : (s : Scope) (env : Numbers) (depth next : ℕ) (b : BodyForm) → IsSoundBody ks s b
        → IsTally 0 (grown_body ks env depth next b).locals (registers_within (grown_body ks env depth next b).whole) (body_size (grown_body ks env depth next b).whole) (grown_body ks env depth next b).visits
    body_tally s env depth next plain h = none_tally
    body_tally s env depth next (refined b) h = block_tally s env depth next b h

pub component_tally : (ks : List Known) (c : ComponentForm) → AllByRecursion HasTally ks → IsSoundComponent ks c → HasTally (known_of ks c)
component_tally ks c known sound = λ env depth next. block_tally ks known (scope_in c) env depth next c.block sound.block
