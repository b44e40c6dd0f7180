-- An expansion is no deeper than its visits.
use Rattle.std.proofs.Common.{ℕ, ◌+◌, ◌≤◌, List, Option, Some, None, length, arith}
use Rattle.std.specs.List.{AllByRecursion}
use Rattle.argos_core.specs.Sizes.{depth_of, depth_of_parts, depth_in, depth_within}
use Rattle.argos_grammar.specs.Forms.{Mark, ProcessForm, automaton, local, freeze, run, BlockForm, no_processes, process, StateForms, no_states, state, BodyForm, plain, refined, ComponentForm}
use Rattle.argos_names.specs.Scope.{Scope, inner, with_names, state_names}
use Rattle.argos_expansion.specs.Expansion.{Numbers, numbered, Visit, Known, found, grown_run, grown_process, grown_block, grown_rest, grown_states, grown_body}
use Rattle.argos_scope.proofs.EmptyLists.{all_left, all_right}
use Rattle.argos_scope.proofs.KnownFacts.{known_of, OfFound, of_found}
use Rattle.argos_scope.proofs.SoundForms.{IsFound, IsSound, IsSoundBlock, AreSound, AreSoundStates, IsSoundBody, scope_in, IsSoundComponent}

-- the visits are no deeper than this
abbrev pub AreWithin : ℕ → List Visit → Type 0
AreWithin most = AllByRecursion (λ v. v.depth ≤ most)

-- what a component grows to
abbrev pub HasDepth : Known → Type 0
HasDepth k = (env : Numbers) (depth next most : ℕ) → AreWithin most (k.grown env depth next).visits → depth + depth_of (k.grown env depth next).whole ≤ most + 1

run_depth : (o : Option Known) → OfFound HasDepth o → (env : Numbers) (xs ys : List Mark) (depth next most : ℕ) → IsFound o (length xs) (length ys)
    → AreWithin most (grown_run o env xs ys depth next).visits → depth + 1 + depth_of (grown_run o env xs ys depth next).whole ≤ most + 1
run_depth None h env xs ys depth next most f w = absurd f
run_depth (Some k) h env xs ys depth next most f w = h _ (depth + 1) next most w

module _ (ks : List Known) (known : AllByRecursion HasDepth ks) (most : ℕ) where
  mutual
    process_depth : (s : Scope) (env : Numbers) (depth next : ℕ) (p : ProcessForm) → IsSound ks s p → AreWithin most (grown_process ks env depth next p).visits
        → depth + depth_of (grown_process ks env depth next p).whole ≤ most + 1
    process_depth s env depth next (automaton i ss) h w = let e = states_depth s env (state_names ss) (depth + 1) next ss h.2 (omega (arith, w.0)) w.1 in omega arith
    process_depth s env depth next (local ns b) h w = let e = block_depth (with_names inner ns s) (numbered ns next env) (depth + 1) (next + length ns) b h w.1 in omega arith
    process_depth s env depth next (freeze m b) h w = let e = block_depth s env (depth + 1) next b h.1 w.1 in omega arith
    process_depth s env depth next (run c xs ys) h w = let e = run_depth (found c.name ks) (of_found HasDepth c.name ks known) env xs ys depth next most h.0 w.1 in omega arith

    block_depth : (s : Scope) (env : Numbers) (depth next : ℕ) (b : BlockForm) → IsSoundBlock ks s b → AreWithin most (grown_block ks env depth next b).visits
        → depth + depth_of (grown_block ks env depth next b).whole ≤ most + 1
    block_depth s env depth next no_processes h w = absurd h
    block_depth s env depth next (process p no_processes) h w = process_depth s env depth next p h.0 w
    block_depth s env depth next (process p (process q b)) h w =
        let e = process_depth s env (depth + 1) next p h.0 (all_left _ _ _ w.1) in
        let d = rest_depth s env (depth + 1) _ (process q b) h.1 (omega (arith, w.0)) (all_right _ (grown_process ks env (depth + 1) next p).visits _ w.1) in
        omega arith

    rest_depth : (s : Scope) (env : Numbers) (depth next : ℕ) (b : BlockForm) → AreSound ks s b → depth ≤ most + 1 → AreWithin most (grown_rest ks env depth next b).visits
        → depth + depth_of_parts (grown_rest ks env depth next b).whole ≤ most + 1
    rest_depth s env depth next no_processes h room w = omega arith
    rest_depth s env depth next (process p b) h room w =
        let e = process_depth s env depth next p h.0 (all_left _ _ _ w) in
        let d = rest_depth s env depth _ b h.1 room (all_right _ (grown_process ks env depth next p).visits _ w) in
        omega arith

    states_depth : (s : Scope) (env : Numbers) (names : List (List ℕ)) (depth next : ℕ) (ss : StateForms) → AreSoundStates ks s names ss → depth ≤ most + 1 → AreWithin most (grown_states ks env names depth next ss).visits
        → depth + depth_in (grown_states ks env names depth next ss).whole ≤ most + 1
    states_depth s env names depth next no_states h room w = omega arith
    states_depth s env names depth next (state x b ss) h room w =
        let e = body_depth s env depth next b h.1 room (all_left _ _ _ w) in
        let d = states_depth s env names depth _ ss h.2 room (all_right _ (grown_body ks env depth next b).visits _ w) in
        omega arith

    body_depth : (s : Scope) (env : Numbers) (depth next : ℕ) (b : BodyForm) → IsSoundBody ks s b → depth ≤ most + 1 → AreWithin most (grown_body ks env depth next b).visits
        → depth + depth_within (grown_body ks env depth next b).whole ≤ most + 1
    body_depth s env depth next plain h room w = omega arith
    body_depth s env depth next (refined b) h room w = block_depth s env depth next b h w

pub component_depth : (ks : List Known) (c : ComponentForm) → AllByRecursion HasDepth ks → IsSoundComponent ks c → HasDepth (known_of ks c)
component_depth ks c known sound = λ env depth next most. block_depth ks known most (scope_in c) env depth next c.block sound.block
