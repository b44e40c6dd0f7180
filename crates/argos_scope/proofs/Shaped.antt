-- An expansion has initial states and targets that exist, timeouts that count, few codes, and two parts at least.
use Rattle.std.proofs.Common.{ℕ, ◌+◌, ◌≤◌, List, [], ◌∷◌, Option, Some, None, length, map, sym, subst, arith}
use Rattle.std.specs.Prelude.{option_map}
use Rattle.std.specs.List.{AllByRecursion}
use Rattle.argos_base.specs.Limits.{code_limit}
use Rattle.argos_core.specs.Modules.{AreTargets, IsCounting, IsShaped, AreShapedParts, AreShapedStates, IsShapedBody}
use Rattle.argos_grammar.specs.Forms.{Mark, TransForm, TimedForm, ProcessForm, automaton, local, freeze, run, BlockForm, no_processes, process, StateForms, no_states, state, BodyForm, plain, refined, ComponentForm}
use Rattle.argos_names.specs.Scope.{Scope, inner, with_names, state_names}
use Rattle.argos_expansion.specs.Expansion.{Numbers, numbered, transition_of, timeout_of, Visit, Known, found, grown_run, grown_process, grown_block, grown_rest, grown_states, grown_body}
use Rattle.argos_scope.proofs.EmptyLists.{all_left, all_right}
use Rattle.argos_scope.proofs.GrownStates.{grown-length, grown-codes}
use Rattle.argos_scope.proofs.KnownFacts.{known_of, OfFound, of_found}
use Rattle.argos_scope.proofs.SoundForms.{IsSoundTrans, IsSoundTimed, IsFound, IsSound, IsSoundBlock, AreSound, AreSoundStates, IsSoundBody, scope_in, IsSoundComponent}

-- no visited automaton has more codes
abbrev pub HaveFewCodes : List Visit → Type 0
HaveFewCodes = AllByRecursion (λ v. v.codes ≤ code_limit)

targets_exist : (s : Scope) (env : Numbers) (names : List (List ℕ)) (ts : List TransForm) → AllByRecursion (IsSoundTrans s names) ts → AreTargets (length names) (map (transition_of env names) ts)
targets_exist s env names [] h = tt
targets_exist s env names (t ∷ ts) h = (h.0.2, targets_exist s env names ts h.1)

timeout_counts : (s : Scope) (env : Numbers) (names : List (List ℕ)) (o : Option TimedForm) → IsSoundTimed s names o → IsCounting (length names) (option_map (timeout_of env names) o)
timeout_counts s env names None h = tt
timeout_counts s env names (Some t) h = (h.0, h.3)

-- what a component grows to
abbrev pub HasShape : Known → Type 0
HasShape k = (env : Numbers) (depth next : ℕ) → HaveFewCodes (k.grown env depth next).visits → IsShaped (k.grown env depth next).whole

run_shaped : (o : Option Known) → OfFound HasShape o → (env : Numbers) (xs ys : List Mark) (depth next : ℕ) → IsFound o (length xs) (length ys) → HaveFewCodes (grown_run o env xs ys depth next).visits → IsShaped (grown_run o env xs ys depth next).whole
run_shaped None h env xs ys depth next f w = absurd f
run_shaped (Some k) h env xs ys depth next f w = h _ (depth + 1) next w

module _ (ks : List Known) (known : AllByRecursion HasShape ks) where
  mutual
    process_shaped : (s : Scope) (env : Numbers) (depth next : ℕ) (p : ProcessForm) → IsSound ks s p → HaveFewCodes (grown_process ks env depth next p).visits → IsShaped (grown_process ks env depth next p).whole
    process_shaped s env depth next (automaton i ss) h w =
        let n = grown-length ks env (state_names ss) (depth + 1) next ss in
        let c = grown-codes ks env (state_names ss) (depth + 1) next ss in
        (omega (arith, h.1), omega (arith, w.0), subst (λ k. AreShapedStates k (grown_states ks env (state_names ss) (depth + 1) next ss).whole) (sym n) (states_shaped s env (state_names ss) (depth + 1) next ss h.2 w.1))
    process_shaped s env depth next (local ns b) h w = block_shaped (with_names inner ns s) (numbered ns next env) (depth + 1) (next + length ns) b h w.1
    process_shaped s env depth next (freeze m b) h w = block_shaped s env (depth + 1) next b h.1 w.1
    process_shaped s env depth next (run c xs ys) h w = run_shaped (found c.name ks) (of_found HasShape c.name ks known) env xs ys depth next h.0 w.1

    block_shaped : (s : Scope) (env : Numbers) (depth next : ℕ) (b : BlockForm) → IsSoundBlock ks s b → HaveFewCodes (grown_block ks env depth next b).visits → IsShaped (grown_block ks env depth next b).whole
    block_shaped s env depth next no_processes h w = absurd h
    block_shaped s env depth next (process p no_processes) h w = process_shaped s env depth next p h.0 w
    block_shaped s env depth next (process p (process q b)) h w = (
      omega arith,
      (process_shaped s env (depth + 1) next p h.0 (all_left _ _ _ w.1), rest_shaped s env (depth + 1) _ (process q b) h.1 (all_right _ (grown_process ks env (depth + 1) next p).visits _ w.1)),
    )

    rest_shaped : (s : Scope) (env : Numbers) (depth next : ℕ) (b : BlockForm) → AreSound ks s b → HaveFewCodes (grown_rest ks env depth next b).visits → AreShapedParts (grown_rest ks env depth next b).whole
    rest_shaped s env depth next no_processes h w = tt
    rest_shaped s env depth next (process p b) h w = (process_shaped s env depth next p h.0 (all_left _ _ _ w), rest_shaped s env depth _ b h.1 (all_right _ (grown_process ks env depth next p).visits _ w))

    states_shaped : (s : Scope) (env : Numbers) (names : List (List ℕ)) (depth next : ℕ) (ss : StateForms) → AreSoundStates ks s names ss → HaveFewCodes (grown_states ks env names depth next ss).visits
        → AreShapedStates (length names) (grown_states ks env names depth next ss).whole
    states_shaped s env names depth next no_states h w = tt
    states_shaped s env names depth next (state x b ss) h w = (
      targets_exist s env names x.trans h.0.0,
      timeout_counts s env names x.timed h.0.1,
      body_shaped s env depth next b h.1 (all_left _ _ _ w),
      states_shaped s env names depth _ ss h.2 (all_right _ (grown_body ks env depth next b).visits _ w),
    )

    body_shaped : (s : Scope) (env : Numbers) (depth next : ℕ) (b : BodyForm) → IsSoundBody ks s b → HaveFewCodes (grown_body ks env depth next b).visits → IsShapedBody (grown_body ks env depth next b).whole
    body_shaped s env depth next plain h w = tt
    body_shaped s env depth next (refined b) h w = block_shaped s env depth next b h w

pub component_shaped : (ks : List Known) (c : ComponentForm) → AllByRecursion HasShape ks → IsSoundComponent ks c → HasShape (known_of ks c)
component_shaped ks c known sound = λ env depth next. block_shaped ks known (scope_in c) env depth next c.block sound.block
