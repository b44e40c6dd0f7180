-- What sound components grow to keeps the rules of names.
use Rattle.std.proofs.Common.{◌≡◌, ℕ, ◌+◌, List, ◌++◌, Option, Some, None, false, length, map, sym, ◌∙◌, subst}
use Rattle.std.specs.Prelude.{zip}
use Rattle.std.specs.List.{AllByRecursion, range_with_len}
use Rattle.std.proofs.lemmas.List.{length-map, map-append}
use Rattle.argos_base.specs.Names.{AreDistinct}
use Rattle.argos_base.specs.Spelling.{is_one_of}
use Rattle.argos_core.specs.Modules as modules
use Rattle.argos_core.specs.Modules.{within_locals, IsScoped, AreScopedParts, AreScopedStates, IsScopedBody}
use Rattle.argos_grammar.specs.Forms.{Mark, ProcessForm, automaton, local, freeze, run, BlockForm, no_processes, process, StateForms, no_states, state, BodyForm, plain, refined, ComponentForm}
use Rattle.argos_names.specs.Scope.{Scope, inner, with_names, state_names}
use Rattle.argos_expansion.specs.Expansion.{Numbers, number_at, numbered, paired, Known, found, grown_run, grown_process, grown_block, grown_rest, grown_states, grown_body}
use Rattle.argos_scope.proofs.GrownStates.{grown-names}
use Rattle.argos_scope.proofs.KnownFacts.{known_of, OfFound, of_found}
use Rattle.argos_scope.proofs.Scoped.{Agrees, reads_readable, all_readable, each_emittable, transitions_scoped, timeout_scoped}
use Rattle.argos_scope.proofs.ScopesAgree.{locals_agree, paired_agrees}
use Rattle.argos_scope.proofs.SoundForms.{names_of, IsRead, IsEmitted, IsFound, IsSound, IsSoundBlock, AreSound, AreSoundStates, IsSoundBody, scope_in, IsSoundComponent}

-- a component whose signals have distinct names, and what it grows to
pub record HasScope (k : Known) : Type 0 where
  pub distinct : AreDistinct (names_of k.component.inputs ++ names_of k.component.outputs)
  pub apart : AllByRecursion (λ n. is_one_of (names_of k.component.inputs) n ≡ false) (names_of k.component.outputs)
  pub scoped : (here : modules.Scope) (env : Numbers) (depth next : ℕ) → Agrees here (scope_in k.component) env → IsScoped here (k.grown env depth next).whole

run_scoped : (o : Option Known) → OfFound HasScope o → (here : modules.Scope) (s : Scope) (env : Numbers) (xs ys : List Mark) (depth next : ℕ) → IsFound o (length xs) (length ys)
    → AllByRecursion (IsRead s) xs → AllByRecursion (IsEmitted s) ys → Agrees here s env → IsScoped here (grown_run o env xs ys depth next).whole
run_scoped None h here s env xs ys depth next f reads emits a = absurd f
run_scoped (Some k) h here s env xs ys depth next f reads emits a =
    h.scoped here (paired (k.component.inputs ++ k.component.outputs) (map (number_at env) (xs ++ ys))) (depth + 1) next
    (subst (λ ns. Agrees here (scope_in k.component) (zip (names_of (k.component.inputs ++ k.component.outputs)) ns)) (sym (map-append (number_at env) xs ys))
    (paired_agrees here k.component (map (number_at env) xs) (map (number_at env) ys) h.apart (f.0 ∙ sym (length-map xs (number_at env))) (f.1 ∙ sym (length-map ys (number_at env)))
    (all_readable here s env a xs reads) (each_emittable here s env a ys emits)))

module _ (ks : List Known) (known : AllByRecursion HasScope ks) where
  mutual
    process_scoped : (here : modules.Scope) (s : Scope) (env : Numbers) (depth next : ℕ) (p : ProcessForm) → IsSound ks s p → Agrees here s env → IsScoped here (grown_process ks env depth next p).whole
    process_scoped here s env depth next (automaton i ss) h a = (subst AreDistinct (sym (grown-names ks env (state_names ss) (depth + 1) next ss)) h.0, states_scoped here s env (state_names ss) (depth + 1) next ss h.2 a)
    process_scoped here s env depth next (local ns b) h a =
        block_scoped (within_locals here (range_with_len next (length ns))) (with_names inner ns s) (numbered ns next env) (depth + 1) (next + length ns) b h (locals_agree here ns s env next a)
    process_scoped here s env depth next (freeze m b) h a = (reads_readable here s env a m h.0, block_scoped here s env (depth + 1) next b h.1 a)
    process_scoped here s env depth next (run c xs ys) h a = run_scoped (found c.name ks) (of_found HasScope c.name ks known) here s env xs ys depth next h.0 h.1 h.2 a

    block_scoped : (here : modules.Scope) (s : Scope) (env : Numbers) (depth next : ℕ) (b : BlockForm) → IsSoundBlock ks s b → Agrees here s env → IsScoped here (grown_block ks env depth next b).whole
    block_scoped here s env depth next no_processes h a = absurd h
    block_scoped here s env depth next (process p no_processes) h a = process_scoped here s env depth next p h.0 a
    block_scoped here s env depth next (process p (process q b)) h a = (process_scoped here s env (depth + 1) next p h.0 a, rest_scoped here s env (depth + 1) _ (process q b) h.1 a)

    rest_scoped : (here : modules.Scope) (s : Scope) (env : Numbers) (depth next : ℕ) (b : BlockForm) → AreSound ks s b → Agrees here s env → AreScopedParts here (grown_rest ks env depth next b).whole
    rest_scoped here s env depth next no_processes h a = tt
    rest_scoped here s env depth next (process p b) h a = (process_scoped here s env depth next p h.0 a, rest_scoped here s env depth _ b h.1 a)

    states_scoped : (here : modules.Scope) (s : Scope) (env : Numbers) (names : List (List ℕ)) (depth next : ℕ) (ss : StateForms) → AreSoundStates ks s names ss → Agrees here s env
        → AreScopedStates here (grown_states ks env names depth next ss).whole
    states_scoped here s env names depth next no_states h a = tt
    states_scoped here s env names depth next (state x b ss) h a = (
      transitions_scoped here s env a names x.trans h.0.0,
      timeout_scoped here s env a names x.timed h.0.1,
      body_scoped here s env depth next b h.1 a,
      states_scoped here s env names depth _ ss h.2 a,
    )

    body_scoped : (here : modules.Scope) (s : Scope) (env : Numbers) (depth next : ℕ) (b : BodyForm) → IsSoundBody ks s b → Agrees here s env → IsScopedBody here (grown_body ks env depth next b).whole
    body_scoped here s env depth next plain h a = tt
    body_scoped here s env depth next (refined b) h a = block_scoped here s env depth next b h a

pub component_scoped : (ks : List Known) (c : ComponentForm) → AllByRecursion HasScope ks → IsSoundComponent ks c → HasScope (known_of ks c)
component_scoped ks c known sound = record {
  distinct = sound.distinct;
  apart = sound.apart;
  scoped = λ here env depth next a. block_scoped ks known here (scope_in c) env depth next c.block sound.block a;
}
