-- Codes of what stands in a list, one after the other.
use Rattle.std.proofs.Common.{◌≡◌, ℕ, zero, suc, ◌+◌, ◌<◌, ◌≤◌, List, [], ◌∷◌, ◌++◌, ap, refl, sym, subst, ◌∙◌, ◌⊎◌, inl, inr, map, length, get_or, take, drop, replicate, append_assoc, add-one, arith}
use Rattle.std.proofs.lemmas.Grind.{common_steps}
use Rattle.std.proofs.lemmas.List.{at_drop_more}
use Rattle.argos_core.specs.Automata.{counts_of, code_count, first_code, register_count, registers_of, registers_in, registers_within}
use Rattle.argos_core.specs.Codes.{codes_of, codes_in, codes_within}
use Rattle.argos_core.specs.Configurations.{AreOfParts, IsOfState, IsOfBody}
use Rattle.argos_core.specs.Modules.{AreShapedStates, IsShapedBody}
use Rattle.argos_core.specs.Process.{Inner}
use Rattle.argos_core.specs.Views.{process_of, state_of, processes_of, states_of, configuration_of, configurations_of}
use Rattle.argos_core.specs.declared.prog.Config.{Config}
use Rattle.argos_core.specs.declared.prog.Prog.{Prog}
use Rattle.argos_core.specs.declared.prog.State.{State}
use Rattle.argos_core.proofs.CodesDiffer.{below_counts}
use Rattle.argos_core.proofs.Zeros.{replicate-add}

-- zeros for parts, and for the bodies of states
pub zeros_of_parts-drop : (ps : List Prog) (i : ℕ) (d : Prog) → i < length ps → replicate {A = ℕ} (registers_of (processes_of (map process_of (drop i ps)))) 0 ≡ replicate (register_count (process_of (get_or ps i d))) 0 ++ replicate (registers_of (processes_of (map process_of (drop (i + 1) ps)))) 0
zeros_of_parts-drop ps i d below =
    ap (λ (n : ℕ). replicate {A = ℕ} n 0) (at_drop_more (λ xs. registers_of (processes_of (map process_of xs))) ps i d below)
    ∙ replicate-add (register_count (process_of (get_or ps i d))) (registers_of (processes_of (map process_of (drop (i + 1) ps))))

pub zeros_of_states-drop : (ss : List State) (i : ℕ) (d : State) → i < length ss → replicate {A = ℕ} (registers_in (states_of (map state_of (drop i ss)))) 0 ≡ replicate (registers_within (state_of (get_or ss i d)).body) 0 ++ replicate (registers_in (states_of (map state_of (drop (i + 1) ss)))) 0
zeros_of_states-drop ss i d below =
    ap (λ (n : ℕ). replicate {A = ℕ} n 0) (at_drop_more (λ xs. registers_in (states_of (map state_of xs))) ss i d below)
    ∙ replicate-add (registers_within (state_of (get_or ss i d)).body) (registers_in (states_of (map state_of (drop (i + 1) ss))))

pub code_count-drop : (ss : List State) (i : ℕ) (d : State) → i < length ss → code_count (states_of (map state_of (drop i ss))) ≡ counts_of (state_of (get_or ss i d)).rules.timeout + code_count (states_of (map state_of (drop (i + 1) ss)))
code_count-drop = at_drop_more (λ ss. code_count (states_of (map state_of ss)))

-- the codes of an automaton's states, where one of them is current
codes_in-next : (ss : List State) (q : ℕ) (b : Inner) (d : State) → q < length ss → codes_in (states_of (map state_of ss)) q b ≡ replicate (registers_in (states_of (map state_of (take q ss)))) 0 ++ (codes_within (state_of (get_or ss q d)).body b ++ replicate (registers_in (states_of (map state_of (drop (suc q) ss)))) 0)
codes_in-next [] q b d below = absurd (omega arith)
codes_in-next (s ∷ ss) zero b d below = refl
codes_in-next (s ∷ ss) (suc q) b d below =
    let own = registers_within (state_of s).body in
    let before = registers_in (states_of (map state_of (take q ss))) in
    let rest = codes_within (state_of (get_or ss q d)).body b ++ replicate (registers_in (states_of (map state_of (drop (suc q) ss)))) 0 in
    ap (λ (l : List ℕ). replicate own 0 ++ l) (codes_in-next ss q b d (omega arith))
    ∙ sym (append_assoc (replicate own 0) (replicate before 0) rest)
    ∙ ap (λ (l : List ℕ). l ++ rest) (sym (replicate-add own before))

pub codes_in-at : (ss : List State) (q : ℕ) (b : Inner) (d : State) → q < length ss → codes_in (states_of (map state_of ss)) q b ≡ replicate (registers_in (states_of (map state_of (take q ss)))) 0 ++ (codes_within (state_of (get_or ss q d)).body b ++ replicate (registers_in (states_of (map state_of (drop (q + 1) ss)))) 0)
codes_in-at ss q b d below = rw add-one (codes_in-next ss q b d below)

pub first_code-at : (ss : List State) (q : ℕ) → q < length ss → first_code (states_of (map state_of ss)) q ≡ code_count (states_of (map state_of (take q ss))) + 1
first_code-at [] q below = absurd (omega arith)
first_code-at (s ∷ ss) zero below = refl
first_code-at (s ∷ ss) (suc q) below = omega (arith, first_code-at ss q (omega arith))

-- a state of a configuration exists, its body's place is one of the body, and its code is among the automaton's
pub state_exists : (ss : List State) (q e : ℕ) (b : Inner) → IsOfState (states_of (map state_of ss)) q e b → q < length ss
state_exists [] q e b h = absurd h
state_exists (s ∷ ss) zero e b h = omega arith
state_exists (s ∷ ss) (suc q) e b h = omega (arith, state_exists ss q e b h)

pub body_fits : (ss : List State) (q e : ℕ) (b : Inner) (s : State) → IsOfState (states_of (map state_of ss)) q e b → s ≡ get_or ss q s → IsOfBody (state_of s).body b
body_fits [] q e b s h at = absurd h
body_fits (r ∷ ss) zero e b s h at = subst (λ (x : State). IsOfBody (state_of x).body b) (sym at) h.1
body_fits (r ∷ ss) (suc q) e b s h at = body_fits ss q e b s h at

pub code_fits : (ss : List State) (q e : ℕ) (b : Inner) → IsOfState (states_of (map state_of ss)) q e b → first_code (states_of (map state_of ss)) q + e ≤ code_count (states_of (map state_of ss))
code_fits [] q e b h = absurd h
code_fits (s ∷ ss) zero e b h = omega (arith, below_counts (state_of s).rules.timeout e h.0)
code_fits (s ∷ ss) (suc q) e b h = omega (arith, code_fits ss q e b h)

pub body_shaped : (ss : List State) (n q : ℕ) (s : State) → AreShapedStates n (states_of (map state_of ss)) → q < length ss → s ≡ get_or ss q s → IsShapedBody (state_of s).body
body_shaped [] n q s h below at = absurd (omega arith)
body_shaped (r ∷ ss) n zero s h below at = subst (λ (x : State). IsShapedBody (state_of x).body) (sym at) h.2
body_shaped (r ∷ ss) n (suc q) s h below at = body_shaped ss n q s h.3 (omega arith) at

-- where one of two lists ends, no codes are left
pub codes_end : (ps : List Prog) (cs : List Config) → AreOfParts (processes_of (map process_of ps)) (configurations_of (map configuration_of cs)) → (length ps ≡ 0) ⊎ (length cs ≡ 0) → codes_of (processes_of (map process_of ps)) (configurations_of (map configuration_of cs)) ≡ []
codes_end [] cs h end = refl
codes_end (p ∷ ps) [] h end = refl
codes_end (p ∷ ps) (c ∷ cs) h (inl end) = absurd (omega arith)
codes_end (p ∷ ps) (c ∷ cs) h (inr end) = absurd (omega arith)

pub ruleset encoding = (common_steps, zeros_of_parts-drop, zeros_of_states-drop, code_count-drop, first_code-at, codes_in-at)
