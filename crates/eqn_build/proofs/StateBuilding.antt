-- The lines of transitions, one after the other.
use Rattle.std.proofs.Common.{◌≡◌, ℕ, suc, ◌+◌, ◌<◌, List, [], ◌∷◌, ◌++◌, Option, Some, None, refl, ap, sym, ◌∙◌, append_assoc, arith, map, length, get_or, drop}
use Rattle.std.proofs.lemmas.Grind.{common_steps}
use Rattle.std.proofs.lemmas.List.{at_drop_more, drop-map, drop_at, length-map}
use Rattle.argos_core.specs.Automata.{counts_of}
use Rattle.argos_core.specs.Views.{transition_of, state_of, states_of}
use Rattle.argos_core.specs.declared.prog.State.{State}
use Rattle.argos_core.proofs.Encoding.{encoding}
use Rattle.argos_core.proofs.Shaping.{rules-length}
use Rattle.eqn_build.specs.declared.builder.Fire.{Fire}
use Rattle.argos_core.specs.declared.prog.Trans.{Trans}
use Rattle.argos_core.specs.Process.{Timeout, Transition}
use Rattle.eqn_core.specs.Equations.{Literal}
use Rattle.eqn_core.specs.Equations as lines
use Rattle.eqn_build.specs.inner.BuilderViews.{fire_bit_of, own_exits, ticks_of_state, waits_lines}
use Rattle.eqn_scheme.specs.Scheme.{FireBit, timeout_fires, state_fire_bits, state_bits, state_lines, own_bits, own_lines, own_fires, own_ticks, fire_literals, plus, opposite, guard_bits, guard_literal, guard_lines, transition_bits, transition_lines, transition_fires, refusals, timeout_lines}

pub transition_bits-drop : (ts : List Trans) (i : ℕ) (d : Trans) → i < length ts → transition_bits (map transition_of (drop i ts)) ≡ suc (guard_bits (transition_of (get_or ts i d)).guard + transition_bits (map transition_of (drop (i + 1) ts)))
transition_bits-drop ts i d = at_drop_more (λ ts. transition_bits (map transition_of ts)) ts i d

pub transition_lines-drop : (one live b : ℕ) (ts : List Trans) (i : ℕ) (d : Trans) → i < length ts
    → transition_lines one live b (map transition_of (drop i ts))
    ≡ guard_lines one b (transition_of (get_or ts i d)).guard ++ lines.all (plus live ∷ guard_literal one b (transition_of (get_or ts i d)).guard ∷ []) ∷ transition_lines one live (suc (b + guard_bits (transition_of (get_or ts i d)).guard)) (map transition_of (drop (i + 1) ts))
transition_lines-drop one live b = at_drop_more (λ ts. transition_lines one live b (map transition_of ts))

pub transition_fires-drop : (b : ℕ) (ts : List Trans) (i : ℕ) (d : Trans) → i < length ts
    → transition_fires b (map transition_of (drop i ts))
    ≡ record { bit = b + guard_bits (transition_of (get_or ts i d)).guard; outs = (transition_of (get_or ts i d)).outs; target = (transition_of (get_or ts i d)).target } ∷ transition_fires (suc (b + guard_bits (transition_of (get_or ts i d)).guard)) (map transition_of (drop (i + 1) ts))
transition_fires-drop b = at_drop_more (λ ts. transition_fires b (map transition_of ts))

pub refusals-drop : (one b : ℕ) (ts : List Trans) (i : ℕ) (d : Trans) → i < length ts
    → refusals one b (map transition_of (drop i ts)) ≡ opposite (guard_literal one b (transition_of (get_or ts i d)).guard) ∷ refusals one (suc (b + guard_bits (transition_of (get_or ts i d)).guard)) (map transition_of (drop (i + 1) ts))
refusals-drop one b = at_drop_more (λ ts. refusals one b (map transition_of ts))

-- the lines of a timeout begin with the state's live bit and the opposites of its guards
pub waits_lines-timeout : (live r first b : ℕ) (none : List Literal) (w : Option Timeout) → waits_lines r first b (plus live ∷ none) w ≡ timeout_lines live r first b none w
waits_lines-timeout live r first b none None = refl
waits_lines-timeout live r first b none (Some w) = refl

-- the fires of a state's transitions, and then those of its timeout
pub state_fires-append : (old : List FireBit) (b c d : ℕ) (ts : List Transition) (w : Option Timeout) → c ≡ b + 1 + 1 → d ≡ c + transition_bits ts → (old ++ transition_fires c ts) ++ timeout_fires d w ≡ old ++ state_fire_bits b ts w
state_fires-append old b c d ts w e f =
    let two : c ≡ suc (suc b) = omega arith in
    ap (λ (k : ℕ). (old ++ transition_fires c ts) ++ timeout_fires k w) f ∙ ap (λ (k : ℕ). (old ++ transition_fires k ts) ++ timeout_fires (k + transition_bits ts) w) two ∙ append_assoc old (transition_fires (suc (suc b)) ts) (timeout_fires (suc (suc b) + transition_bits ts) w)

-- the states of an automaton one by one, where so many codes are used by those before
pub own_bits-drop : (ss : List State) (i : ℕ) (d : State) → i < length ss → own_bits (states_of (map state_of (drop i ss))) ≡ state_bits (state_of (get_or ss i d)).rules.transitions (state_of (get_or ss i d)).rules.timeout + own_bits (states_of (map state_of (drop (i + 1) ss)))
own_bits-drop = at_drop_more (λ ss. own_bits (states_of (map state_of ss)))

pub own_lines-drop : (one : ℕ) (run : Literal) (r used b : ℕ) (ss : List State) (i : ℕ) (d : State) → i < length ss
    → own_lines (states_of (map state_of (drop i ss))) one run r (used + 1) b
    ≡ state_lines one run r (used + 1) b (state_of (get_or ss i d)).rules.transitions (state_of (get_or ss i d)).rules.timeout
    ++ own_lines (states_of (map state_of (drop (i + 1) ss))) one run r (used + counts_of (state_of (get_or ss i d)).rules.timeout + 1) (b + state_bits (state_of (get_or ss i d)).rules.transitions (state_of (get_or ss i d)).rules.timeout)
own_lines-drop one run r used b ss i d below =
    let s = (state_of (get_or ss i d)).rules in
    let n = counts_of s.timeout in
    let e : used + 1 + n ≡ used + n + 1 = omega arith in
    at_drop_more (λ xs. own_lines (states_of (map state_of xs)) one run r (used + 1) b) ss i d below
    ∙ ap (λ (k : ℕ). state_lines one run r (used + 1) b s.transitions s.timeout ++ own_lines (states_of (map state_of (drop (i + 1) ss))) one run r k (b + state_bits s.transitions s.timeout)) e

pub own_fires-drop : (b : ℕ) (ss : List State) (i : ℕ) (d : State) → i < length ss
    → own_fires (states_of (map state_of (drop i ss))) b ≡ state_fire_bits b (state_of (get_or ss i d)).rules.transitions (state_of (get_or ss i d)).rules.timeout ++ own_fires (states_of (map state_of (drop (i + 1) ss))) (b + state_bits (state_of (get_or ss i d)).rules.transitions (state_of (get_or ss i d)).rules.timeout)
own_fires-drop b = at_drop_more (λ ss. own_fires (states_of (map state_of ss)) b)

pub own_ticks-drop : (b : ℕ) (ss : List State) (i : ℕ) (d : State) → i < length ss
    → own_ticks (states_of (map state_of (drop i ss))) b ≡ ticks_of_state b (state_of (get_or ss i d)).rules.transitions (state_of (get_or ss i d)).rules.timeout ++ own_ticks (states_of (map state_of (drop (i + 1) ss))) (b + state_bits (state_of (get_or ss i d)).rules.transitions (state_of (get_or ss i d)).rules.timeout)
own_ticks-drop b = at_drop_more (λ ss. own_ticks (states_of (map state_of ss)) b)

pub own_exits-drop : (kill : Literal) (b : ℕ) (ss : List State) (i : ℕ) (d : State) → i < length ss
    → own_exits (states_of (map state_of (drop i ss))) kill b
    ≡ record { live = b + 1; left = fire_literals (state_fire_bits b (state_of (get_or ss i d)).rules.transitions (state_of (get_or ss i d)).rules.timeout) ++ kill ∷ [] }
    ∷ own_exits (states_of (map state_of (drop (i + 1) ss))) kill (b + state_bits (state_of (get_or ss i d)).rules.transitions (state_of (get_or ss i d)).rules.timeout)
own_exits-drop kill b ss i d below =
    let s = (state_of (get_or ss i d)).rules in
    let e : suc b ≡ b + 1 = omega arith in
    at_drop_more (λ xs. own_exits (states_of (map state_of xs)) kill b) ss i d below
    ∙ ap (λ (k : ℕ). record { live = k; left = fire_literals (state_fire_bits b s.transitions s.timeout) ++ kill ∷ [] } ∷ own_exits (states_of (map state_of (drop (i + 1) ss))) kill (b + state_bits s.transitions s.timeout)) e

-- the fires behind those before
pub fires_behind : (before after : List Fire) (new : List FireBit) → map fire_bit_of after ≡ map fire_bit_of before ++ new → map fire_bit_of (drop (length before) after) ≡ new
fires_behind before after new e = sym (drop-map fire_bit_of (length before) after) ∙ ap (drop (length before)) e ∙ drop_at (map fire_bit_of before) new (length before) (length-map before fire_bit_of)

pub ruleset state_building = (common_steps, encoding, state_fires-append, waits_lines-timeout, transition_bits-drop, transition_lines-drop, transition_fires-drop, refusals-drop)
