-- The states of an automaton, one after the other, without their bodies.
use Rattle.std.proofs.Common.{◌≡◌, ℕ, zero, suc, ◌+◌, ◌-◌, ◌<◌, ◌≤◌, List, [], ◌∷◌, ◌++◌, Option, Some, None, refl, ap, sym, ◌∙◌, subst, append_assoc, arith, map, length, get_or, take, drop}
use Rattle.std.proofs.lemmas.Grind.{common_steps}
use Rattle.std.proofs.lemmas.List.{at_drop_more, map_push, take_rest, length-map}
use Rattle.argos_core.specs.Automata.{counts_of, code_count, rules_of}
use Rattle.argos_core.specs.Modules.{AreTargets, IsCounting, AreShapedStates}
use Rattle.argos_core.specs.Process.{Transition, Timeout}
use Rattle.argos_core.specs.Views.{state_of, states_of}
use Rattle.argos_core.specs.declared.prog.State.{State}
use Rattle.argos_core.proofs.Encoding.{encoding, code_count-drop}
use Rattle.argos_core.proofs.Shaping.{rules-length}
use Rattle.eqn_core.specs.Equations.{Literal, Line}
use Rattle.eqn_build.specs.declared.builder.Fire.{Fire}
use Rattle.eqn_scheme.specs.Scheme.{FireBit, guard_bits, transition_fires, timeout_fires, transition_bits, state_bits, state_lines, state_fire_bits, own_bits, own_lines, own_fires, own_ticks, fire_literals}
use Rattle.eqn_build.specs.declared.builder.Exit.{Exit}
use Rattle.eqn_build.specs.inner.BuilderViews.{ExitBits, fire_bit_of, exit_bits_of, literals, LeadBelow, own_exits, ticks_of_state}
use Rattle.eqn_build.proofs.StateBuilding.{fires_behind, own_bits-drop, own_lines-drop, own_fires-drop, own_ticks-drop, own_exits-drop}

-- what is behind, and then what is left
pub appended : {A : Type 0} (old new step rest goal : List A) → new ≡ old ++ step → old ++ (step ++ rest) ≡ goal → new ++ rest ≡ goal
appended old new step rest goal e h = ap (λ l. l ++ rest) e ∙ append_assoc old step rest ∙ h

exit_is : (live live' : ℕ) (left left' : List Literal) → live' ≡ live → left ≡ left' → record { live = live'; left = left } ≡ (let z : ExitBits = record { live = live; left = left' } in z)
exit_is live live' left left' e f = ap (λ (k : ℕ). (let z : ExitBits = record { live = k; left = left } in z)) e ∙ ap (λ (l : List Literal). (let z : ExitBits = record { live = live; left = l } in z)) f

module _ (ss : List State) (i : ℕ) (x : State) (below : i < length ss) (is : x ≡ get_or ss i x) where
  -- with the state itself in place of the reading of the list
  code_count-next : code_count (states_of (map state_of (drop i ss))) ≡ counts_of (state_of x).rules.timeout + code_count (states_of (map state_of (drop (i + 1) ss)))
  code_count-next = subst (λ (y : State). code_count (states_of (map state_of (drop i ss))) ≡ counts_of (state_of y).rules.timeout + code_count (states_of (map state_of (drop (i + 1) ss)))) (sym is) (code_count-drop ss i x below)

  own_bits-next : own_bits (states_of (map state_of (drop i ss))) ≡ state_bits (state_of x).rules.transitions (state_of x).rules.timeout + own_bits (states_of (map state_of (drop (i + 1) ss)))
  own_bits-next = subst (λ (y : State). own_bits (states_of (map state_of (drop i ss))) ≡ state_bits (state_of y).rules.transitions (state_of y).rules.timeout + own_bits (states_of (map state_of (drop (i + 1) ss)))) (sym is) (own_bits-drop ss i x below)

  pub counted_step : (used n : ℕ) → n ≡ counts_of (state_of x).rules.timeout → used + code_count (states_of (map state_of (drop i ss))) ≤ 65535 → used + n + code_count (states_of (map state_of (drop (i + 1) ss))) ≤ 65535
  counted_step used n e h = omega (arith, code_count-next)

  pub bits_step : (b b' goal : ℕ) → b' ≡ b + state_bits (state_of x).rules.transitions (state_of x).rules.timeout → b + own_bits (states_of (map state_of (drop i ss))) ≡ goal → b' + own_bits (states_of (map state_of (drop (i + 1) ss))) ≡ goal
  bits_step b b' goal e h = omega (arith, own_bits-next)

  pub lines_step : (old new goal : List Line) (one one' : ℕ) (run : Literal) (r used n b b' : ℕ) → one' ≡ one → n ≡ counts_of (state_of x).rules.timeout → b' ≡ b + state_bits (state_of x).rules.transitions (state_of x).rules.timeout
      → new ≡ old ++ state_lines one run r (used + 1) b (state_of x).rules.transitions (state_of x).rules.timeout → old ++ own_lines (states_of (map state_of (drop i ss))) one run r (used + 1) b ≡ goal
      → new ++ own_lines (states_of (map state_of (drop (i + 1) ss))) one' run r (used + n + 1) b' ≡ goal
  lines_step old new goal one one' run r used n b b' eo en eb e h =
      let s = (state_of x).rules in
      let step = state_lines one run r (used + 1) b s.transitions s.timeout in
      let rest = states_of (map state_of (drop (i + 1) ss)) in
      let here : own_lines (states_of (map state_of (drop i ss))) one run r (used + 1) b ≡ step ++ own_lines rest one run r (used + counts_of s.timeout + 1) (b + state_bits s.transitions s.timeout) =
      subst (λ (y : State). own_lines (states_of (map state_of (drop i ss))) one run r (used + 1) b ≡ state_lines one run r (used + 1) b (state_of y).rules.transitions (state_of y).rules.timeout ++ own_lines rest one run r (used + counts_of (state_of y).rules.timeout + 1) (b + state_bits (state_of y).rules.transitions (state_of y).rules.timeout)) (sym is) (own_lines-drop one run r used b ss i x below)
      in
      ap (λ (k : ℕ). new ++ own_lines rest k run r (used + n + 1) b') eo
      ∙ ap (λ (k : ℕ). new ++ own_lines rest one run r (used + k + 1) b') en
      ∙ ap (λ (k : ℕ). new ++ own_lines rest one run r (used + counts_of s.timeout + 1) k) eb
      ∙ appended old new step (own_lines rest one run r (used + counts_of s.timeout + 1) (b + state_bits s.transitions s.timeout)) goal e (ap (λ l. old ++ l) (sym here) ∙ h)

  pub fires_step : (old new goal : List FireBit) (b b' : ℕ) → b' ≡ b + state_bits (state_of x).rules.transitions (state_of x).rules.timeout → new ≡ old ++ state_fire_bits b (state_of x).rules.transitions (state_of x).rules.timeout → old ++ own_fires (states_of (map state_of (drop i ss))) b ≡ goal
      → new ++ own_fires (states_of (map state_of (drop (i + 1) ss))) b' ≡ goal
  fires_step old new goal b b' eb e h =
      let s = (state_of x).rules in
      let rest = states_of (map state_of (drop (i + 1) ss)) in
      let here = subst (λ (y : State). own_fires (states_of (map state_of (drop i ss))) b ≡ state_fire_bits b (state_of y).rules.transitions (state_of y).rules.timeout ++ own_fires rest (b + state_bits (state_of y).rules.transitions (state_of y).rules.timeout)) (sym is) (own_fires-drop b ss i x below) in
      ap (λ (k : ℕ). new ++ own_fires rest k) eb ∙ appended old new (state_fire_bits b s.transitions s.timeout) (own_fires rest (b + state_bits s.transitions s.timeout)) goal e (ap (λ l. old ++ l) (sym here) ∙ h)

  pub ticks_step : (old new goal : List ℕ) (b b' : ℕ) → b' ≡ b + state_bits (state_of x).rules.transitions (state_of x).rules.timeout → new ≡ old ++ ticks_of_state b (state_of x).rules.transitions (state_of x).rules.timeout → old ++ own_ticks (states_of (map state_of (drop i ss))) b ≡ goal
      → new ++ own_ticks (states_of (map state_of (drop (i + 1) ss))) b' ≡ goal
  ticks_step old new goal b b' eb e h =
      let s = (state_of x).rules in
      let rest = states_of (map state_of (drop (i + 1) ss)) in
      let here = subst (λ (y : State). own_ticks (states_of (map state_of (drop i ss))) b ≡ ticks_of_state b (state_of y).rules.transitions (state_of y).rules.timeout ++ own_ticks rest (b + state_bits (state_of y).rules.transitions (state_of y).rules.timeout)) (sym is) (own_ticks-drop b ss i x below) in
      ap (λ (k : ℕ). new ++ own_ticks rest k) eb ∙ appended old new (ticks_of_state b s.transitions s.timeout) (own_ticks rest (b + state_bits s.transitions s.timeout)) goal e (ap (λ l. old ++ l) (sym here) ∙ h)

  pub exits_step : (old new : List Exit) (exit : Exit) (goal : List ExitBits) (kill : Literal) (b b' : ℕ) → b' ≡ b + state_bits (state_of x).rules.transitions (state_of x).rules.timeout → new ≡ old ++ exit ∷ []
      → exit.live ≡ b + 1 → literals exit.left ≡ fire_literals (state_fire_bits b (state_of x).rules.transitions (state_of x).rules.timeout) ++ kill ∷ [] → map exit_bits_of old ++ own_exits (states_of (map state_of (drop i ss))) kill b ≡ goal
      → map exit_bits_of new ++ own_exits (states_of (map state_of (drop (i + 1) ss))) kill b' ≡ goal
  exits_step old new exit goal kill b b' eb pushed lives leaves h =
      let s = (state_of x).rules in
      let rest = states_of (map state_of (drop (i + 1) ss)) in
      let given : State → ExitBits = λ y. record { live = b + 1; left = fire_literals (state_fire_bits b (state_of y).rules.transitions (state_of y).rules.timeout) ++ kill ∷ [] } in
      let here = subst (λ (y : State). own_exits (states_of (map state_of (drop i ss))) kill b ≡ given y ∷ own_exits rest kill (b + state_bits (state_of y).rules.transitions (state_of y).rules.timeout)) (sym is) (own_exits-drop kill b ss i x below) in
      let one : exit_bits_of exit ≡ given x = exit_is (b + 1) exit.live (literals exit.left) (fire_literals (state_fire_bits b s.transitions s.timeout) ++ kill ∷ []) lives leaves in
      ap (λ (k : ℕ). map exit_bits_of new ++ own_exits rest kill k) eb
      ∙ appended (map exit_bits_of old) (map exit_bits_of new) (given x ∷ []) (own_exits rest kill (b + state_bits s.transitions s.timeout)) goal (ap (map exit_bits_of) pushed ∙ map_push exit_bits_of old exit ∙ ap (λ (z : ExitBits). map exit_bits_of old ++ z ∷ []) one) (ap (λ l. map exit_bits_of old ++ l) (sym here) ∙ h)

-- what is left after a state, where its fires are those behind the ones before
pub left_is : (before after : List Fire) (n : ℕ) (new : List FireBit) (kill : Literal) (ls : List Literal) → n ≡ length before → map fire_bit_of after ≡ map fire_bit_of before ++ new → ls ≡ fire_literals (map fire_bit_of (take (length after - n) (drop n after))) ++ kill ∷ [] → ls ≡ fire_literals new ++ kill ∷ []
left_is before after n new kill ls sized e h =
    h
    ∙ ap (λ (fs : List Fire). fire_literals (map fire_bit_of fs) ++ kill ∷ []) (take_rest after n)
    ∙ ap (λ (k : ℕ). fire_literals (map fire_bit_of (drop k after)) ++ kill ∷ []) sized
    ∙ ap (λ (fs : List FireBit). fire_literals fs ++ kill ∷ []) (fires_behind before after new e)

-- the fires of shaped states lead to states
lead_append : (n : ℕ) (xs ys : List FireBit) → LeadBelow n xs → LeadBelow n ys → LeadBelow n (xs ++ ys)
lead_append n [] ys h k = k
lead_append n (x ∷ xs) ys h k = (h.0, lead_append n xs ys h.1 k)

lead_transitions : (n b : ℕ) (ts : List Transition) → AreTargets n ts → LeadBelow n (transition_fires b ts)
lead_transitions n b [] h = tt
lead_transitions n b (t ∷ ts) h = (h.0, lead_transitions n (suc (b + guard_bits t.guard)) ts h.1)

lead_timeout : (n b : ℕ) (w : Option Timeout) → IsCounting n w → LeadBelow n (timeout_fires b w)
lead_timeout n b None h = tt
lead_timeout n b (Some w) h = (h.1, tt)

pub own_lead : (n : ℕ) (ss : List State) (b : ℕ) → AreShapedStates n (states_of (map state_of ss)) → LeadBelow n (own_fires (states_of (map state_of ss)) b)
own_lead n [] b h = tt
own_lead n (s ∷ ss) b h =
    let r = (state_of s).rules in
    lead_append n (state_fire_bits b r.transitions r.timeout) _ (lead_append n (transition_fires (suc (suc b)) r.transitions) _ (lead_transitions n _ r.transitions h.0) (lead_timeout n _ r.timeout h.1)) (own_lead n ss (b + state_bits r.transitions r.timeout) h.3)

-- so do those of an automaton's states, and there are as many exits
pub shaped_states : (ss : List State) → AreShapedStates (length (rules_of (states_of (map state_of ss)))) (states_of (map state_of ss)) → AreShapedStates (length ss) (states_of (map state_of ss))
shaped_states ss h = subst (λ (n : ℕ). AreShapedStates n (states_of (map state_of ss))) (rules-length ss) h

pub automaton_lead : (ss : List State) (b : ℕ) (fires : List FireBit) → AreShapedStates (length (rules_of (states_of (map state_of ss)))) (states_of (map state_of ss)) → fires ≡ own_fires (states_of (map state_of ss)) b → LeadBelow (length ss) fires
automaton_lead ss b fires h e = subst (λ (fs : List FireBit). LeadBelow (length ss) fs) (sym e) (own_lead (length ss) ss b (shaped_states ss h))

length-own_exits : (ss : List State) (kill : Literal) (b : ℕ) → length (own_exits (states_of (map state_of ss)) kill b) ≡ length ss
length-own_exits [] kill b = refl
length-own_exits (s ∷ ss) kill b = ap suc (length-own_exits ss kill (b + state_bits (state_of s).rules.transitions (state_of s).rules.timeout))

pub length-exits : (ss : List State) (xs : List Exit) (kill : Literal) (b : ℕ) → map exit_bits_of xs ≡ own_exits (states_of (map state_of ss)) kill b → length xs ≡ length ss
length-exits ss xs kill b e = sym (length-map xs exit_bits_of) ∙ ap length e ∙ length-own_exits ss kill b

pub ruleset own_building = (common_steps, encoding, rules-length, own_bits-drop, own_lines-drop, own_fires-drop, own_ticks-drop, own_exits-drop)
