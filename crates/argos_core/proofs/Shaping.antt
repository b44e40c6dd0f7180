-- Layouts of what stands in a list, one after the other.
use Rattle.std.proofs.Common.{◌≡◌, ℕ, zero, suc, ◌+◌, ◌-◌, ◌<◌, ◌≤◌, List, [], ◌∷◌, ◌++◌, Option, Some, None, false, Bool, ◌||◌, nat_eq, ap, refl, sym, subst, ◌∙◌, map, length, get_or, drop, add-one, arith}
use Rattle.std.proofs.lemmas.Grind.{common_steps}
use Rattle.std.proofs.lemmas.List.{at_drop_more}
use Rattle.argos_core.specs.Automata.{Automaton, Parent, counts_of, code_count, first_code, rules_of, register_count, registers_of, registers_in, registers_within, automata_from, automata_of_parts, automata_in, automata_within}
use Rattle.argos_core.specs.Layouts.{RegisterShape, shape_of, ranges_from, layout_of}
use Rattle.argos_core.specs.Modules.{IsCounting, AreShapedParts, AreShapedStates, IsShaped, IsShapedBody}
use Rattle.argos_core.specs.Process.{Timeout, Process, automaton, parallel, local, freeze, Processes, no_processes, process, States, no_states, state, Body, no_body, body}
use Rattle.argos_core.specs.inner.Shapes.{shape_with, shapes_from, shapes_of_parts, shapes_in, shapes_within}
use Rattle.argos_core.specs.Views.{process_of, state_of, processes_of, states_of}
use Rattle.argos_core.specs.declared.prog.Prog.{Prog}
use Rattle.argos_core.specs.declared.prog.State.{State}
use Rattle.argos_core.proofs.Encoding.{encoding}

map-append : (xs ys : List Automaton) → map shape_of (xs ++ ys) ≡ map shape_of xs ++ map shape_of ys
map-append [] ys = refl
map-append (x ∷ xs) ys = ap (λ (l : List RegisterShape). shape_of x ∷ l) (map-append xs ys)

-- they are those of the automata, whatever stops these
mutual
  shapes_from-automata : (p : Process) (r : ℕ) (up : Option Parent) (by : ℕ → Bool) → shapes_from r up p ≡ map shape_of (automata_from r up by p)
  shapes_from-automata (automaton ss q) r up by = ap (λ (l : List RegisterShape). shape_with up ss q ∷ l) (ap (λ (k : ℕ). shapes_in k r 1 ss) (add-one r) ∙ shapes_in-automata ss (suc r) r 1 by)
  shapes_from-automata (parallel ps) r up by = shapes_of_parts-automata ps r up by
  shapes_from-automata (local list p) r up by = shapes_from-automata p r up by
  shapes_from-automata (freeze s p) r up by = shapes_from-automata p r up (λ k. nat_eq s k || by k)

  shapes_of_parts-automata : (ps : Processes) (r : ℕ) (up : Option Parent) (by : ℕ → Bool) → shapes_of_parts r up ps ≡ map shape_of (automata_of_parts r up by ps)
  shapes_of_parts-automata no_processes r up by = refl
  shapes_of_parts-automata (process p ps) r up by =
      let next = r + register_count p in
      ap (λ (l : List RegisterShape). l ++ shapes_of_parts next up ps) (shapes_from-automata p r up by)
      ∙ ap (λ (l : List RegisterShape). map shape_of (automata_from r up by p) ++ l) (shapes_of_parts-automata ps next up by)
      ∙ sym (map-append (automata_from r up by p) (automata_of_parts next up by ps))

  shapes_in-automata : (ss : States) (r own code : ℕ) (by : ℕ → Bool) → shapes_in r own code ss ≡ map shape_of (automata_in r own code by ss)
  shapes_in-automata no_states r own code by = refl
  shapes_in-automata (state x p ss) r own code by =
      let up : Parent = record { register = own; first = code; last = code + counts_of x.timeout - 1 } in
      let next = r + registers_within p in
      let more = code + counts_of x.timeout in
      ap (λ (l : List RegisterShape). l ++ shapes_in next own more ss) (shapes_within-automata p r up by)
      ∙ ap (λ (l : List RegisterShape). map shape_of (automata_within r up by p) ++ l) (shapes_in-automata ss next own more by)
      ∙ sym (map-append (automata_within r up by p) (automata_in next own more by ss))

  shapes_within-automata : (b : Body) (r : ℕ) (up : Parent) (by : ℕ → Bool) → shapes_within r up b ≡ map shape_of (automata_within r up by b)
  shapes_within-automata no_body r up by = refl
  shapes_within-automata (body p) r up by = shapes_from-automata p r (Some up) by

-- so the whole process adds its layout
pub shapes_from-layout : (p : Process) → shapes_from 0 None p ≡ layout_of p
shapes_from-layout p = shapes_from-automata p 0 None (λ k. false)

-- parts one by one
pub shapes_of_parts-drop : (ps : List Prog) (i r : ℕ) (up : Option Parent) (d : Prog) → i < length ps
    → shapes_of_parts r up (processes_of (map process_of (drop i ps))) ≡ shapes_from r up (process_of (get_or ps i d)) ++ shapes_of_parts (r + register_count (process_of (get_or ps i d))) up (processes_of (map process_of (drop (i + 1) ps)))
shapes_of_parts-drop ps i r up = at_drop_more (λ xs. shapes_of_parts r up (processes_of (map process_of xs))) ps i

pub registers_of-drop : (ps : List Prog) (i : ℕ) (d : Prog) → i < length ps → registers_of (processes_of (map process_of (drop i ps))) ≡ register_count (process_of (get_or ps i d)) + registers_of (processes_of (map process_of (drop (i + 1) ps)))
registers_of-drop = at_drop_more (λ ps. registers_of (processes_of (map process_of ps)))

-- states one by one, where so many codes are used by those before
pub shapes_in-drop : (ss : List State) (i r own used : ℕ) (d : State) → i < length ss
    → shapes_in r own (used + 1) (states_of (map state_of (drop i ss)))
    ≡ shapes_within r (record { register = own; first = used + 1; last = used + counts_of (state_of (get_or ss i d)).rules.timeout }) (state_of (get_or ss i d)).body
    ++ shapes_in (r + registers_within (state_of (get_or ss i d)).body) own (used + counts_of (state_of (get_or ss i d)).rules.timeout + 1) (states_of (map state_of (drop (i + 1) ss)))
shapes_in-drop ss i r own used d below =
    let s = state_of (get_or ss i d) in
    let n = counts_of s.rules.timeout in
    let rest = states_of (map state_of (drop (i + 1) ss)) in
    let last : used + 1 + n - 1 ≡ used + n = omega arith in
    let next : used + 1 + n ≡ used + n + 1 = omega arith in
    at_drop_more (λ xs. shapes_in r own (used + 1) (states_of (map state_of xs))) ss i d below
    ∙ ap (λ (k : ℕ). shapes_within r (record { register = own; first = used + 1; last = k }) s.body ++ shapes_in (r + registers_within s.body) own (used + 1 + n) rest) last
    ∙ ap (λ (k : ℕ). shapes_within r (record { register = own; first = used + 1; last = used + n }) s.body ++ shapes_in (r + registers_within s.body) own k rest) next

pub ranges_from-drop : (ss : List State) (i used : ℕ) (d : State) → i < length ss
    → ranges_from (used + 1) (rules_of (states_of (map state_of (drop i ss))))
    ≡ record { first = used + 1; last = used + counts_of (state_of (get_or ss i d)).rules.timeout } ∷ ranges_from (used + counts_of (state_of (get_or ss i d)).rules.timeout + 1) (rules_of (states_of (map state_of (drop (i + 1) ss))))
ranges_from-drop ss i used d below =
    let s = state_of (get_or ss i d) in
    let n = counts_of s.rules.timeout in
    let rest = rules_of (states_of (map state_of (drop (i + 1) ss))) in
    let last : used + 1 + n - 1 ≡ used + n = omega arith in
    let next : used + 1 + n ≡ used + n + 1 = omega arith in
    at_drop_more (λ xs. ranges_from (used + 1) (rules_of (states_of (map state_of xs)))) ss i d below
    ∙ ap (λ (k : ℕ). record { first = used + 1; last = k } ∷ ranges_from (used + 1 + n) rest) last
    ∙ ap (λ (k : ℕ). record { first = used + 1; last = used + n } ∷ ranges_from k rest) next

pub registers_in-drop : (ss : List State) (i : ℕ) (d : State) → i < length ss → registers_in (states_of (map state_of (drop i ss))) ≡ registers_within (state_of (get_or ss i d)).body + registers_in (states_of (map state_of (drop (i + 1) ss)))
registers_in-drop = at_drop_more (λ ss. registers_in (states_of (map state_of ss)))

-- each state of a shaped automaton has a code
counts_positive : (n : ℕ) (w : Option Timeout) → IsCounting n w → 1 ≤ counts_of w
counts_positive n None h = omega arith
counts_positive n (Some w) h = h.0

pub rules-length : (ss : List State) → length (rules_of (states_of (map state_of ss))) ≡ length ss
rules-length [] = refl
rules-length (s ∷ ss) = ap suc (rules-length ss)

pub first_code_fits : (ss : List State) (n q : ℕ) → AreShapedStates n (states_of (map state_of ss)) → q < length ss → first_code (states_of (map state_of ss)) q ≤ code_count (states_of (map state_of ss))
first_code_fits [] n q h below = absurd (omega arith)
first_code_fits (s ∷ ss) n zero h below = omega (arith, counts_positive n (state_of s).rules.timeout h.1)
first_code_fits (s ∷ ss) n (suc q) h below = omega (arith, first_code_fits ss n q h.3 (omega arith))

-- what is known of the next of the states that are left
pub record NextState (n : ℕ) (s : State) (rest : List State) : Type 0 where
  pub counts : 1 ≤ counts_of (state_of s).rules.timeout
  pub shaped : IsShapedBody (state_of s).body
  pub more : AreShapedStates n (states_of (map state_of rest))

pub next_state : (ss : List State) (i n : ℕ) (d : State) → i < length ss → AreShapedStates n (states_of (map state_of (drop i ss))) → NextState n (get_or ss i d) (drop (i + 1) ss)
next_state ss i n d below h =
    let k : AreShapedStates n (states_of (map state_of (get_or ss i d ∷ drop (i + 1) ss))) = subst (λ (xs : List State). AreShapedStates n (states_of (map state_of xs))) (at_drop_more (λ xs. xs) ss i d below) h in
    record { counts = counts_positive n (state_of (get_or ss i d)).rules.timeout k.1; shaped = k.2; more = k.3 }

-- and of the next of the parts
pub next_part : (ps : List Prog) (i : ℕ) (d : Prog) → i < length ps → AreShapedParts (processes_of (map process_of (drop i ps))) → IsShaped (process_of (get_or ps i d)) × AreShapedParts (processes_of (map process_of (drop (i + 1) ps)))
next_part ps i d below h = subst (λ (xs : List Prog). AreShapedParts (processes_of (map process_of xs))) (at_drop_more (λ xs. xs) ps i d below) h

pub ruleset shaping = (common_steps, encoding, shapes_from-layout, shapes_of_parts-drop, registers_of-drop, shapes_in-drop, ranges_from-drop, registers_in-drop, rules-length)
