-- What is gathered are the states of the automata of a process, in their order.
use Rattle.std.proofs.Common.{◌≡◌, ℕ, suc, ◌+◌, ◌-◌, List, [], ◌∷◌, ◌++◌, Option, Some, None, false, Bool, ◌||◌, nat_eq, map, refl, sym, ap, ◌∙◌}
use Rattle.std.proofs.lemmas.Grind.{common_steps}
use Rattle.argos_core.specs.Automata.{Automaton, Parent, counts_of, register_count, registers_within, automata_of, automata_from, automata_of_parts, automata_in, automata_within}
use Rattle.argos_core.specs.Process.{Process, automaton, parallel, local, freeze, Processes, no_processes, process, States, no_states, state, Body, no_body, body}
use Rattle.argos_states.specs.inner.Gathered.{gathered, gathered_of_parts, gathered_in, gathered_within}

abbrev states : Automaton → States
states a = a.states

map-append : (xs ys : List Automaton) → map states (xs ++ ys) ≡ map states xs ++ map states ys
map-append [] ys = refl
map-append (x ∷ xs) ys = ap (λ (l : List States). x.states ∷ l) (map-append xs ys)

mutual
  gathered-automata : (p : Process) (r : ℕ) (up : Option Parent) (by : ℕ → Bool) → gathered p ≡ map states (automata_from r up by p)
  gathered-automata (automaton ss q) r up by = ap (λ (l : List States). ss ∷ l) (bodies-automata ss (suc r) r 1 by)
  gathered-automata (parallel ps) r up by = parts-automata ps r up by
  gathered-automata (local list p) r up by = gathered-automata p r up by
  gathered-automata (freeze s p) r up by = gathered-automata p r up (λ k. nat_eq s k || by k)

  parts-automata : (ps : Processes) (r : ℕ) (up : Option Parent) (by : ℕ → Bool) → gathered_of_parts ps ≡ map states (automata_of_parts r up by ps)
  parts-automata no_processes r up by = refl
  parts-automata (process p ps) r up by =
      let next = r + register_count p in
      ap (λ (l : List States). l ++ gathered_of_parts ps) (gathered-automata p r up by)
      ∙ ap (λ (l : List States). map states (automata_from r up by p) ++ l) (parts-automata ps next up by)
      ∙ sym (map-append (automata_from r up by p) (automata_of_parts next up by ps))

  bodies-automata : (ss : States) (r own code : ℕ) (by : ℕ → Bool) → gathered_in ss ≡ map states (automata_in r own code by ss)
  bodies-automata no_states r own code by = refl
  bodies-automata (state x p ss) r own code by =
      let up : Parent = record { register = own; first = code; last = code + counts_of x.timeout - 1 } in
      let next = r + registers_within p in
      let more = code + counts_of x.timeout in
      ap (λ (l : List States). l ++ gathered_in ss) (body-automata p r up by)
      ∙ ap (λ (l : List States). map states (automata_within r up by p) ++ l) (bodies-automata ss next own more by)
      ∙ sym (map-append (automata_within r up by p) (automata_in next own more by ss))

  body-automata : (b : Body) (r : ℕ) (up : Parent) (by : ℕ → Bool) → gathered_within b ≡ map states (automata_within r up by b)
  body-automata no_body r up by = refl
  body-automata (body p) r up by = gathered-automata p r (Some up) by

pub gathered-whole : (p : Process) → gathered p ≡ map (λ a. a.states) (automata_of p)
gathered-whole p = gathered-automata p 0 None (λ k. false)

pub ruleset gathering = (common_steps, gathered-whole)
