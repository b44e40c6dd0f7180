-- Processes and states that grow one after another in a list.
use Rattle.std.proofs.Common.{◌≡◌, ℕ, ◌+◌, ◌<◌, ◌≤◌, List, [], ◌∷◌, ◌++◌, map, length, get_or, drop, refl, ap, subst, ◌∙◌}
use Rattle.std.proofs.lemmas.List.{at_drop_more, at_drop_all, map_push}
use Rattle.argos_core.specs.Process as plain
use Rattle.argos_core.specs.Views as core
use Rattle.argos_core.specs.Views.{OneState}
use Rattle.argos_core.specs.declared.prog.Prog.{Prog}
use Rattle.argos_core.specs.declared.prog.State.{State}
use Rattle.argos_expansion.specs.Expansion.{Grown, beside}
use Rattle.argos_expansion.specs.inner.Growth.{IsStop, first_passed, Moment, HasGrown}
use Rattle.argos_expansion.specs.inner.Renaming.{renamed_rules}
use Rattle.argos_expansion.specs.inner.ShapeGrowth.{Growth, process_growth, rest_growth, states_growth, body_growth, state_growth}
use Rattle.argos_expansion.specs.inner.Shapes.{process_shape, block_shape, state_shape, states_shape}
use Rattle.argos_expansion.specs.declared.placed.PlacedProcess.{PlacedProcess}
use Rattle.argos_expansion.specs.declared.placed.PlacedState.{PlacedState}
use Rattle.argos_expansion.specs.declared.errors.ExpansionError.{ExpansionError}
use Rattle.argos_expansion.proofs.Growing.{Leads, leads_end, leads_on, leads_stop}

-- the list in front of others
abbrev pub processes_before : List plain.Process → plain.Processes → plain.Processes
processes_before [] x = x
processes_before (p ∷ ps) x = plain.process p (processes_before ps x)

abbrev pub states_before : List OneState → plain.States → plain.States
states_before [] x = x
states_before (s ∷ ss) x = plain.state s.rules s.body (states_before ss x)

processes_push : (ps : List plain.Process) (p : plain.Process) (x : plain.Processes) → processes_before (ps ++ p ∷ []) x ≡ processes_before ps (plain.process p x)
processes_push [] p x = refl
processes_push (q ∷ ps) p x = ap (plain.process q) (processes_push ps p x)

states_push : (ss : List OneState) (s : OneState) (x : plain.States) → states_before (ss ++ s ∷ []) x ≡ states_before ss (plain.state s.rules s.body x)
states_push [] s x = refl
states_push (r ∷ ss) s x = ap (plain.state r.rules r.body) (states_push ss s x)

all_processes : (ps : List plain.Process) → core.processes_of ps ≡ processes_before ps plain.no_processes
all_processes [] = refl
all_processes (p ∷ ps) = ap (plain.process p) (all_processes ps)

all_states : (ss : List OneState) → core.states_of ss ≡ states_before ss plain.no_states
all_states [] = refl
all_states (s ∷ ss) = ap (plain.state s.rules s.body) (all_states ss)

joined_same : {A B : Type 0} (join other : B → A) (start : Moment) (g : Grown A) (now : Moment) (rest : Grown B) → other rest.whole ≡ join rest.whole → Leads join start g now rest → Leads other start g now rest
joined_same join other start g now rest e h = record { whole = e ∙ h.whole; locals = h.locals; first = h.first; after = h.after; next = h.next }

module _ (gs : List Growth) (sigs : List ℕ) (depth : ℕ) (forms : List PlacedProcess) (start : Moment) (g : Grown plain.Processes) where
  -- the processes that are left lead on from these parts
  abbrev pub ProcessesLead : List Prog → ℕ → Moment → Type 0
  ProcessesLead parts i now = Leads (processes_before (map core.process_of parts)) start g now (rest_growth gs sigs depth now.tally.signals (block_shape (drop i forms)))

  module _ (parts : List Prog) (i : ℕ) (x : PlacedProcess) (now : Moment) (at : x ≡ get_or forms i x) (below : i < length forms) (h : ProcessesLead parts i now) where
    abbrev one : Grown plain.Process
    one = process_growth gs sigs depth now.tally.signals (process_shape (get_or forms i x))

    abbrev others : ℕ → Grown plain.Processes
    others n = rest_growth gs sigs depth n (block_shape (drop (i + 1) forms))

    split : Leads (processes_before (map core.process_of parts)) start g now (beside plain.process one (others (now.tally.signals + length one.locals)))
    split = subst (λ (r : Grown plain.Processes). Leads (processes_before (map core.process_of parts)) start g now r) (at_drop_more (λ fs. rest_growth gs sigs depth now.tally.signals (block_shape fs)) forms i x below) h

    pub processes_on : (new : Moment) (p : Prog) (more : List Prog) → more ≡ parts ++ p ∷ [] → HasGrown (process_growth gs sigs depth now.tally.signals (process_shape x)) (core.process_of p) now new → ProcessesLead more (i + 1) new
    processes_on new p more e r =
        let grown : HasGrown one (core.process_of p) now new = subst (λ (y : PlacedProcess). HasGrown (process_growth gs sigs depth now.tally.signals (process_shape y)) (core.process_of p) now new) at r in
        let next = leads_on (processes_before (map core.process_of parts)) start g now plain.process one others now.tally.signals new (core.process_of p) refl split grown in
        let whole = (others new.tally.signals).whole in
        joined_same (λ y. processes_before (map core.process_of parts) (plain.process (core.process_of p) y)) (processes_before (map core.process_of more)) start g new (others new.tally.signals)
        (ap (λ ps. processes_before (map core.process_of ps) whole) e ∙ ap (λ ps. processes_before ps whole) (map_push core.process_of parts p) ∙ processes_push (map core.process_of parts) (core.process_of p) whole) next

    pub processes_stop : (e : ExpansionError) → IsStop (first_passed now.tally (process_growth gs sigs depth now.tally.signals (process_shape x)).visits) e → IsStop (first_passed start.tally g.visits) e
    processes_stop e r =
        leads_stop (processes_before (map core.process_of parts)) start g now plain.process one others (others (now.tally.signals + length one.locals)) e split
        (subst (λ (y : PlacedProcess). IsStop (first_passed now.tally (process_growth gs sigs depth now.tally.signals (process_shape y)).visits) e) at r)

  pub processes_end : (parts : List Prog) (i : ℕ) (now : Moment) → length forms ≤ i → ProcessesLead parts i now → HasGrown g (core.processes_of (map core.process_of parts)) start now
  processes_end parts i now h r =
      leads_end (processes_before (map core.process_of parts)) start g now plain.no_processes (core.processes_of (map core.process_of parts))
      (subst (λ (x : Grown plain.Processes). Leads (processes_before (map core.process_of parts)) start g now x) (at_drop_all (λ fs. rest_growth gs sigs depth now.tally.signals (block_shape fs)) forms i h) r)
      (all_processes (map core.process_of parts))

module _ (gs : List Growth) (sigs : List ℕ) (depth : ℕ) (forms : List PlacedState) (start : Moment) (g : Grown plain.States) where
  -- the states that are left lead on from these
  abbrev pub StatesLead : List State → ℕ → Moment → Type 0
  StatesLead made i now = Leads (states_before (map core.state_of made)) start g now (states_growth gs sigs depth now.tally.signals (states_shape (drop i forms)))

  module _ (made : List State) (i : ℕ) (x : PlacedState) (now : Moment) (at : x ≡ get_or forms i x) (below : i < length forms) (h : StatesLead made i now) where
    abbrev one_body : Grown plain.Body
    one_body = body_growth gs sigs depth now.tally.signals (state_shape (get_or forms i x)).body

    abbrev rules : plain.Rules
    rules = renamed_rules sigs (state_shape (get_or forms i x)).rules

    abbrev other_states : ℕ → Grown plain.States
    other_states n = states_growth gs sigs depth n (states_shape (drop (i + 1) forms))

    split_states : Leads (states_before (map core.state_of made)) start g now (beside (plain.state rules) one_body (other_states (now.tally.signals + length one_body.locals)))
    split_states = subst (λ (r : Grown plain.States). Leads (states_before (map core.state_of made)) start g now r) (at_drop_more (λ fs. states_growth gs sigs depth now.tally.signals (states_shape fs)) forms i x below) h

    pub states_on : (new : Moment) (s : State) (more : List State) → more ≡ made ++ s ∷ [] → HasGrown (state_growth gs sigs depth now.tally.signals (state_shape x)) (core.state_of s) now new → StatesLead more (i + 1) new
    states_on new s more e r =
        let here : HasGrown (state_growth gs sigs depth now.tally.signals (state_shape (get_or forms i x))) (core.state_of s) now new = subst (λ (y : PlacedState). HasGrown (state_growth gs sigs depth now.tally.signals (state_shape y)) (core.state_of s) now new) at r in
        let body : HasGrown one_body (core.state_of s).body now new = record { whole = ap (λ o. o.body) here.whole; locals = here.locals; within = here.within; tally = here.tally; next = here.next } in
        let next = leads_on (states_before (map core.state_of made)) start g now (plain.state rules) one_body other_states now.tally.signals new (core.state_of s).body refl split_states body in
        let whole = (other_states new.tally.signals).whole in
        joined_same (λ y. states_before (map core.state_of made) (plain.state rules (core.state_of s).body y)) (states_before (map core.state_of more)) start g new (other_states new.tally.signals)
        (ap (λ ss. states_before (map core.state_of ss) whole) e ∙ ap (λ ss. states_before ss whole) (map_push core.state_of made s) ∙ states_push (map core.state_of made) (core.state_of s) whole
        ∙ ap (λ o. states_before (map core.state_of made) (plain.state o.rules (core.state_of s).body whole)) here.whole) next

    pub states_stop : (e : ExpansionError) → IsStop (first_passed now.tally (state_growth gs sigs depth now.tally.signals (state_shape x)).visits) e → IsStop (first_passed start.tally g.visits) e
    states_stop e r =
        leads_stop (states_before (map core.state_of made)) start g now (plain.state rules) one_body other_states (other_states (now.tally.signals + length one_body.locals)) e split_states
        (subst (λ (y : PlacedState). IsStop (first_passed now.tally (state_growth gs sigs depth now.tally.signals (state_shape y)).visits) e) at r)

  pub states_end : (made : List State) (i : ℕ) (now : Moment) → length forms ≤ i → StatesLead made i now → HasGrown g (core.states_of (map core.state_of made)) start now
  states_end made i now h r =
      leads_end (states_before (map core.state_of made)) start g now plain.no_states (core.states_of (map core.state_of made))
      (subst (λ (x : Grown plain.States). Leads (states_before (map core.state_of made)) start g now x) (at_drop_all (λ fs. states_growth gs sigs depth now.tally.signals (states_shape fs)) forms i h) r)
      (all_states (map core.state_of made))
