-- The looking up of names: each name that is in scope becomes its place. Source: this project.
use Rattle.std.specs.Prelude.{ℕ, ◌+◌, List, [], ◌∷◌, ◌++◌, length, map}
use Rattle.std.specs.List.{range_with_len}
use Rattle.argos_grammar.specs.Forms as form
use Rattle.argos_grammar.specs.Forms.{ComponentForm}
use Rattle.argos_grammar.specs.Views.{Whole}
use Rattle.argos_names.specs.Scope.{state_names}
use Rattle.argos_expansion.specs.Expansion.{Numbers, number_at, numbered, paired, state_number, codes_in, rules_of}
use Rattle.argos_expansion.specs.inner.FirstPlaces.{first_place}
use Rattle.argos_expansion.specs.inner.Shapes.{ProcessShape, automaton, local, freeze, run, BlockShape, no_processes, process, StateShapes, no_states, state, BodyShape, unrefined, refined, StateShape, ComponentShape}

-- where the components before have these names, the names in scope have these places, and the next place is this
abbrev mutual
  pub placed_process : List (List ℕ) → Numbers → ℕ → form.ProcessForm → ProcessShape
  placed_process known env n (form.automaton i ss) = automaton (state_number (state_names ss) i) (codes_in ss) (placed_states known env n (state_names ss) ss)
  placed_process known env n (form.local ns b) = local ns (placed_block known (numbered ns n env) (n + length ns) b)
  placed_process known env n (form.freeze m b) = freeze (number_at env m) (placed_block known env n b)
  placed_process known env n (form.run c xs ys) = run (first_place c.name known) (map (number_at env) (xs ++ ys))

  pub placed_block : List (List ℕ) → Numbers → ℕ → form.BlockForm → BlockShape
  placed_block known env n form.no_processes = no_processes
  placed_block known env n (form.process p b) = process (placed_process known env n p) (placed_block known env n b)

  pub placed_states : List (List ℕ) → Numbers → ℕ → List (List ℕ) → form.StateForms → StateShapes
  placed_states known env n names form.no_states = no_states
  placed_states known env n names (form.state h b ss) = state (rules_of env names h) (placed_body known env n b) (placed_states known env n names ss)

  pub placed_body : List (List ℕ) → Numbers → ℕ → form.BodyForm → BodyShape
  placed_body known env n form.plain = unrefined
  placed_body known env n (form.refined b) = refined (placed_block known env n b)

-- one state with its body
abbrev pub placed_state : List (List ℕ) → Numbers → ℕ → List (List ℕ) → Whole → StateShape
placed_state known env n names s = record { rules = rules_of env names s.head; body = placed_body known env n s.body }

-- a component that is run: of two signals with one name the first counts
abbrev pub signal_count : ComponentForm → ℕ
signal_count c = length c.inputs + length c.outputs

abbrev pub used_scope : ComponentForm → Numbers
used_scope c = paired (c.inputs ++ c.outputs) (range_with_len 1 (signal_count c))

abbrev pub placed_component : List (List ℕ) → ComponentForm → ComponentShape
placed_component known c = record { signals = signal_count c; block = placed_block known (used_scope c) (1 + signal_count c) c.block }

abbrev pub placed_components : List (List ℕ) → List ComponentForm → List ComponentShape
placed_components known [] = []
placed_components known (c ∷ cs) = placed_component known c ∷ placed_components (known ++ c.name.name ∷ []) cs

-- the main component: of two signals with one name the last counts
abbrev pub main_scope : ComponentForm → Numbers
main_scope c = numbered (c.inputs ++ c.outputs) 1 []

abbrev pub placed_main : List (List ℕ) → ComponentForm → BlockShape
placed_main known c = placed_block known (main_scope c) (1 + signal_count c) c.block
