-- What components grow to of which each name was looked up. Source: this project.
use Rattle.std.specs.Prelude.{ℕ, zero, suc, ◌+◌, List, [], ◌∷◌, ◌++◌, length, map, Option, Some, None, slice_get, nat_lt, if◌then◌else◌}
use Rattle.std.specs.List.{range_with_len}
use Rattle.argos_core.specs.Process as plain
use Rattle.argos_core.specs.Views.{OneState}
use Rattle.argos_expansion.specs.Expansion.{Visit, Grown, over, beside, alone, grown_as, with_locals, visit, local_visit}
use Rattle.argos_expansion.specs.inner.Renaming.{signal_at, renamed_rules, states_size}
use Rattle.argos_expansion.specs.inner.Shapes.{ProcessShape, automaton, local, freeze, run, BlockShape, no_processes, process, StateShapes, no_states, state, BodyShape, unrefined, refined, StateShape, ComponentShape, component_shape}
use Rattle.argos_expansion.specs.declared.placed.PlacedComponent.{PlacedComponent}

-- what a component grows to, by the signals that it is used with: at a depth, and where the next free number is this
abbrev pub Growth : Type 0
Growth = List ℕ → ℕ → ℕ → Grown plain.Process

abbrev pub growth_at : List Growth → Option ℕ → Option Growth
growth_at gs None = None
growth_at gs (Some k) = slice_get gs k

abbrev pub use_growth : Option Growth → List ℕ → ℕ → ℕ → Grown plain.Process
use_growth None ns depth next = alone (plain.parallel plain.no_processes)
use_growth (Some g) ns depth next = g ns (depth + 1) next

abbrev pub automaton_shape_visit : List ℕ → ℕ → ℕ → StateShapes → Visit
automaton_shape_visit ss depth codes xs = record { depth = depth; signals = 0; automata = 1; codes = codes; size = 1 + states_size ss xs }

-- a process where these signals stand at the places
abbrev mutual
  pub process_growth : List Growth → List ℕ → ℕ → ℕ → ProcessShape → Grown plain.Process
  process_growth gs ss depth next (automaton i codes xs) = over (automaton_shape_visit ss depth codes xs) (λ states. plain.automaton states i) (states_growth gs ss (depth + 1) next xs)
  process_growth gs ss depth next (local ns b) = over (local_visit depth ns) (plain.local (range_with_len next (length ns)))
      (with_locals ns (block_growth gs (ss ++ range_with_len next (length ns)) (depth + 1) (next + length ns) b))
  process_growth gs ss depth next (freeze k b) = over (visit depth 1) (plain.freeze (signal_at ss k)) (block_growth gs ss (depth + 1) next b)
  process_growth gs ss depth next (run o ks) = over (visit depth 0) (λ t. t) (use_growth (growth_at gs o) (map (signal_at ss) ks) depth next)

  pub block_growth : List Growth → List ℕ → ℕ → ℕ → BlockShape → Grown plain.Process
  block_growth gs ss depth next no_processes = alone (plain.parallel plain.no_processes)
  block_growth gs ss depth next (process p no_processes) = process_growth gs ss depth next p
  block_growth gs ss depth next (process p (process q b)) = over (visit depth 1) plain.parallel
      (let g = process_growth gs ss (depth + 1) next p in beside plain.process g (rest_growth gs ss (depth + 1) (next + length g.locals) (process q b)))

  pub rest_growth : List Growth → List ℕ → ℕ → ℕ → BlockShape → Grown plain.Processes
  rest_growth gs ss depth next no_processes = alone plain.no_processes
  rest_growth gs ss depth next (process p b) = let g = process_growth gs ss depth next p in beside plain.process g (rest_growth gs ss depth (next + length g.locals) b)

  pub states_growth : List Growth → List ℕ → ℕ → ℕ → StateShapes → Grown plain.States
  states_growth gs ss depth next no_states = alone plain.no_states
  states_growth gs ss depth next (state r b xs) =
      let g = body_growth gs ss depth next b in
      beside (plain.state (renamed_rules ss r)) g
      (states_growth gs ss depth (next + length g.locals) xs)

  pub body_growth : List Growth → List ℕ → ℕ → ℕ → BodyShape → Grown plain.Body
  body_growth gs ss depth next unrefined = alone plain.no_body
  body_growth gs ss depth next (refined b) = grown_as plain.body (block_growth gs ss depth next b)

-- one state with its body
abbrev pub state_growth : List Growth → List ℕ → ℕ → ℕ → StateShape → Grown OneState
state_growth gs ss depth next s = grown_as (λ b. record { rules = renamed_rules ss s.rules; body = b }) (body_growth gs ss depth next s.body)

-- a place, if it is among so many
abbrev pub place_within : ℕ → Option ℕ → Option ℕ
place_within n None = None
place_within n (Some k) = if nat_lt k n then Some k else None

-- so many signals, the missing ones as 0
abbrev pub fitted : ℕ → List ℕ → List ℕ
fitted zero ns = []
fitted (suc k) [] = 0 ∷ fitted k []
fitted (suc k) (n ∷ ns) = n ∷ fitted k ns

-- the signals at the places of a component that is used with these signals
abbrev pub placed_signals : ℕ → List ℕ → List ℕ
placed_signals k ns = 0 ∷ fitted k ns

abbrev pub growth_of : List Growth → ComponentShape → Growth
growth_of gs c = λ ns depth next. block_growth gs (placed_signals c.signals ns) depth next c.block

abbrev pub growths_after : List Growth → List ComponentShape → List Growth
growths_after gs [] = gs
growths_after gs (c ∷ cs) = growths_after (gs ++ growth_of gs c ∷ []) cs

-- of components, each of which is used by those behind it
abbrev pub growths_of : List PlacedComponent → List Growth
growths_of cs = growths_after [] (map component_shape cs)
