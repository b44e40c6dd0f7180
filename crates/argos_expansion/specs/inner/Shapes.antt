-- Components in which each name was looked up, as plain data: a signal stands as its place. Source: this project.
use Rattle.std.specs.Prelude.{ℕ, List, [], ◌∷◌, Option, Some, None, map, Vec}
use Rattle.std.specs.declared.alloc.Global.{Global}
use Rattle.argos_core.specs.Process.{Rules, Transition, Timeout}
use Rattle.argos_core.specs.Views.{numbers, guard_of}
use Rattle.argos_grammar.specs.Forms.{Mark}
use Rattle.argos_grammar.specs.Views.{marks_of}
use Rattle.argos_expansion.specs.declared.placed.PlacedProcess.{PlacedProcess, fold-PlacedProcess}
use Rattle.argos_expansion.specs.declared.placed.PlacedProcess.TheOpen.{PlacedProcess-F, PlacedState-F}
use Rattle.argos_expansion.specs.declared.placed.PlacedState.{PlacedState, fold-PlacedState}
use Rattle.argos_expansion.specs.declared.placed.PlacedTrans.{PlacedTrans}
use Rattle.argos_expansion.specs.declared.placed.PlacedTimed.{PlacedTimed}
use Rattle.argos_expansion.specs.declared.placed.PlacedComponent.{PlacedComponent}

-- an automaton with its initial state and its codes, a block with local signals, a frozen block, the use of a component before
mutual
  pub data ProcessShape : Type 0 where
    automaton : ℕ → ℕ → StateShapes → ProcessShape
    local : List Mark → BlockShape → ProcessShape
    freeze : ℕ → BlockShape → ProcessShape
    run : Option ℕ → List ℕ → ProcessShape

  pub data BlockShape : Type 0 where
    no_processes : BlockShape
    process : ProcessShape → BlockShape → BlockShape

  pub data StateShapes : Type 0 where
    no_states : StateShapes
    state : Rules → BodyShape → StateShapes → StateShapes

  pub data BodyShape : Type 0 where
    unrefined : BodyShape
    refined : BlockShape → BodyShape

-- one state, before it stands among the others
pub record StateShape : Type 0 where
  pub rules : Rules
  pub body : BodyShape

pub record ComponentShape : Type 0 where
  pub signals : ℕ
  pub block : BlockShape

abbrev pub block_from : List ProcessShape → BlockShape
block_from [] = no_processes
block_from (p ∷ ps) = process p (block_from ps)

abbrev pub states_from : List StateShape → StateShapes
states_from [] = no_states
states_from (s ∷ ss) = state s.rules s.body (states_from ss)

abbrev pub body_from : Option (Vec ProcessShape Global) → BodyShape
body_from None = unrefined
body_from (Some ps) = refined (block_from ps.items)

abbrev pub transition_shape : PlacedTrans → Transition
transition_shape t = record { guard = guard_of t.guard; outs = numbers t.outs.items; target = t.target }

abbrev pub timeout_shape : Option PlacedTimed → Option Timeout
timeout_shape None = None
timeout_shape (Some t) = Some (record { count = t.count; signal = t.signal.0; outs = numbers t.outs.items; target = t.target })

abbrev pub process_layer : PlacedProcess-F ProcessShape StateShape → ProcessShape
process_layer (PlacedProcess-F.Automaton i k ss) = automaton i k (states_from ss.items)
process_layer (PlacedProcess-F.Local ns ps) = local (marks_of ns.items) (block_from ps.items)
process_layer (PlacedProcess-F.Freeze s ps) = freeze s.0 (block_from ps.items)
process_layer (PlacedProcess-F.Run o ss) = run o (numbers ss.items)

abbrev pub state_layer : PlacedState-F ProcessShape StateShape → StateShape
state_layer s = record { rules = record { name = s.name; transitions = map transition_shape s.trans.items; timeout = timeout_shape s.timed }; body = body_from s.body }

abbrev pub process_shape : PlacedProcess → ProcessShape
process_shape = fold-PlacedProcess ProcessShape StateShape process_layer state_layer

abbrev pub state_shape : PlacedState → StateShape
state_shape = fold-PlacedState ProcessShape StateShape process_layer state_layer

abbrev pub block_shape : List PlacedProcess → BlockShape
block_shape ps = block_from (map process_shape ps)

abbrev pub states_shape : List PlacedState → StateShapes
states_shape ss = states_from (map state_shape ss)

abbrev pub component_shape : PlacedComponent → ComponentShape
component_shape c = record { signals = c.signals; block = block_shape c.block.items }
