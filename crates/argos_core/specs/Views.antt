-- What the types of the code stand for. Source: this project.
use Rattle.std.specs.Prelude.{ℕ, List, [], ◌∷◌, Option, Some, None, map, Box}
use Rattle.std.specs.declared.alloc.Global.{Global}
use Rattle.argos_base.specs.declared.signals.SigId.{SigId}
use Rattle.argos_base.specs.declared.signals.RegId.{RegId}
use Rattle.argos_core.specs.Automata.{Parent}
use Rattle.argos_core.specs.Layouts.{Range, RegisterShape}
use Rattle.argos_core.specs.Process.{always, never, present, negation, all, any, Guards, no_guards, guard, Transition, Timeout, Rules, Process, automaton, parallel, local, freeze, Processes, no_processes, process, States, no_states, state, Body, no_body, body, Configuration, at, beside, Inner, no_inner, inner, Configurations, no_configurations, configuration}
use Rattle.argos_core.specs.Process as plain
use Rattle.argos_core.specs.declared.prog.Guard.{Guard, fold-Guard}
use Rattle.argos_core.specs.declared.prog.Guard.TheOpen.{Guard-F}
use Rattle.argos_core.specs.declared.prog.Trans.{Trans}
use Rattle.argos_core.specs.declared.prog.Timed.{Timed}
use Rattle.argos_core.specs.declared.prog.Prog.{Prog, fold-Prog}
use Rattle.argos_core.specs.declared.prog.Auto.{Auto, fold-Auto}
use Rattle.argos_core.specs.declared.prog.State.{State, fold-State}
use Rattle.argos_core.specs.declared.prog.Prog.TheOpen.{Prog-F, Auto-F, State-F}
use Rattle.argos_core.specs.declared.prog.Config.{Config, fold-Config}
use Rattle.argos_core.specs.declared.prog.Config.TheOpen.{Config-F}
use Rattle.argos_core.specs.declared.layouts.Shape.{Shape}
use Rattle.argos_core.specs.declared.layouts.Layout.{Layout}

abbrev pub guards_of : List plain.Guard → Guards
guards_of [] = no_guards
guards_of (g ∷ gs) = guard g (guards_of gs)

abbrev pub guard_layer : Guard-F plain.Guard → plain.Guard
guard_layer Guard-F.True = always
guard_layer Guard-F.False = never
guard_layer (Guard-F.Sig s) = present s.0
guard_layer (Guard-F.Not g) = negation g.value
guard_layer (Guard-F.All gs) = all (guards_of gs.items)
guard_layer (Guard-F.Any gs) = any (guards_of gs.items)

-- a guard
abbrev pub guard_of : Guard → plain.Guard
guard_of = fold-Guard plain.Guard guard_layer

abbrev pub numbers : List SigId → List ℕ
numbers = map (λ s. s.0)

abbrev pub transition_of : Trans → Transition
transition_of t = record { guard = guard_of t.guard; outs = numbers t.outs.items; target = t.target }

abbrev pub timeout_of : Timed → Timeout
timeout_of t = record { count = t.count; signal = t.signal.0; outs = numbers t.outs.items; target = t.target }

abbrev pub timeout_in : Option Timed → Option Timeout
timeout_in None = None
timeout_in (Some t) = Some (timeout_of t)

abbrev pub body_in : Option (Box Process Global) → Body
body_in None = no_body
body_in (Some p) = body p.value

-- one state, before it stands among the others
pub record OneState : Type 0 where
  pub rules : Rules
  pub body : Body

abbrev pub processes_of : List Process → Processes
processes_of [] = no_processes
processes_of (p ∷ ps) = process p (processes_of ps)

abbrev pub states_of : List OneState → States
states_of [] = no_states
states_of (s ∷ ss) = state s.rules s.body (states_of ss)

abbrev pub process_layer : Prog-F Process Process OneState → Process
process_layer (Prog-F.Auto p) = p
process_layer (Prog-F.Par ps) = parallel (processes_of ps.items)
process_layer (Prog-F.Local list p) = local (numbers list.items) p.value
process_layer (Prog-F.Freeze s p) = freeze s.0 p.value

abbrev pub automaton_layer : Auto-F Process Process OneState → Process
automaton_layer a = automaton (states_of a.states.items) a.init

abbrev pub state_layer : State-F Process Process OneState → OneState
state_layer s = record { rules = record { name = s.name; transitions = map transition_of s.trans.items; timeout = timeout_in s.timed }; body = body_in s.body }

-- a program, an automaton and a state
abbrev pub process_of : Prog → Process
process_of = fold-Prog Process Process OneState process_layer automaton_layer state_layer

abbrev pub automaton_of : Auto → Process
automaton_of = fold-Auto Process Process OneState process_layer automaton_layer state_layer

abbrev pub state_of : State → OneState
state_of = fold-State Process Process OneState process_layer automaton_layer state_layer

abbrev pub inner_in : Option (Box Configuration Global) → Inner
inner_in None = no_inner
inner_in (Some c) = inner c.value

abbrev pub configurations_of : List Configuration → Configurations
configurations_of [] = no_configurations
configurations_of (c ∷ cs) = configuration c (configurations_of cs)

abbrev pub configuration_layer : Config-F Configuration → Configuration
configuration_layer (Config-F.At q e b) = at q e (inner_in b)
configuration_layer (Config-F.Beside cs) = beside (configurations_of cs.items)

-- a configuration
abbrev pub configuration_of : Config → Configuration
configuration_of = fold-Config Configuration configuration_layer

-- what stands inside a state
abbrev pub inner_of : Option (Box Config Global) → Inner
inner_of None = no_inner
inner_of (Some c) = inner (configuration_of c.value)

abbrev pub parent_at : RegId × ℕ × ℕ → Parent
parent_at p = record { register = p.0.0; first = p.1; last = p.2 }

abbrev pub parent_of : Option (RegId × ℕ × ℕ) → Option Parent
parent_of None = None
parent_of (Some p) = Some (parent_at p)

abbrev pub range_of : ℕ × ℕ → Range
range_of r = record { first = r.0; last = r.1 }

-- a layout
abbrev pub register_shape_of : Shape → RegisterShape
register_shape_of s = record { top = s.top; initial = s.init; ranges = map range_of s.ranges.items; parent = parent_of s.parent }

abbrev pub shapes_of : Layout → List RegisterShape
shapes_of l = map register_shape_of l.regs.items
