-- What stands for a process and an automaton that the code makes.
use Rattle.argos_expansion.specs.inner.Shapes as shape
use Rattle.argos_expansion.specs.inner.Shapes.{ProcessShape, StateShape, unrefined, state_shape}
use Rattle.argos_expansion.specs.declared.placed.PlacedState.{PlacedState, fold_out-PlacedState}
use Rattle.std.proofs.Common.{None, ◌≡◌, map, refl, ap, sym, ◌∙◌, Box, Vec}
use Rattle.std.specs.declared.alloc.Global.{Global}
use Rattle.argos_base.specs.declared.signals.SigId.{SigId}
use Rattle.argos_core.specs.Process as plain
use Rattle.argos_core.specs.Views.{OneState, process_of, automaton_of, state_of, process_layer, automaton_layer, state_layer, processes_of, states_of, numbers}
use Rattle.argos_core.specs.declared.prog.Prog.{Prog}
use Rattle.argos_core.specs.declared.prog.Auto.{Auto, roll-Auto}
use Rattle.argos_core.specs.declared.prog.State.{State}
use Rattle.argos_core.specs.declared.prog.Prog.TheVariants as variant
use Rattle.argos_core.specs.declared.prog.Prog.TheOpen.{Prog-F, Auto-F}
use Rattle.argos_core.specs.declared.prog.Prog.TheFolds.{fold-roll-Prog, fold-roll-Auto}

pub process_of-Auto : (a : Auto) → process_of (variant.Auto a) ≡ automaton_of a
process_of-Auto a = ap process_of (sym (variant.rolls-Auto a)) ∙ fold-roll-Prog plain.Process plain.Process OneState process_layer automaton_layer state_layer (Prog-F.Auto a)

pub process_of-Par : (ps : Vec Prog Global) → process_of (variant.Par ps) ≡ plain.parallel (processes_of (map process_of ps.items))
process_of-Par ps = ap process_of (sym (variant.rolls-Par ps)) ∙ fold-roll-Prog plain.Process plain.Process OneState process_layer automaton_layer state_layer (Prog-F.Par ps)

pub process_of-Local : (ss : Vec SigId Global) (p : Box Prog Global) → process_of (variant.Local ss p) ≡ plain.local (numbers ss.items) (process_of p.value)
process_of-Local ss p = ap process_of (sym (variant.rolls-Local ss p)) ∙ fold-roll-Prog plain.Process plain.Process OneState process_layer automaton_layer state_layer (Prog-F.Local ss p)

pub process_of-Freeze : (s : SigId) (p : Box Prog Global) → process_of (variant.Freeze s p) ≡ plain.freeze s.0 (process_of p.value)
process_of-Freeze s p = ap process_of (sym (variant.rolls-Freeze s p)) ∙ fold-roll-Prog plain.Process plain.Process OneState process_layer automaton_layer state_layer (Prog-F.Freeze s p)

pub automaton_of-roll : (x : Auto-F Prog Auto State) → automaton_of (roll-Auto x) ≡ plain.automaton (states_of (map state_of x.states.items)) x.init
automaton_of-roll = fold-roll-Auto plain.Process plain.Process OneState process_layer automaton_layer state_layer

-- a state without a body
pub without_body : (s : PlacedState) → s.body ≡ None → (state_shape s).body ≡ unrefined
without_body s h =
    let e = fold_out-PlacedState ProcessShape StateShape shape.process_layer shape.state_layer s in
    ap (λ (w : StateShape). w.body) e ∙ rw h refl
