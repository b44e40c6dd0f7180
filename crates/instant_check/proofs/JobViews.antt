-- The states that stand for a process that the code takes apart.
use Rattle.std.proofs.Common.{◌≡◌, Some, ◌∷◌, map, refl, ap, sym, ◌∙◌, Box, Vec}
use Rattle.std.specs.declared.alloc.Global.{Global}
use Rattle.argos_base.specs.declared.signals.SigId.{SigId}
use Rattle.argos_core.specs.Process as plain
use Rattle.argos_core.specs.Views.{OneState, process_of, automaton_of, state_of, process_layer, automaton_layer, state_layer, processes_of, states_of, transition_of}
use Rattle.argos_core.specs.declared.prog.Prog.{Prog}
use Rattle.argos_core.specs.declared.prog.Auto.{Auto, out-Auto, fold_out-Auto}
use Rattle.argos_core.specs.declared.prog.State.{State, fold_out-State}
use Rattle.argos_core.specs.declared.prog.Prog.TheVariants as variant
use Rattle.argos_core.specs.declared.prog.Prog.TheOpen.{Prog-F}
use Rattle.argos_core.specs.declared.prog.Prog.TheFolds.{fold-roll-Prog}
use Rattle.instant_check.specs.inner.Jobs.{transitions_in, jobs_of, jobs_of_parts, jobs_in, jobs_within}

process_of-Auto : (a : Auto) → process_of (variant.Auto a) ≡ automaton_of a
process_of-Auto a = ap process_of (sym (variant.rolls-Auto a)) ∙ fold-roll-Prog plain.Process plain.Process OneState process_layer automaton_layer state_layer (Prog-F.Auto a)

pub jobs_of-Auto : (p : Prog) (a : Auto) → p ≡ variant.Auto a → jobs_of (process_of p) ≡ transitions_in (states_of (map state_of (out-Auto a).states.items)) ∷ jobs_in (states_of (map state_of (out-Auto a).states.items))
jobs_of-Auto p a is = ap (λ (q : Prog). jobs_of (process_of q)) is ∙ ap jobs_of (process_of-Auto a ∙ fold_out-Auto plain.Process plain.Process OneState process_layer automaton_layer state_layer a)

pub jobs_of-Par : (p : Prog) (ps : Vec Prog Global) → p ≡ variant.Par ps → jobs_of (process_of p) ≡ jobs_of_parts (processes_of (map process_of ps.items))
jobs_of-Par p ps is = ap (λ (q : Prog). jobs_of (process_of q)) is ∙ ap jobs_of (ap process_of (sym (variant.rolls-Par ps)) ∙ fold-roll-Prog plain.Process plain.Process OneState process_layer automaton_layer state_layer (Prog-F.Par ps))

pub jobs_of-Local : (p : Prog) (list : Vec SigId Global) (inside : Box Prog Global) → p ≡ variant.Local list inside → jobs_of (process_of p) ≡ jobs_of (process_of inside.value)
jobs_of-Local p list inside is = ap (λ (q : Prog). jobs_of (process_of q)) is ∙ ap jobs_of (ap process_of (sym (variant.rolls-Local list inside)) ∙ fold-roll-Prog plain.Process plain.Process OneState process_layer automaton_layer state_layer (Prog-F.Local list inside))

pub jobs_of-Freeze : (p : Prog) (s : SigId) (inside : Box Prog Global) → p ≡ variant.Freeze s inside → jobs_of (process_of p) ≡ jobs_of (process_of inside.value)
jobs_of-Freeze p s inside is = ap (λ (q : Prog). jobs_of (process_of q)) is ∙ ap jobs_of (ap process_of (sym (variant.rolls-Freeze s inside)) ∙ fold-roll-Prog plain.Process plain.Process OneState process_layer automaton_layer state_layer (Prog-F.Freeze s inside))

pub state_transitions : (s : State) → (state_of s).rules.transitions ≡ map transition_of s.trans.items
state_transitions s = ap (λ (o : OneState). o.rules.transitions) (fold_out-State plain.Process plain.Process OneState process_layer automaton_layer state_layer s)

pub body_jobs : (s : State) (inside : Box Prog Global) → s.body ≡ Some inside → jobs_within (state_of s).body ≡ jobs_of (process_of inside.value)
body_jobs s inside is =
    let e = fold_out-State plain.Process plain.Process OneState process_layer automaton_layer state_layer s in
    ap (λ (o : OneState). jobs_within o.body) e ∙ rw is refl
