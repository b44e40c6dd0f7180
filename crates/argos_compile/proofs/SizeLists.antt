-- Sizes of what stands in a list, one after the other.
use Rattle.std.proofs.Common.{◌≡◌, ℕ, ◌+◌, ◌<◌, List, ap, ◌∙◌, map, length, get_or, drop}
use Rattle.std.proofs.lemmas.Grind.{common_steps}
use Rattle.std.proofs.lemmas.List.{at_drop_more, length-map}
use Rattle.argos_core.specs.Sizes.{guard_size, guards_size, transitions_size, state_size, process_size, parts_size, states_size, body_size}
use Rattle.argos_core.specs.Views.{guard_of, guards_of, transition_of, process_of, processes_of, state_of, states_of, register_shape_of}
use Rattle.argos_core.specs.declared.layouts.Shape.{Shape}
use Rattle.argos_core.specs.declared.prog.Guard.{Guard}
use Rattle.argos_core.specs.declared.prog.Prog.{Prog}
use Rattle.argos_core.specs.declared.prog.State.{State}
use Rattle.argos_core.specs.declared.prog.Trans.{Trans}
use Rattle.eqn_completion.specs.Binary.{digits_in}
use Rattle.eqn_dd.specs.Structural.{digit_count, widths_of}

pub guards_size-drop : (gs : List Guard) (i : ℕ) (d : Guard) → i < length gs → guards_size (guards_of (map guard_of (drop i gs))) ≡ guard_size (guard_of (get_or gs i d)) + guards_size (guards_of (map guard_of (drop (i + 1) gs)))
guards_size-drop = at_drop_more (λ gs. guards_size (guards_of (map guard_of gs)))

pub transitions_size-drop : (ts : List Trans) (i : ℕ) (d : Trans) → i < length ts → transitions_size (map transition_of (drop i ts)) ≡ 1 + guard_size (guard_of (get_or ts i d).guard) + length (get_or ts i d).outs.items + transitions_size (map transition_of (drop (i + 1) ts))
transitions_size-drop ts i d below =
    let t = get_or ts i d in
    at_drop_more (λ xs. transitions_size (map transition_of xs)) ts i d below
    ∙ ap (λ (n : ℕ). 1 + guard_size (guard_of t.guard) + n + transitions_size (map transition_of (drop (i + 1) ts))) (length-map t.outs.items (λ s. s.0))

pub parts_size-drop : (ps : List Prog) (i : ℕ) (d : Prog) → i < length ps → parts_size (processes_of (map process_of (drop i ps))) ≡ process_size (process_of (get_or ps i d)) + parts_size (processes_of (map process_of (drop (i + 1) ps)))
parts_size-drop = at_drop_more (λ ps. parts_size (processes_of (map process_of ps)))

pub states_size-drop : (ss : List State) (i : ℕ) (d : State) → i < length ss → states_size (states_of (map state_of (drop i ss))) ≡ state_size (state_of (get_or ss i d)).rules + body_size (state_of (get_or ss i d)).body + states_size (states_of (map state_of (drop (i + 1) ss)))
states_size-drop = at_drop_more (λ ss. states_size (states_of (map state_of ss)))

pub digits_in-drop : (ls : List Shape) (i : ℕ) (d : Shape) → i < length ls → digits_in (widths_of (map register_shape_of (drop i ls))) ≡ digit_count (get_or ls i d).top + digits_in (widths_of (map register_shape_of (drop (i + 1) ls)))
digits_in-drop = at_drop_more (λ ls. digits_in (widths_of (map register_shape_of ls)))

pub ruleset size_lists = (common_steps, guards_size-drop, transitions_size-drop, parts_size-drop, states_size-drop, digits_in-drop)
