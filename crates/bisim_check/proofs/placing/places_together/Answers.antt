use Rattle.std.proofs.Common.{◌≡◌, ◌+◌, ℕ, map, length, refl, ap, ◌∙◌, arith}
use Rattle.std.specs.List.{range_with_len}
use Rattle.std.proofs.lemmas.Iterator.{YieldsList-from_range, items_from_collect}
use Rattle.argos_base.specs.Names.{place_of}
use Rattle.argos_congruence.specs.NamedSets.{number_or_zero}
use Rattle.argos_core.specs.Layouts.{layout_of}
use Rattle.argos_core.specs.ModuleViews.{module_of}
use Rattle.argos_core.specs.Views.{register_shape_of}
use Rattle.bisim_verdict.specs.EquivFunctions.{moved_variables}
use Rattle.eqn_completion.specs.Binary.{digits_in}
use Rattle.eqn_dd.specs.Placed.{registers_from}
use Rattle.eqn_dd.specs.Structural.{widths_of}
use Rattle.bisim_check.proofs.PlacedInTurn.{registers-few}
use Rattle.bisim_check.proofs.placing.places_together.Goals as goal

pub registers_in_turn-requires-clause-some : goal.registers_in_turn-requires-clause-some
registers_in_turn-requires-clause-some c =
    let a = c.args.left.now in
    registers-few (module_of a.«module») a.layout.regs.items _ a.«module».kept (c.deref.ensures.value ∙ ap (λ l. l.regs.items) c.layout.ensures) a.laid

pub registers_in_turn-requires-2-clause-some : goal.registers_in_turn-requires-2-clause-some
registers_in_turn-requires-2-clause-some c =
    let a = c.args.right.now in
    registers-few (module_of a.«module») a.layout.regs.items _ a.«module».kept (c.deref-2.ensures.value ∙ ap (λ l. l.regs.items) c.layout-2.ensures) a.laid

pub returns-clause-places : goal.returns-clause-places
returns-clause-places c =
    let a = c.args.left.now in
    let b = c.args.right.now in
    let P = module_of a.«module» in
    let Q = module_of b.«module» in
    let between = c.in_ok-left_registers.between in
    let behind = c.in_ok-right_registers.behind in
    let count = c.len-count.result in
    let lefts = widths_of (layout_of P.process) in
    let rights = widths_of (layout_of Q.process) in
    let left = ap (λ l. widths_of (map register_shape_of l)) (c.deref.ensures.value ∙ ap (λ l. l.regs.items) c.layout.ensures) ∙ ap widths_of a.laid in
    let right = ap (λ l. widths_of (map register_shape_of l)) (c.deref-2.ensures.value ∙ ap (λ l. l.regs.items) c.layout-2.ensures) ∙ ap widths_of b.laid in
    let between_is : between ≡ digits_in lefts = omega (arith, c.in_ok-left_registers.ensures.behind, ap digits_in left) in
    let behind_is : behind ≡ digits_in lefts + digits_in rights = omega (arith, c.in_ok-right_registers.ensures.behind, ap digits_in right, between_is) in
    let all = items_from_collect c.collect.result c.collect.ensures.ran (YieldsList-from_range behind (behind + count) count refl (omega arith)) in
    let inputs : c.in_ok-collect.field-0.items ≡ range_with_len behind count = rw c.in_ok-collect.was at all in
    let counted : count ≡ length P.inputs = c.len-count.ensures.count ∙ ap (λ m. length m.names.inputs) c.module.ensures in
    record {
      left_registers = c.in_ok-left_registers.ensures.registers ∙ ap (registers_from 0) left;
      right_registers = c.in_ok-right_registers.ensures.registers ∙ ap (registers_from between) right ∙ ap (λ (k : ℕ). registers_from k rights) between_is;
      left_inputs = inputs ∙ ap (λ (k : ℕ). range_with_len k count) behind_is ∙ ap (range_with_len (digits_in lefts + digits_in rights)) counted;
      right_inputs = c.in_ok-variables_by_name.ensures
          ∙ ap (λ (k : ℕ). map (λ name. k + number_or_zero (place_of c.module.result.now.names.inputs name)) c.module-2.result.now.names.inputs) behind_is
          ∙ ap (λ m. map (λ name. digits_in lefts + digits_in rights + number_or_zero (place_of m.names.inputs name)) c.module-2.result.now.names.inputs) c.module.ensures
          ∙ ap (λ m. moved_variables (digits_in lefts + digits_in rights) P (module_of m)) c.module-2.ensures;
      left_cyclic = c.new.ensures.items;
      right_cyclic = c.new-2.ensures.items;
    }
