use Rattle.std.proofs.Common.{◌≡◌, ◌-◌, ◌*◌, ◌<◌, length, IfOk, refl, sym, ap, ◌∙◌, subst, rules, arith}
use Rattle.std.proofs.lemmas.Grind.{common_steps}
use Rattle.argos_core.specs.Sizes.{guard_size}
use Rattle.argos_core.specs.Views.{guard_of, numbers}
use denote.Param.Weighed.{at_most}
use Rattle.argos_core.proofs.prog.Guard.TheLaws.{the_size}
use Rattle.argos_core.specs.Guards.{holds}
use Rattle.argos_core.specs.Process as plain
use Rattle.instant_check.specs.Telling.{DenotesTest}
use Rattle.argos_core.specs.declared.prog.Guard.{Guard}
use Rattle.instant_check.proofs.GuardViews.{guard_of-True, guard_of-False, guard_of-Not}
use Rattle.instant_check.proofs.Adding.{adds_in_turn, adds_one}
use Rattle.instant_check.proofs.TestDiagrams.{test_true, test_false, test_opposite, one_node, sized_numbers, every_none, some_none, operand_reads, operand_fails, joined_fails, every_step, some_step}
use Rattle.instant_check.proofs.guards.+guard_diagram.Goals as goal

pub all_diagram-loop-left-init : goal.all_diagram-loop-left-init
all_diagram-loop-left-init t c = every_none c.args.arena.now (numbers c.args.signals.now) c.args.operands.now (length c.args.operands.now) refl c.variables.ensures.arena

pub all_diagram-guard_diagram-requires : goal.all_diagram-guard_diagram-requires
all_diagram-guard_diagram-requires t c =
    let below : c.loop-left.left - 1 < length c.args.operands.now = omega (arith, c.loop-left.invariant.bound) in
    let deep = at_most the_size c.args.operands.now (c.loop-left.left - 1) c.index-operands-left.result below in
    (first_of (search (rules, deep), grind (arith, common_steps)), (c.requires.sized ∙ sym c.loop-left.invariant.adds.keeps.variables, operand_reads c.args.operands.now (c.loop-left.left - 1) c.index-operands-left.result (numbers c.args.signals.now) below c.index-operands-left.is c.requires.read))

pub all_diagram-returns-in_err-f-clause-adds : goal.all_diagram-returns-in_err-f-clause-adds
all_diagram-returns-in_err-f-clause-adds t c =
    operand_fails c.args.operands.now (c.loop-left.left - 1) c.loop-left.left c.index-operands-left.result (omega arith) (omega (arith, c.loop-left.invariant.bound)) c.index-operands-left.is c.loop-left.invariant c.guard_diagram.ensures.adds

pub all_diagram-returns-in_err-met-clause-adds : goal.all_diagram-returns-in_err-met-clause-adds
all_diagram-returns-in_err-met-clause-adds t c =
    joined_fails c.args.operands.now (c.loop-left.left - 1) c.loop-left.left c.index-operands-left.result (omega arith) (omega (arith, c.loop-left.invariant.bound)) c.index-operands-left.is c.loop-left.invariant c.guard_diagram.ensures.adds (adds_one c.and.ensures.made)

pub all_diagram-loop-left-preserved : goal.all_diagram-loop-left-preserved
all_diagram-loop-left-preserved t c =
    every_step c.args.signals.now c.args.operands.now (c.loop-left.left - 1) c.loop-left.left c.index-operands-left.result (omega arith) (omega (arith, c.loop-left.invariant.bound)) c.index-operands-left.is c.requires.sized c.loop-left.invariant c.guard_diagram.ensures.adds c.in_ok-f.ensures.denotes c.in_ok-met.ensures.made

pub any_diagram-loop-left-init : goal.any_diagram-loop-left-init
any_diagram-loop-left-init t c = some_none c.args.arena.now (numbers c.args.signals.now) c.args.operands.now (length c.args.operands.now) refl c.variables.ensures.arena

pub any_diagram-guard_diagram-requires : goal.any_diagram-guard_diagram-requires
any_diagram-guard_diagram-requires t c =
    let below : c.loop-left.left - 1 < length c.args.operands.now = omega (arith, c.loop-left.invariant.bound) in
    let deep = at_most the_size c.args.operands.now (c.loop-left.left - 1) c.index-operands-left.result below in
    (first_of (search (rules, deep), grind (arith, common_steps)), (c.requires.sized ∙ sym c.loop-left.invariant.adds.keeps.variables, operand_reads c.args.operands.now (c.loop-left.left - 1) c.index-operands-left.result (numbers c.args.signals.now) below c.index-operands-left.is c.requires.read))

pub any_diagram-returns-in_err-f-clause-adds : goal.any_diagram-returns-in_err-f-clause-adds
any_diagram-returns-in_err-f-clause-adds t c =
    operand_fails c.args.operands.now (c.loop-left.left - 1) c.loop-left.left c.index-operands-left.result (omega arith) (omega (arith, c.loop-left.invariant.bound)) c.index-operands-left.is c.loop-left.invariant c.guard_diagram.ensures.adds

pub any_diagram-returns-in_err-met-clause-adds : goal.any_diagram-returns-in_err-met-clause-adds
any_diagram-returns-in_err-met-clause-adds t c =
    joined_fails c.args.operands.now (c.loop-left.left - 1) c.loop-left.left c.index-operands-left.result (omega arith) (omega (arith, c.loop-left.invariant.bound)) c.index-operands-left.is c.loop-left.invariant c.guard_diagram.ensures.adds (adds_one c.or.ensures.made)

pub any_diagram-loop-left-preserved : goal.any_diagram-loop-left-preserved
any_diagram-loop-left-preserved t c =
    some_step c.args.signals.now c.args.operands.now (c.loop-left.left - 1) c.loop-left.left c.index-operands-left.result (omega arith) (omega (arith, c.loop-left.invariant.bound)) c.index-operands-left.is c.requires.sized c.loop-left.invariant c.guard_diagram.ensures.adds c.in_ok-f.ensures.denotes c.in_ok-met.ensures.made

pub negation_diagram-returns-clause-adds : goal.negation_diagram-returns-clause-adds
negation_diagram-returns-clause-adds t c =
    let size = guard_size (guard_of c.args.operand.now) in
    let one = one_node (guard_of c.args.operand.now) in
    adds_in_turn (2 * size - 1) 1 (2 * size) (omega (arith, one)) c.guard_diagram.ensures.adds (adds_one c.not.ensures.made)

pub negation_diagram-returns-clause-denotes : goal.negation_diagram-returns-clause-denotes
negation_diagram-returns-clause-denotes t c =
    test_opposite (sized_numbers c.args.signals.now _ (c.requires.sized ∙ sym c.guard_diagram.ensures.adds.keeps.variables)) c.in_ok-f.ensures.denotes c.not.ensures.made

pub guard_diagram-returns-in-True-clause-denotes : goal.guard_diagram-returns-in-True-clause-denotes
guard_diagram-returns-in-True-clause-denotes t c =
    let e : guard_of c.args.guard.now ≡ plain.always = ap guard_of c.in-True.is ∙ guard_of-True in
    subst (λ (g : plain.Guard). DenotesTest c.args.arena.now 1 (numbers c.args.signals.now) (holds g)) (sym e) (test_true c.args.arena.now (numbers c.args.signals.now) c.variables.ensures.arena)

pub guard_diagram-returns-in-False-clause-denotes : goal.guard_diagram-returns-in-False-clause-denotes
guard_diagram-returns-in-False-clause-denotes t c =
    let e : guard_of c.args.guard.now ≡ plain.never = ap guard_of c.in-False.is ∙ guard_of-False in
    subst (λ (g : plain.Guard). DenotesTest c.args.arena.now 0 (numbers c.args.signals.now) (holds g)) (sym e) (test_false c.args.arena.now (numbers c.args.signals.now) c.variables.ensures.arena)

pub guard_diagram-returns-in-Not-clause-denotes : goal.guard_diagram-returns-in-Not-clause-denotes
guard_diagram-returns-in-Not-clause-denotes t c =
    let d : c.in-Not.operand.value ≡ c.deref.result.now = cc in
    let e : guard_of c.args.guard.now ≡ plain.negation (guard_of c.deref.result.now) = ap guard_of c.in-Not.is ∙ guard_of-Not c.in-Not.operand ∙ ap (λ (g : Guard). plain.negation (guard_of g)) d in
    subst (λ (g : plain.Guard). IfOk c.negation_diagram.result (λ f. DenotesTest c.negation_diagram.new.arena f.0 (numbers c.args.signals.now) (holds g))) (sym e) c.negation_diagram.ensures.denotes
