use Rattle.std.proofs.Common.{◌+◌, List, length, ap, arith}
use Rattle.eqn_dd.specs.Placed.{Register, register_variables}
use Rattle.eqn_dd.proofs.Denotations.{adds_in_turn}
use Rattle.eqn_dd.proofs.Beginning.{begins}
use Rattle.eqn_dd.proofs.table.begin.Goals as goal

pub returns-in_err-own-clause-adds : goal.returns-in_err-own-clause-adds
returns-in_err-own-clause-adds c =
    let regs = ap (λ (l : List Register). length (register_variables l)) c.deref.ensures.value in
    let inputs = ap length c.deref-2.ensures.value in
    adds_in_turn _ _ _ (omega (arith, regs, inputs)) c.in_ok-words.ensures.adds c.begin_bits.ensures.adds

pub returns-in_err-given-clause-adds : goal.returns-in_err-given-clause-adds
returns-in_err-given-clause-adds c =
    let regs = ap (λ (l : List Register). length (register_variables l)) c.deref.ensures.value in
    let inputs = ap length c.deref-2.ensures.value in
    adds_in_turn (length (register_variables c.deref.result.now) + length c.deref-2.result.now) _ _ (omega (arith, regs, inputs)) (adds_in_turn _ _ _ (omega arith) c.in_ok-words.ensures.adds c.in_ok-own.ensures.adds) c.begin_given.ensures.adds

pub returns-clause-adds : goal.returns-clause-adds
returns-clause-adds c =
    let regs = ap (λ (l : List Register). length (register_variables l)) c.deref.ensures.value in
    let inputs = ap length c.deref-2.ensures.value in
    adds_in_turn (length (register_variables c.deref.result.now) + length c.deref-2.result.now) _ _ (omega (arith, regs, inputs)) (adds_in_turn _ _ _ (omega arith) c.in_ok-words.ensures.adds c.in_ok-own.ensures.adds) c.in_ok-given.ensures.adds

pub returns-clause-begins : goal.returns-clause-begins
returns-clause-begins c =
    begins c.requires.inputs_fit c.requires.registers_fit (rw c.deref.ensures.value at c.in_ok-words.ensures.words) c.in_ok-own.ensures.adds.keeps (rw c.deref-2.ensures.value at c.in_ok-own.ensures.inputs)
    c.in_ok-given.ensures.adds.keeps (rw c.deref-3.ensures.value at c.in_ok-given.ensures.given)
