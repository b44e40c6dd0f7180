use Rattle.std.proofs.Common.{◌-◌, arith}
use Rattle.eqn_dd.proofs.Denotations.{adds_in_turn}
use Rattle.eqn_dd.proofs.RegisterSteps.{adds_variable, padded_is, register_none, register_more}
use Rattle.eqn_dd.proofs.registers.register_word.Goals as goal

pub loop-digit-init : goal.loop-digit-init
loop-digit-init c = register_none c.args.arena.now c.args.first c.args.bits c.resize.new.self.items c.variables.ensures.arena c.requires.narrow (padded_is (16 - c.args.bits) (record { 0 = 0 }) c.in_ok-word.ensures.items c.in_ok-word.ensures.len c.in_ok-resize.ensures.items)

pub returns-in_err-var-clause-adds : goal.returns-in_err-var-clause-adds
returns-in_err-var-clause-adds c = adds_in_turn c.loop-digit.digit 1 c.args.bits (omega arith) c.loop-digit.invariant.adds (adds_variable c.var.ensures.made)

pub returns-in_err-push-clause-adds : goal.returns-in_err-push-clause-adds
returns-in_err-push-clause-adds c = adds_in_turn c.loop-digit.digit 1 c.args.bits (omega arith) c.loop-digit.invariant.adds (adds_variable c.var.ensures.made)

pub loop-digit-preserved : goal.loop-digit-preserved
loop-digit-preserved c = rw c.in_ok-push.ensures.items (register_more (c.requires.exist c.loop-digit.digit c.loop-digit-test.true) c.loop-digit.invariant c.in_ok-var.ensures.made)
