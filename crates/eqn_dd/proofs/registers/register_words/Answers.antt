use Rattle.std.proofs.Common.{◌+◌, List, length, sym, subst, arith}
use Rattle.dd_core.specs.declared.nodes.NodeId.{NodeId}
use Rattle.eqn_dd.specs.Placed.{register_variables}
use Rattle.eqn_dd.proofs.Denotations.{adds_in_turn}
use Rattle.eqn_dd.proofs.RegisterSteps.{RegistersSoFar, register_exists, registers_few, registers_more, map-push}
use Rattle.eqn_dd.proofs.registers.register_words.Goals as goal

pub register_word-requires-clause-exist : goal.register_word-requires-clause-exist
register_word-requires-clause-exist c k below =
    let there = register_exists c.args.arena.now.variables c.args.regs.now c.loop-first.first-index (0, 0) c.loop-first-test.true c.requires.exist k below in
    omega (arith, there, c.loop-first.invariant.adds.keeps.variables)

pub returns-in_err-register_word-clause-adds : goal.returns-in_err-register_word-clause-adds
returns-in_err-register_word-clause-adds c = adds_in_turn _ _ (length (register_variables c.args.regs.now)) (registers_few c.args.regs.now c.loop-first.first-index (0, 0) c.loop-first-test.true) c.loop-first.invariant.adds c.register_word.ensures.adds

pub returns-in_err-push-clause-adds : goal.returns-in_err-push-clause-adds
returns-in_err-push-clause-adds c = adds_in_turn _ _ (length (register_variables c.args.regs.now)) (registers_few c.args.regs.now c.loop-first.first-index (0, 0) c.loop-first-test.true) c.loop-first.invariant.adds c.register_word.ensures.adds

pub loop-first-preserved : goal.loop-first-preserved
loop-first-preserved c =
    subst (λ (l : List (List NodeId)). RegistersSoFar c.args.arena.now c.args.regs.now (c.loop-first.first-index + 1) c.register_word.new.arena l) (sym (map-push _ _ _ _ c.in_ok-push.ensures.items))
    (registers_more (0, 0) c.loop-first-test.true c.loop-first.invariant c.in_ok-register_word.ensures.adds c.in_ok-register_word.ensures.denotes)
