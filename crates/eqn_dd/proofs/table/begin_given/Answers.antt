use Rattle.std.proofs.Common.{◌-◌, length, arith}
use Rattle.eqn_dd.proofs.Denotations.{adds_in_turn}
use Rattle.eqn_dd.proofs.RegisterSteps.{adds_variable}
use Rattle.eqn_dd.proofs.Beginning.{given_more}
use Rattle.eqn_dd.proofs.table.begin_given.Goals as goal

pub returns-in_err-variable-clause-adds : goal.returns-in_err-variable-clause-adds
returns-in_err-variable-clause-adds c =
    let before = c.loop-left.invariant in
    adds_in_turn (length c.args.cyclic.now - c.loop-left.left) 1 (length c.args.cyclic.now) (omega (arith, before.inside)) before.adds (adds_variable c.var.ensures.made)

pub loop-left-preserved : goal.loop-left-preserved
loop-left-preserved c =
    let before = c.loop-left.invariant in
    given_more (omega arith) c.requires.sized (c.requires.bits (c.loop-left.left - 1) 0 (omega (arith, before.inside))) before c.in_ok-variable.ensures.made
