use Rattle.std.proofs.Common.{◌+◌, length, sym, subst, arith}
use Rattle.eqn_dd.proofs.Denotations.{adds_one, adds_in_turn}
use Rattle.verdict_search.proofs.RootSteps.{BothSoFar, both_none, both_more, both_all}
use Rattle.verdict_search.proofs.roots.at_structural.Goals as goal

pub loop-f-init : goal.loop-f-init
loop-f-init c = subst (BothSoFar c.args.arena.now c.args.structural.0 c.args.fs.now 0 c.args.arena.now) (sym c.new-rests.ensures.items) (both_none c.args.arena.now c.args.structural.0 c.args.fs.now c.variables.ensures.arena)

pub loop-f-preserved : goal.loop-f-preserved
loop-f-preserved c = subst (BothSoFar c.args.arena.now c.args.structural.0 c.args.fs.now (c.loop-f.f-index + 1) c.and.new.self) (sym c.in_ok-push.ensures.items) (both_more c.args.fs.now c.loop-f-test.true c.requires.structural c.requires.held c.loop-f.invariant c.in_ok-rest.ensures.made)

pub returns-in_err-rest-clause-adds : goal.returns-in_err-rest-clause-adds
returns-in_err-rest-clause-adds c = adds_in_turn c.loop-f.f-index 1 (length c.args.fs.now) (omega arith) c.loop-f.invariant.adds (adds_one c.and.ensures.made)

pub returns-in_err-push-clause-adds : goal.returns-in_err-push-clause-adds
returns-in_err-push-clause-adds c = adds_in_turn c.loop-f.f-index 1 (length c.args.fs.now) (omega arith) c.loop-f.invariant.adds (adds_one c.in_ok-rest.ensures.made)

pub returns-clause-denote : goal.returns-clause-denote
returns-clause-denote c = both_all c.args.fs.now c.loop-f-test.false c.loop-f.invariant
