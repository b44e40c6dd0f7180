use Rattle.std.proofs.Common.{◌*◌, length, refl, arith}
use Rattle.dd_core.specs.declared.nodes.NodeId.{NodeId}
use Rattle.eqn_dd.proofs.Denotations.{adds_in_turn}
use Rattle.verdict_search.proofs.TakingSteps.{with_more, with_all}
use Rattle.verdict_search.proofs.taking.with_answers.Goals as goal

pub returns-in_err-met-clause-adds : goal.returns-in_err-met-clause-adds
returns-in_err-met-clause-adds c = adds_in_turn (2 * c.loop-place.place) 2 (2 * length c.args.results.now) (omega arith) c.loop-place.invariant.adds c.and_answer.ensures.adds

pub loop-place-preserved : goal.loop-place-preserved
loop-place-preserved c =
    let start : NodeId = record { 0 = 0 } in
    with_more c.args.results.now c.args.answers.now start c.loop-place-test.true c.requires.sized refl (c.requires.held c.loop-place.place start c.loop-place-test.true) c.loop-place.invariant c.in_ok-met.ensures.adds c.in_ok-met.ensures.denotes

pub returns-clause-with : goal.returns-clause-with
returns-clause-with c = with_all c.args.results.now c.args.answers.now c.loop-place-test.false c.requires.sized c.loop-place.invariant
