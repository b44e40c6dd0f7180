use Rattle.std.proofs.Common.{◌+◌, ◌*◌, List, Bool, length, sym, subst, arith}
use Rattle.dd_core.specs.declared.nodes.NodeId.{NodeId}
use Rattle.eqn_dd.proofs.Denotations.{adds_in_turn}
use Rattle.verdict_search.proofs.TakingSteps.{LeastSoFar, none_yet, one_more, all_taken}
use Rattle.verdict_search.proofs.taking.least_answers.Goals as goal

pub loop-g-init : goal.loop-g-init
loop-g-init c = subst (λ (l : List Bool). LeastSoFar c.args.arena.now c.args.arena.now c.args.q.0 c.args.results.now 0 c.args.q.0 l) (sym c.new-answers.ensures.items) (none_yet c.args.arena.now c.args.q.0 c.args.results.now c.variables.ensures.arena c.requires.held_q)

pub loop-g-preserved : goal.loop-g-preserved
loop-g-preserved c =
    let d : NodeId = record { 0 = 0 } in
    subst (λ (l : List Bool). LeastSoFar c.args.arena.now c.take_one.new.arena c.args.q.0 c.args.results.now (c.loop-g.g-index + 1) c.in_ok-answer.left.0 l) (sym c.in_ok-push.ensures.items)
    (one_more c.args.arena.now c.loop-g.arena c.take_one.new.arena c.args.q.0 c.args.results.now c.loop-g.g-index c.loop-g.rest.0 c.in_ok-answer.left.0 c.loop-g.answers.items c.in_ok-answer.answer d
    c.loop-g-test.true (c.requires.held c.loop-g.g-index d c.loop-g-test.true) c.loop-g.invariant c.in_ok-answer.ensures.adds c.in_ok-answer.ensures.taken)

pub returns-clause-least : goal.returns-clause-least
returns-clause-least c = all_taken c.args.arena.now c.loop-g.arena c.args.q.0 c.args.results.now c.loop-g.g-index c.loop-g.rest.0 c.loop-g.answers.items c.loop-g-test.false c.loop-g.invariant

pub returns-in_err-answer-clause-adds : goal.returns-in_err-answer-clause-adds
returns-in_err-answer-clause-adds c = adds_in_turn (2 * c.loop-g.g-index) 2 (2 * length c.args.results.now) (omega arith) c.loop-g.invariant.adds c.take_one.ensures.adds

pub returns-in_err-push-clause-adds : goal.returns-in_err-push-clause-adds
returns-in_err-push-clause-adds c = adds_in_turn (2 * c.loop-g.g-index) 2 (2 * length c.args.results.now) (omega arith) c.loop-g.invariant.adds c.take_one.ensures.adds
