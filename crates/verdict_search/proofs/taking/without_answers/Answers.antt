use Rattle.std.proofs.Common.{◌+◌, ◌*◌, length, arith}
use Rattle.eqn_dd.proofs.Denotations.{adds_one, adds_in_turn}
use Rattle.verdict_search.proofs.TakingSteps.{without_made}
use Rattle.verdict_search.proofs.taking.without_answers.Goals as goal

pub returns-clause-without : goal.returns-clause-without
returns-clause-without c = without_made c.args.results.now c.args.answers.now c.and.result c.requires.held_q c.in_ok-taken.ensures.adds c.in_ok-taken.ensures.with c.in_ok-others.ensures.made c.and.ensures.made

pub returns-in_err-others-clause-adds : goal.returns-in_err-others-clause-adds
returns-in_err-others-clause-adds c =
    let r = length c.args.results.now in
    adds_in_turn (2 * r) 1 (2 * r + 2) (omega arith) c.in_ok-taken.ensures.adds (adds_one c.not.ensures.made)

pub returns-clause-adds : goal.returns-clause-adds
returns-clause-adds c =
    let r = length c.args.results.now in
    adds_in_turn (2 * r + 1) 1 (2 * r + 2) (omega arith) (adds_in_turn (2 * r) 1 (2 * r + 1) (omega arith) c.in_ok-taken.ensures.adds (adds_one c.in_ok-others.ensures.made)) (adds_one c.and.ensures.made)
