use Rattle.std.proofs.Common.{arith}
use Rattle.eqn_dd.proofs.Denotations.{adds_one, adds_in_turn}
use Rattle.verdict_search.proofs.TakingSteps.{denotes_with, denotes_without}
use Rattle.verdict_search.proofs.taking.and_answer.Goals as goal

pub returns-then-answer-clause-denotes : goal.returns-then-answer-clause-denotes
returns-then-answer-clause-denotes c = denotes_with c.args.answer c.and.result c.if-answer.true c.and.ensures.made

pub returns-clause-adds : goal.returns-clause-adds
returns-clause-adds c = adds_in_turn 1 1 2 (omega arith) (adds_one c.in_ok-opposite.ensures.made) (adds_one c.and-2.ensures.made)

pub returns-clause-denotes : goal.returns-clause-denotes
returns-clause-denotes c = denotes_without c.args.answer c.and-2.result c.if-answer.false c.requires.held_q c.requires.held_g c.in_ok-opposite.ensures.made c.and-2.ensures.made
