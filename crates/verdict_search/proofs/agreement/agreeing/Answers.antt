use Rattle.std.proofs.Common.{arith}
use Rattle.eqn_dd.proofs.Denotations.{adds_one, adds_in_turn}
use Rattle.verdict_search.proofs.SplitNodes.{adds_variable}
use Rattle.verdict_search.proofs.AgreeSteps.{agreement_made}
use Rattle.verdict_search.proofs.agreement.agreeing.Goals as goal

pub returns-in_err-opposite-clause-adds : goal.returns-in_err-opposite-clause-adds
returns-in_err-opposite-clause-adds c = adds_in_turn 1 1 3 (omega arith) (adds_variable c.in_ok-value.ensures.made) (adds_one c.not.ensures.made)

pub ite-requires-clause-held_g : goal.ite-requires-clause-held_g
ite-requires-clause-held_g c = c.in_ok-opposite.ensures.made.keeps.held c.args.f.0 (c.in_ok-value.ensures.made.keeps.held c.args.f.0 c.requires.held)

pub returns-clause-adds : goal.returns-clause-adds
returns-clause-adds c = adds_in_turn 2 1 3 (omega arith) (adds_in_turn 1 1 2 (omega arith) (adds_variable c.in_ok-value.ensures.made) (adds_one c.in_ok-opposite.ensures.made)) (adds_one c.ite.ensures.made)

pub returns-clause-denotes : goal.returns-clause-denotes
returns-clause-denotes c = agreement_made c.ite.result c.requires.held c.in_ok-value.ensures.made c.in_ok-opposite.ensures.made c.ite.ensures.made
