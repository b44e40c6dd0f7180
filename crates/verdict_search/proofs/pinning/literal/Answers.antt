use Rattle.std.proofs.Common.{arith}
use Rattle.eqn_dd.proofs.Denotations.{adds_one, adds_in_turn}
use Rattle.verdict_search.proofs.SplitNodes.{adds_variable}
use Rattle.verdict_search.proofs.PinnedNodes.{literal_true, literal_false}
use Rattle.verdict_search.proofs.pinning.literal.Goals as goal

pub returns-then-value-clause-denotes : goal.returns-then-value-clause-denotes
returns-then-value-clause-denotes c = literal_true c.args.value c.if-value.true c.in_ok-f.ensures.made

pub returns-else-value-clause-adds : goal.returns-else-value-clause-adds
returns-else-value-clause-adds c = adds_in_turn 1 1 2 (omega arith) (adds_variable c.in_ok-f.ensures.made) (adds_one c.not.ensures.made)

pub returns-else-value-clause-denotes : goal.returns-else-value-clause-denotes
returns-else-value-clause-denotes c = literal_false c.args.value c.not.result c.if-value.false c.in_ok-f.ensures.made c.not.ensures.made
