use Rattle.eqn_verdict.proofs.Counted.{counted_are_enough, acceptance_counts_more}
use Rattle.eqn_verdict.proofs.laws.needs.Goals as goal

pub returns-clause-jobs : goal.returns-clause-jobs
returns-clause-jobs c = counted_are_enough

pub returns-clause-acceptance : goal.returns-clause-acceptance
returns-clause-acceptance c = acceptance_counts_more
