use Rattle.c_emit.proofs.SameRuns.{reacts_as_system, runs_as_system, statements_counted}
use Rattle.c_emit.proofs.laws.c_runs_as_system.Goals as goal

pub returns-clause-reacts : goal.returns-clause-reacts
returns-clause-reacts c = reacts_as_system

pub returns-clause-runs : goal.returns-clause-runs
returns-clause-runs c = runs_as_system

pub returns-clause-counted : goal.returns-clause-counted
returns-clause-counted c = statements_counted
