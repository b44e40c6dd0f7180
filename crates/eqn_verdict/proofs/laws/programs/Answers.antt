use Rattle.eqn_verdict.proofs.OfPrograms.{one_is_one, first_bad_is_first_bad, runs_are_traces, solved_are_systems, acyclic_are_good}
use Rattle.eqn_verdict.proofs.laws.programs.Goals as goal

pub returns-clause-one : goal.returns-clause-one
returns-clause-one c = one_is_one

pub returns-clause-first_bad : goal.returns-clause-first_bad
returns-clause-first_bad c = first_bad_is_first_bad

pub returns-clause-runs : goal.returns-clause-runs
returns-clause-runs c = runs_are_traces

pub returns-clause-solved : goal.returns-clause-solved
returns-clause-solved c = solved_are_systems

pub returns-clause-acyclic : goal.returns-clause-acyclic
returns-clause-acyclic c = acyclic_are_good
