use Rattle.weave_lines.proofs.WovenLaws.{solutions_are_steps, traces_are_runs, runs_are_traces, woven_runs}
use Rattle.weave_lines.proofs.laws.woven_runs.Goals as goal

pub returns-clause-steps : goal.returns-clause-steps
returns-clause-steps c = solutions_are_steps

pub returns-clause-traces : goal.returns-clause-traces
returns-clause-traces c = traces_are_runs

pub returns-clause-runs : goal.returns-clause-runs
returns-clause-runs c = runs_are_traces

pub returns-clause-same : goal.returns-clause-same
returns-clause-same c = woven_runs
