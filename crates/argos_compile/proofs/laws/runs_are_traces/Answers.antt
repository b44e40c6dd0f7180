use Rattle.argos_compile.proofs.Traces.{runs_are_traces}
use Rattle.argos_compile.proofs.laws.runs_are_traces.Goals as goal

pub returns : goal.returns
returns c = runs_are_traces
