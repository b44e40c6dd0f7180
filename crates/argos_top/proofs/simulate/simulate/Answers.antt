use Rattle.line_format.specs.FileNames.{names_of}
use Rattle.argos_load.specs.Runnables.{equations}
use Rattle.argos_top.proofs.Traces.{runs_equations}
use Rattle.argos_top.proofs.simulate.simulate.Goals as goal

pub returns-in-Ok : goal.returns-in-Ok
returns-in-Ok g c =
    let n = names_of c.args.names.now in
    let E = c.args.ordered in
    c.simulate_in.ensures (equations E n) (runs_equations E n _ c.begin.ensures.ordered c.requires.inputs (c.in-Ok.ensures {u = tt}).stepper)
