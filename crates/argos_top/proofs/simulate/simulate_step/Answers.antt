use Rattle.c_step.specs.StepViews.{step_of}
use Rattle.argos_load.specs.Runnables.{c_steps}
use Rattle.argos_top.proofs.Traces.{runs_step}
use Rattle.argos_top.proofs.simulate.simulate_step.Goals as goal

pub returns-in-Ok : goal.returns-in-Ok
returns-in-Ok g c =
    let s = step_of c.args.step in
    c.simulate_in.ensures (c_steps s) (runs_step s _ _ c.begin_step.ensures.kept (c.in-Ok.ensures {u = tt}).names (c.in-Ok.ensures {u = tt}).run)
