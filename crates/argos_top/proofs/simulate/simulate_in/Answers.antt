use Rattle.std.proofs.Common.{refl}
use Rattle.line_format.specs.FileNames.{names_of}
use Rattle.argos_top.specs.inner.Endings.{unstarted}
use Rattle.argos_top.proofs.Runs.{ran_from}
use Rattle.argos_top.proofs.simulate.simulate_in.Goals as goal

pub returns-in-Ok : goal.returns-in-Ok
returns-in-Ok g c x run =
    let taken = c.in-Ok.ensures {u = tt} in
    let ran = c.simulate_trace.ensures x run in
    ran_from x (names_of c.args.names.now) c.in-Ok.trace ran.0 _ _ _ run.inputs run.outputs taken.first taken.taken taken.stopped ran.1 ran.2

pub returns-in-Err : goal.returns-in-Err
returns-in-Err g c x run = unstarted (record { is = refl; held = refl; still = refl })
