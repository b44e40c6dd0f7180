use Rattle.std.proofs.Common.{Err}
use Rattle.argos_core.specs.ModuleViews.{module_of}
use Rattle.argos_load.specs.Programs.{ModuleOf, AcceptedOf, accepted, IsOutOfNodes}
use Rattle.argos_load.specs.Stages.{gives}
use Rattle.argos_load.proofs.Loads.{IsStage-next, says_refused, meant_of}
use Rattle.argos_load.proofs.files.judged.Goals as goal

pub returns-in-Ok : goal.returns-in-Ok
returns-in-Ok c =
    let p = module_of c.in_ok-program.program in
    (gives p, c.in_ok-program.ensures {u = tt}, accepted (c.in-Ok.ensures {u = tt}).acceptable)

pub returns-in_ok-refused-in-Err : goal.returns-in_ok-refused-in-Err
returns-in_ok-refused-in-Err c =
    let k = c.args.number in
    let text = c.args.text.now in
    let p = module_of c.in_ok-program.program in
    let m = c.in_ok-program.ensures {u = tt} in
    IsStage-next module_of c.args.nodes (ModuleOf k text) (AcceptedOf k) (IsOutOfNodes c.args.nodes text) (Err c.in_ok-refused-in-Err.field-0) p m
    (says_refused module_of k text p c.args.nodes c.in_ok-refused-in-Err.field-0 (meant_of k text p m) (c.in_ok-refused-in-Err.ensures {u = tt}))
