use Rattle.std.proofs.Common.{Err, ap, subst, sym}
use Rattle.argos_core.specs.ModuleViews.{module_of}
use Rattle.argos_load.specs.Programs.{ModuleOf, AcceptedOf, accepted, IsOutOfNodes}
use Rattle.argos_load.specs.Stages.{gives}
use Rattle.argos_load.specs.Giving.{program_of, IsSaidOf}
use Rattle.argos_load.proofs.Loads.{IsStage-next, says_refused, meant_of}
use Rattle.argos_load.proofs.files.program.Goals as goal

pub returns-in-Ok : goal.returns-in-Ok
returns-in-Ok c =
    let p = module_of c.in_ok-program.program in
    let a = c.in-Ok.ensures {u = tt} in
    record { program = (gives p, c.in_ok-program.ensures {u = tt}, subst (λ q. AcceptedOf c.args.number p (gives q)) (sym (ap module_of a.kept)) (accepted a.answer.acceptable)) }

pub returns-in_ok-refused-in-Err : goal.returns-in_ok-refused-in-Err
returns-in_ok-refused-in-Err c =
    let k = c.args.number in
    let nodes = c.args.nodes in
    let text = c.args.text.now in
    let p = module_of c.in_ok-program.program in
    let m = c.in_ok-program.ensures {u = tt} in
    let stop = c.in_ok-refused-in-Err.field-0 in
    let told = subst (λ q. IsSaidOf k (module_of q) nodes stop) (c.in-Err.ensures {u = tt}).kept (c.in_ok-refused-in-Err.ensures {u = tt}) in
    record { program = IsStage-next program_of nodes (ModuleOf k text) (AcceptedOf k) (IsOutOfNodes nodes text) (Err stop) p m (says_refused program_of k text p nodes stop (meant_of k text p m) told) }
