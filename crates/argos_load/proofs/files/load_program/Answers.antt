use Rattle.std.proofs.Common.{subst}
use Rattle.argos_load.specs.Calls.{call}
use Rattle.argos_load.specs.Programs.{TextOf, ModuleOf, AcceptedOf, IsOutOfNodes}
use Rattle.argos_load.specs.Stages.{◌then◌}
use Rattle.argos_load.specs.Giving.{program_of, IsStage}
use Rattle.argos_load.proofs.Loads.{IsFileStage-next, IsFileStage-ends, bytes_in}
use Rattle.argos_load.proofs.files.load_program.Goals as goal

pub returns-in-Ok-clause-program : goal.returns-in-Ok-clause-program
returns-in-Ok-clause-program g c =
    let shelf = call g.H.Shelf.told g.H.Shelf.faults c.args.shelf.now c.load_text.new.shelf in
    IsFileStage-next program_of c.args.number c.args.nodes c.args.name.now shelf (λ text. ModuleOf c.args.number text then AcceptedOf c.args.number) (IsOutOfNodes c.args.nodes) c.program.result c.in-Ok.text.items ((c.in-Ok.ensures {u = tt}).text c.args.nodes)
    (subst (λ t. IsStage program_of c.program.result c.args.nodes (ModuleOf c.args.number t then AcceptedOf c.args.number) (IsOutOfNodes c.args.nodes t)) c.deref.ensures.value c.program.ensures.program)

pub returns-in-Err-clause-program : goal.returns-in-Err-clause-program
returns-in-Err-clause-program g c =
    let shelf = call g.H.Shelf.told g.H.Shelf.faults c.args.shelf.now c.load_text.new.shelf in
    IsFileStage-ends program_of bytes_in c.args.number c.args.nodes c.args.name.now shelf (TextOf c.args.number) (λ text. ModuleOf c.args.number text then AcceptedOf c.args.number) (IsOutOfNodes c.args.nodes) c.in-Err.stop ((c.in-Err.ensures {u = tt}).text c.args.nodes)
