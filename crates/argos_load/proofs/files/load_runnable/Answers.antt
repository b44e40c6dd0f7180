use Rattle.std.proofs.Common.{subst}
use Rattle.argos_load.specs.Calls.{call}
use Rattle.argos_load.specs.Programs.{TextOf, IsOutOfNodes, RunnableOf}
use Rattle.argos_load.specs.Giving.{runnable_of, IsStage}
use Rattle.argos_load.proofs.Loads.{IsFileStage-next, IsFileStage-ends, bytes_in}
use Rattle.argos_load.proofs.files.load_runnable.Goals as goal

pub returns-in-Ok-clause-runnable : goal.returns-in-Ok-clause-runnable
returns-in-Ok-clause-runnable g c =
    let shelf = call g.H.Shelf.told g.H.Shelf.faults c.args.shelf.now c.load_text.new.shelf in
    IsFileStage-next runnable_of 1 c.args.nodes c.args.name.now shelf (RunnableOf 1) (IsOutOfNodes c.args.nodes) c.runnable.result c.in-Ok.text.items ((c.in-Ok.ensures {u = tt}).text c.args.nodes)
    (subst (λ t. IsStage runnable_of c.runnable.result c.args.nodes (RunnableOf 1 t) (IsOutOfNodes c.args.nodes t)) c.deref.ensures.value c.runnable.ensures.runnable)

pub returns-in-Err-clause-runnable : goal.returns-in-Err-clause-runnable
returns-in-Err-clause-runnable g c =
    let shelf = call g.H.Shelf.told g.H.Shelf.faults c.args.shelf.now c.load_text.new.shelf in
    IsFileStage-ends runnable_of bytes_in 1 c.args.nodes c.args.name.now shelf (TextOf 1) (RunnableOf 1) (IsOutOfNodes c.args.nodes) c.in-Err.stop ((c.in-Err.ensures {u = tt}).text c.args.nodes)
