use Rattle.std.proofs.Common.{[], subst}
use Rattle.argos_core.specs.ModuleViews.{module_of}
use Rattle.argos_load.specs.Calls.{call}
use Rattle.argos_load.specs.Programs.{TextOf, ModuleOf, AcceptedOf, IsOutOfNodes, ProgramOf}
use Rattle.argos_load.specs.Stages.{◌then◌}
use Rattle.argos_load.specs.Giving.{IsStage}
use Rattle.argos_load.specs.WovenFiles.{AreGoodFiles, AreOutOfNodes}
use Rattle.argos_load.proofs.FileStages.{first_stage, first_stops, program_spent}
use Rattle.argos_load.proofs.Loads.{IsFileStage-next, IsFileStage-ends, bytes_in}
use Rattle.argos_load.proofs.files.load_judged.Goals as goal

pub returns-in-Ok-clause-program : goal.returns-in-Ok-clause-program
returns-in-Ok-clause-program g c =
    let nodes = c.args.nodes in
    let file = c.args.file.now in
    let shelf = call g.H.Shelf.told g.H.Shelf.faults c.args.shelf.now c.load_text.new.shelf in
    let text = c.in-Ok.ensures {u = tt} in
    let one = IsFileStage-next module_of 1 nodes file shelf (λ text. ModuleOf 1 text then AcceptedOf 1) (IsOutOfNodes nodes) c.judged.result c.in-Ok.text.items (text.text nodes)
    (subst (λ t. IsStage module_of c.judged.result nodes (ModuleOf 1 t then AcceptedOf 1) (IsOutOfNodes nodes t)) c.deref.ensures.value c.judged.ensures) in
    first_stage module_of c.judged.result nodes file [] shelf (ProgramOf 1) (IsOutOfNodes nodes) (λ files. ProgramOf 1 (files file)) (λ files. AreGoodFiles files file []) (λ files. AreOutOfNodes files file [] nodes) (λ files s h. h) (λ files. tt)
    (λ files arena h. program_spent files file [] nodes arena h) text.counted one

pub returns-in-Err-clause-program : goal.returns-in-Err-clause-program
returns-in-Err-clause-program g c =
    let nodes = c.args.nodes in
    let file = c.args.file.now in
    let shelf = call g.H.Shelf.told g.H.Shelf.faults c.args.shelf.now c.load_text.new.shelf in
    let text = c.in-Err.ensures {u = tt} in
    let one = IsFileStage-ends module_of bytes_in 1 nodes file shelf (TextOf 1) (λ text. ModuleOf 1 text then AcceptedOf 1) (IsOutOfNodes nodes) c.in-Err.stop (text.text nodes) in
    first_stops module_of module_of c.in-Err.stop nodes file [] shelf (ProgramOf 1) (IsOutOfNodes nodes) (λ files. ProgramOf 1 (files file)) (λ files. AreGoodFiles files file []) (λ files. AreOutOfNodes files file [] nodes) (λ files s h. h) (λ files. tt)
    (λ files arena h. program_spent files file [] nodes arena h) text.counted one

pub returns-in-Ok-clause-loaded : goal.returns-in-Ok-clause-loaded
returns-in-Ok-clause-loaded g c = (1, (c.in-Ok.ensures {u = tt}).counted)
