use Rattle.std.proofs.Common.{subst}
use Rattle.argos_compile.specs.WovenViews.{woven_view}
use Rattle.argos_load.specs.Calls.{call}
use Rattle.argos_load.specs.Giving.{IsStage}
use Rattle.argos_load.specs.Programs.{TextOf}
use Rattle.argos_load.specs.Runnables.{names_in}
use Rattle.argos_load.specs.Stages.{◌then◌}
use Rattle.argos_load.specs.WovenFiles.{AspectTreeOf, AspectOver, ObservedOf, WovenWith, IsObserverOutOfNodes}
use Rattle.argos_load.proofs.Loads.{IsFileStage-next, IsFileStage-ends, bytes_in}
use Rattle.argos_load.proofs.aspects.load_aspect.Goals as goal

pub returns-in-Ok-clause-aspect : goal.returns-in-Ok-clause-aspect
returns-in-Ok-clause-aspect g c =
    let k = c.args.number in
    let nodes = c.args.nodes in
    let x = woven_view c.args.woven in
    let shelf = call g.H.Shelf.told g.H.Shelf.faults c.args.shelf.now c.load_text.new.shelf in
    IsFileStage-next woven_view k nodes c.args.name.now shelf (λ text. AspectTreeOf k text then λ t. AspectOver k (names_in x.base) t then λ A. ObservedOf k A then λ B. WovenWith k x B) (IsObserverOutOfNodes nodes x) c.with_aspect.result c.in-Ok.text.items
    ((c.in-Ok.ensures {u = tt}).text nodes)
    (subst (λ text. IsStage woven_view c.with_aspect.result nodes (AspectTreeOf k text then λ t. AspectOver k (names_in x.base) t then λ A. ObservedOf k A then λ B. WovenWith k x B) (IsObserverOutOfNodes nodes x text)) c.deref.ensures.value c.with_aspect.ensures.aspect)

pub returns-in-Err-clause-aspect : goal.returns-in-Err-clause-aspect
returns-in-Err-clause-aspect g c =
    let k = c.args.number in
    let nodes = c.args.nodes in
    let x = woven_view c.args.woven in
    let shelf = call g.H.Shelf.told g.H.Shelf.faults c.args.shelf.now c.load_text.new.shelf in
    IsFileStage-ends woven_view bytes_in k nodes c.args.name.now shelf (TextOf k) (λ text. AspectTreeOf k text then λ t. AspectOver k (names_in x.base) t then λ A. ObservedOf k A then λ B. WovenWith k x B) (IsObserverOutOfNodes nodes x) c.in-Err.stop
    ((c.in-Err.ensures {u = tt}).text nodes)
