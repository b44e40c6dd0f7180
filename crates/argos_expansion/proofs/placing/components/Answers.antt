use Rattle.argos_expansion.proofs.PlacedLists.{components_step}
use Rattle.argos_expansion.proofs.placing.components.Goals as goal

pub loop-place-preserved : goal.loop-place-preserved
loop-place-preserved c = components_step c.args.names.now.names.items c.args.components.now c.loop-place.place c.index-components-place.result c.loop-place.placed.items c.push.new.self.items c.in_ok-component.field-0 _ c.requires c.loop-place-test.true c.index-components-place.is (c.in_ok-push.ensures {u = tt}).items (c.in_ok-component.ensures {u = tt}) c.loop-place.invariant
