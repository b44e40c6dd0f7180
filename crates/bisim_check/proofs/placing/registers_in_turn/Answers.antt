use Rattle.std.proofs.Common.{refl, arith}
use Rattle.std.proofs.lemmas.List.{length-map}
use Rattle.argos_core.specs.Views.{register_shape_of}
use Rattle.eqn_dd.proofs.StructureSteps.{item_there}
use Rattle.bisim_check.proofs.PlacedInTurn.{turns_more}
use Rattle.bisim_check.proofs.placing.registers_in_turn.Goals as goal

pub loop-shape-preserved : goal.loop-shape-preserved
loop-shape-preserved c =
    let at = item_there register_shape_of c.args.shapes.now c.loop-shape.shape-index c.shape-item.result (register_shape_of c.shape-item.result) c.loop-shape-test.true c.shape-item.is refl in
    rw c.in_ok-push.ensures.items (turns_more (omega (arith, length-map c.args.shapes.now register_shape_of)) at c.digit_count-digits.ensures c.loop-shape.invariant)
