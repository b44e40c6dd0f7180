use Rattle.instant_verdict.proofs.SearchSteps.{codes-more, codes-all}
use Rattle.cycle_solve.proofs.roots.greatest_codes.Goals as goal

pub loop-shape-preserved : goal.loop-shape-preserved
loop-shape-preserved c = codes-more c.loop-shape.shape-index c.args.shapes.now c.shape-item.result
    c.loop-shape-test.true c.shape-item.is c.sixteen_bits.ensures c.loop-shape.invariant

pub returns : goal.returns
returns c = codes-all c.loop-shape.shape-index c.args.shapes.now c.loop-shape-test.false c.loop-shape.invariant
