use Rattle.instant_verdict.proofs.SearchSteps.{AreCodesBefore}
use Rattle.cycle_solve.proofs.roots.greatest_codes.Given as goal

abbrev pub invariant-loop-shape : goal.invariant-loop-shape
invariant-loop-shape l = AreCodesBefore l.shape-index l.shapes
