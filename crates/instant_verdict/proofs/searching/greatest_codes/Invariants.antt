use Rattle.instant_verdict.proofs.SearchSteps.{AreCodesBefore}
use Rattle.instant_verdict.proofs.searching.greatest_codes.Given as goal

abbrev pub invariant-loop-shape : goal.invariant-loop-shape
invariant-loop-shape l = AreCodesBefore l.shape-index l.shapes
