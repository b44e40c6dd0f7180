use Rattle.verdict_search.proofs.PartSteps.{ReadSoFar}
use Rattle.verdict_search.proofs.parting.bits_read.Given as goal

abbrev pub invariant-loop-g : goal.invariant-loop-g
invariant-loop-g l = ReadSoFar l.arena.nodes l.points l.arena.variables l.g-items l.g-index l.read.items
