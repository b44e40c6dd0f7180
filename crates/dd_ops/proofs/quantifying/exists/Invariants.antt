use Rattle.dd_ops.proofs.Quantifiers.{SoFar}
use Rattle.dd_ops.proofs.quantifying.exists.Given as goal

abbrev pub invariant-loop-var : goal.invariant-loop-var
invariant-loop-var l = SoFar l.fn.arena l.fn.f.0 l.vars l.var-index l.arena l.g.0
