-- What a step keeps, it keeps in one way.
use Rattle.std.proofs.Props.{props}
use Rattle.c_step.specs.CStep.{CStep, IsCStep}

pub IsCStep-prop : (s : CStep) → IsProp (IsCStep s)
IsCStep-prop s = hlevel props
