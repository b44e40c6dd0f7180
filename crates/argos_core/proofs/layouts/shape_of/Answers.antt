use Rattle.std.proofs.Common.{arith}
use Rattle.argos_core.proofs.Shaping.{first_code_fits}
use Rattle.argos_core.proofs.layouts.shape_of.Goals as goal

pub first_code-requires-clause-counted : goal.first_code-requires-clause-counted
first_code-requires-clause-counted c = omega (arith, first_code_fits c.args.states.now _ c.args.init c.requires.shaped c.requires.exists)
