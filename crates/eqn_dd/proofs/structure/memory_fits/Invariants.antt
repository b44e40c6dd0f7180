use Rattle.std.proofs.Common.{map}
use Rattle.argos_core.specs.Views.{register_shape_of}
use Rattle.eqn_dd.proofs.StructureSteps.{FittingSoFar}
use Rattle.eqn_dd.proofs.structure.memory_fits.Given as goal

abbrev pub invariant-loop-register : goal.invariant-loop-register
invariant-loop-register l = FittingSoFar l.fn.arena (map (λ w. w.items) l.words) (map register_shape_of l.shapes) l.register l.arena l.fits.0
