use Rattle.std.proofs.Common.{map}
use Rattle.argos_core.specs.Views.{register_shape_of}
use Rattle.bisim_check.proofs.PlacedInTurn.{TurnsFrom}
use Rattle.bisim_check.proofs.placing.registers_in_turn.Given as goal

abbrev pub invariant-loop-shape : goal.invariant-loop-shape
invariant-loop-shape l = TurnsFrom l.first (map register_shape_of l.shapes) l.shape-index l.regs.items l.next
