use Rattle.std.proofs.Common.{arith}
use Rattle.eqn_dd.proofs.Turns.{cyclic_few}
use Rattle.eqn_dd.proofs.places.place_vars.Goals as goal

pub overflow_cast-len : goal.overflow_cast-len
overflow_cast-len c = omega (arith, cyclic_few c.requires.placeable, c.len.ensures)

pub variables_from-requires-2 : goal.variables_from-requires-2
variables_from-requires-2 c = omega (arith, cyclic_few c.requires.placeable, c.len.ensures, c.requires.placeable.input_limit, c.in_ok-regs.ensures.few)
