use Rattle.eqn_dd.proofs.InTurn.{widths_narrow, names_registers, names_variables, rows_read}
use Rattle.eqn_dd.proofs.laws.places_in_turn.Goals as goal

pub returns-clause-narrow : goal.returns-clause-narrow
returns-clause-narrow c = widths_narrow

pub returns-clause-registers : goal.returns-clause-registers
returns-clause-registers c = names_registers

pub returns-clause-variables : goal.returns-clause-variables
returns-clause-variables c = names_variables

pub returns-clause-rows : goal.returns-clause-rows
returns-clause-rows c = rows_read
