use Rattle.eqn_core.proofs.Walks.{all_below-from_fits}
use Rattle.cycle_solve.proofs.system.copy_codes.Goals as goal

pub returns-clause-codes : goal.returns-clause-codes
returns-clause-codes c = all_below-from_fits c.args.codes.now c.type_inv.codes
