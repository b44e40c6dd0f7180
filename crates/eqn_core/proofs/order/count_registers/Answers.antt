use Rattle.eqn_core.proofs.Walks.{all_below-from_fits}
use Rattle.eqn_core.proofs.order.count_registers.Goals as goal

pub returns-clause-codes : goal.returns-clause-codes
returns-clause-codes c = all_below-from_fits c.args.init.now c.type_inv.init
