use Rattle.eqn_core.proofs.Walks.{all_below-from_fits}
use Rattle.weave_lines.proofs.adding.codes_fit.Goals as goal

pub returns : goal.returns
returns c = all_below-from_fits c.args.codes.now c.type_inv.codes
