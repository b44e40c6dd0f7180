use Rattle.eqn_dd.proofs.Turns.{digit_count-leading}
use Rattle.bisim_check.proofs.placing.digit_count.Goals as goal

pub returns : goal.returns
returns c = digit_count-leading c.args.code c.max.result c.ranges.code.fits c.max.ensures
