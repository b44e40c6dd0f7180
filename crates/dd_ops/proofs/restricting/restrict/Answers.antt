use Rattle.dd_ops.proofs.Restrictions.{makes_few, makes_fewer}
use Rattle.dd_ops.proofs.restricting.restrict.Goals as goal

pub returns-clause-made : goal.returns-clause-made
returns-clause-made c = makes_few c.requires.variable c.restrict_from.ensures

pub returns-clause-fewer : goal.returns-clause-fewer
returns-clause-fewer c = makes_fewer c.restrict_from.ensures
