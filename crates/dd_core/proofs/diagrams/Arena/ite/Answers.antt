use Rattle.dd_core.proofs.MakingChoices.{makes_few, makes_fewer}
use Rattle.dd_core.proofs.diagrams.Arena.ite.Goals as goal

pub returns-clause-made : goal.returns-clause-made
returns-clause-made c = makes_few c.make.ensures

pub returns-clause-fewer : goal.returns-clause-fewer
returns-clause-fewer c = makes_fewer c.make.ensures
