use Rattle.dd_core.proofs.Needs.{below_need}
use Rattle.dd_core.proofs.laws.need_is_enough.Goals as goal

pub returns : goal.returns
returns c = λ n operations v budget begin end. below_need n operations v budget begin end
