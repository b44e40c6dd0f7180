use Rattle.pointcuts.proofs.Fitting.{fits}
use Rattle.pointcuts.proofs.laws.aspects_fit.Goals as goal

pub returns : goal.returns
returns c = fits
