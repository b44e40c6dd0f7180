use Rattle.bisim_verdict.proofs.Named.{placed_together_are_named}
use Rattle.bisim_verdict.proofs.Reading.{values_are_points}
use Rattle.bisim_verdict.proofs.Widths.{digits_fit}
use Rattle.bisim_verdict.proofs.laws.places_together.Goals as goal

pub returns-clause-named : goal.returns-clause-named
returns-clause-named c = placed_together_are_named

pub returns-clause-digits : goal.returns-clause-digits
returns-clause-digits c = digits_fit

pub returns-clause-points : goal.returns-clause-points
returns-clause-points c = values_are_points
