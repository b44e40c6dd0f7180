use Rattle.eqn_verdict.proofs.OfPrograms.{layouts_are_sized}
use Rattle.eqn_verdict.proofs.Fitting.{fits_is_test, widths_are_enough}
use Rattle.eqn_verdict.proofs.laws.layouts.Goals as goal

pub returns-clause-test : goal.returns-clause-test
returns-clause-test c = fits_is_test

pub returns-clause-widths : goal.returns-clause-widths
returns-clause-widths c = widths_are_enough

pub returns-clause-sized : goal.returns-clause-sized
returns-clause-sized c = layouts_are_sized
