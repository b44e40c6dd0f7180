use Rattle.std.proofs.Common.{sym, subst}
use Rattle.argos_core.specs.Configurations.{IsConfiguration}
use Rattle.argos_core.specs.Views.{process_of}
use Rattle.argos_core.proofs.StepsStay.{initial_is}
use Rattle.argos_core.proofs.tests.codes_the_initial_configuration.Goals as goal

pub encode-requires-clause-fits : goal.encode-requires-clause-fits
encode-requires-clause-fits g c = subst (IsConfiguration (process_of c.in_ok-prog.prog)) (sym c.in_ok-first.ensures) (initial_is (process_of c.in_ok-prog.prog) c.in_ok-prog.ensures.shaped)
