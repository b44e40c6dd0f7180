use Rattle.std.proofs.Common.{sym, subst}
use Rattle.argos_core.specs.Configurations.{IsConfiguration}
use Rattle.argos_core.specs.Views.{process_of}
use Rattle.argos_core.proofs.StepsStay.{initial_is}
use Rattle.eqn_build.proofs.building.initial_codes.Goals as goal

pub encode-requires-clause-fits : goal.encode-requires-clause-fits
encode-requires-clause-fits c = subst (IsConfiguration (process_of c.args.prog.now)) (sym c.in_ok-config.ensures) (initial_is (process_of c.args.prog.now) c.requires)
