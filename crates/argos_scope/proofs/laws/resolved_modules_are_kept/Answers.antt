use Rattle.argos_scope.proofs.ResolvedModules.{resolved_module}
use Rattle.argos_scope.proofs.laws.resolved_modules_are_kept.Goals as goal

pub returns : goal.returns
returns c = resolved_module
