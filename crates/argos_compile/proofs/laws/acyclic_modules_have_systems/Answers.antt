use Rattle.argos_compile.proofs.Traces.{acyclic_have_systems}
use Rattle.argos_compile.proofs.laws.acyclic_modules_have_systems.Goals as goal

pub returns : goal.returns
returns c = acyclic_have_systems
