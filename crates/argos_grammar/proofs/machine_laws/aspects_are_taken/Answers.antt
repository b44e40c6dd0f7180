use Rattle.argos_grammar.proofs.AcceptsAspects.{accepts_aspect}
use Rattle.argos_grammar.proofs.machine_laws.aspects_are_taken.Goals as goal

pub returns : goal.returns
returns c = accepts_aspect
