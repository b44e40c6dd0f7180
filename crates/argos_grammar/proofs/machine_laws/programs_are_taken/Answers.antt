use Rattle.argos_grammar.proofs.AcceptsPrograms.{accepts_program}
use Rattle.argos_grammar.proofs.machine_laws.programs_are_taken.Goals as goal

pub returns : goal.returns
returns c = accepts_program
