use Rattle.argos_examples.proofs.Apart.{token_ring_is_program}
use Rattle.argos_examples.proofs.GoodPrograms.{no_reaction_is_program, mutual_support_is_program}
use Rattle.argos_examples.proofs.good.examples_with_locals_are_programs.Goals as goal

pub returns-clause-no_reaction : goal.returns-clause-no_reaction
returns-clause-no_reaction c = no_reaction_is_program

pub returns-clause-mutual_support : goal.returns-clause-mutual_support
returns-clause-mutual_support c = mutual_support_is_program

pub returns-clause-token_ring : goal.returns-clause-token_ring
returns-clause-token_ring c = token_ring_is_program
