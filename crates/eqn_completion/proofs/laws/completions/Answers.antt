use Rattle.eqn_completion.proofs.Codes.{completions_have_codes}
use Rattle.eqn_completion.proofs.Completing.{completes_once, solutions_complete, completions_follow_lines, given_are_read}
use Rattle.eqn_completion.proofs.laws.completions.Goals as goal

pub returns-clause-once : goal.returns-clause-once
returns-clause-once c = completes_once

pub returns-clause-solutions : goal.returns-clause-solutions
returns-clause-solutions c = solutions_complete

pub returns-clause-lines : goal.returns-clause-lines
returns-clause-lines c = completions_follow_lines

pub returns-clause-given : goal.returns-clause-given
returns-clause-given c = given_are_read

pub returns-clause-codes : goal.returns-clause-codes
returns-clause-codes c = completions_have_codes
