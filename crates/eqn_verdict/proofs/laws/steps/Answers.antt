use Rattle.eqn_verdict.proofs.Steps.{exists_is_some, least_is_first, none_is_false, pinned_is_false, least_digit, partly_next, roots_are_least}
use Rattle.eqn_verdict.proofs.laws.steps.Goals as goal

pub returns-clause-exists : goal.returns-clause-exists
returns-clause-exists c = exists_is_some

pub returns-clause-first : goal.returns-clause-first
returns-clause-first c = least_is_first

pub returns-clause-none : goal.returns-clause-none
returns-clause-none c = none_is_false

pub returns-clause-pinned : goal.returns-clause-pinned
returns-clause-pinned c = pinned_is_false

pub returns-clause-digit : goal.returns-clause-digit
returns-clause-digit c = least_digit

pub returns-clause-next : goal.returns-clause-next
returns-clause-next c = partly_next

pub returns-clause-roots : goal.returns-clause-roots
returns-clause-roots c = roots_are_least
