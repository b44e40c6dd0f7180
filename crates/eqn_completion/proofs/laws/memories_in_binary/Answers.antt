use Rattle.eqn_completion.proofs.CodeDigits.{digits_by_division}
use Rattle.eqn_completion.proofs.Ordering.{cases_in_order, memory-binary, fits-memory, binary-memory}
use Rattle.eqn_completion.proofs.laws.memories_in_binary.Goals as goal

pub returns-clause-order : goal.returns-clause-order
returns-clause-order c = cases_in_order

pub returns-clause-memories : goal.returns-clause-memories
returns-clause-memories c = memory-binary

pub returns-clause-digits : goal.returns-clause-digits
returns-clause-digits c = λ widths bits h. (fits-memory widths bits h, binary-memory widths bits h)

pub returns-clause-places : goal.returns-clause-places
returns-clause-places c = digits_by_division
