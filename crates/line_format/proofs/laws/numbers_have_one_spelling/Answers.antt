use Rattle.line_format.proofs.Numbers.{numeral_is_numeral, number_of-numeral, numeral-number_of}
use Rattle.line_format.proofs.laws.numbers_have_one_spelling.Goals as goal

pub returns-clause-spelled : goal.returns-clause-spelled
returns-clause-spelled c = numeral_is_numeral

pub returns-clause-value : goal.returns-clause-value
returns-clause-value c = number_of-numeral

pub returns-clause-only : goal.returns-clause-only
returns-clause-only c = numeral-number_of
