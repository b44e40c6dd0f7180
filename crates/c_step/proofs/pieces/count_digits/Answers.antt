use Rattle.std.proofs.Common.{refl, sym}
use Rattle.c_step.proofs.PieceSteps.{digits_here, digits_behind, all_digits, no_digits_behind}
use Rattle.c_step.proofs.pieces.count_digits.Goals as goal

pub returns-then-not-is_ascii_digit-clause-digits : goal.returns-then-not-is_ascii_digit-clause-digits
returns-then-not-is_ascii_digit-clause-digits c = digits_here c.args.bytes.now c.loop-count.count 0 c.loop-count-test.true c.loop-count.invariant (sym c.if-not-is_ascii_digit.ensures.value)

pub returns-then-not-is_ascii_digit-clause-rest : goal.returns-then-not-is_ascii_digit-clause-rest
returns-then-not-is_ascii_digit-clause-rest c = digits_behind c.args.bytes.now c.loop-count.count 0 c.loop-count-test.true c.loop-count.invariant (sym c.if-not-is_ascii_digit.ensures.value)

pub returns-clause-digits : goal.returns-clause-digits
returns-clause-digits c = all_digits c.args.bytes.now c.loop-count.count _ c.loop-count-test.false refl c.loop-count.invariant

pub returns-clause-rest : goal.returns-clause-rest
returns-clause-rest c = no_digits_behind c.args.bytes.now c.loop-count.count _ c.loop-count-test.false refl c.loop-count.invariant
