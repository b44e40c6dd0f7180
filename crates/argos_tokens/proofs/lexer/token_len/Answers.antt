use Rattle.std.proofs.Common.{sym, ◌∙◌}
use Rattle.argos_tokens.proofs.TokenFronts.{word_front, digits_front}
use Rattle.argos_tokens.proofs.lexer.token_len.Goals as goal

pub returns-then-is_letter : goal.returns-then-is_letter
returns-then-is_letter c = word_front _ _ _ _ c.in_ok-first.ensures.cases.0 (sym c.is_letter.ensures ∙ c.if-is_letter.true) c.word_len.ensures

pub returns-then-is_ascii_digit : goal.returns-then-is_ascii_digit
returns-then-is_ascii_digit c = digits_front _ _ _ _ c.in_ok-first.ensures.cases.0 (sym c.is_ascii_digit.ensures.value ∙ c.if-is_ascii_digit.true) c.digits_len.ensures
