-- Numbers read digit by digit, and written.
use Rattle.std.proofs.Common.{◌≡◌, ℕ, ◌+◌, ◌-◌, ◌*◌, ◌<◌, List, [], ◌∷◌, true, length, take, get_or, min, refl, ap, ◌∙◌, arith}
use Rattle.std.specs.List.{list_all}
use Rattle.std.specs.Char.{is_ascii_digit}
use Rattle.std.proofs.lemmas.Grind.{common_steps}
use Rattle.std.proofs.lemmas.List.{take_more}
use Rattle.std.proofs.lemmas.List.Folds.{list_all-append}
use Rattle.argos_base.specs.Spelling.{number_of}
use Rattle.argos_base.proofs.Bools.{and_both}
use Rattle.line_format.proofs.Numbers.{value_more, decimal-numeral}

pub number_more : (bs : List ℕ) (i : ℕ) → i < length bs → number_of (take (i + 1) bs) ≡ 10 * number_of (take i bs) + (get_or bs i 0 - 48)
number_more bs i h = ap number_of (take_more bs i 0 h) ∙ value_more 0 (take i bs) (get_or bs i 0)

pub digits_more : (bs : List ℕ) (i : ℕ) → i < length bs → list_all is_ascii_digit (take i bs) ≡ true → is_ascii_digit (get_or bs i 0) ≡ true → list_all is_ascii_digit (take (i + 1) bs) ≡ true
digits_more bs i h e f = ap (list_all is_ascii_digit) (take_more bs i 0 h) ∙ list_all-append is_ascii_digit (take i bs) (get_or bs i 0 ∷ []) ∙ and_both _ _ e (and_both (is_ascii_digit (get_or bs i 0)) true f refl)

pub saturates : (x m d v : ℕ) → v ≡ min x m → min (min (v * 10) m + d) m ≡ min (10 * x + d) m
saturates x m d v h = omega arith

pub ruleset digits = (common_steps, number_more, digits_more, saturates, decimal-numeral)
