-- How many bits and words lines define, and how much they weigh.
use Rattle.std.proofs.Common.{◌≡◌, ◌+◌, List, [], ◌∷◌, ◌++◌, refl, arith}
use Rattle.std.proofs.lemmas.List.{length-map}
use Rattle.eqn_core.specs.Equations.{Line, all, any, within, digit, choose, bits_of_line, words_of_line, bit_lines, word_lines, line_weight, lines_weight}
use Rattle.eqn_completion.specs.Moving.{Table, moved_literal, moved_case, moved_line}

pub bits-append : (xs ys : List Line) → bit_lines (xs ++ ys) ≡ bit_lines xs + bit_lines ys
bits-append [] ys = omega arith
bits-append (l ∷ xs) ys = omega (arith, bits-append xs ys)

pub words-append : (xs ys : List Line) → word_lines (xs ++ ys) ≡ word_lines xs + word_lines ys
words-append [] ys = omega arith
words-append (l ∷ xs) ys = omega (arith, words-append xs ys)

pub weight-append : (xs ys : List Line) → lines_weight (xs ++ ys) ≡ lines_weight xs + lines_weight ys
weight-append [] ys = omega arith
weight-append (l ∷ xs) ys = omega (arith, weight-append xs ys)

pub bits-moved : (b w : Table) (l : Line) → bits_of_line (moved_line b w l) ≡ bits_of_line l
bits-moved b w (all ls) = refl
bits-moved b w (any ls) = refl
bits-moved b w (within k lo hi) = refl
bits-moved b w (digit k place) = refl
bits-moved b w (choose cases other) = refl

pub words-moved : (b w : Table) (l : Line) → words_of_line (moved_line b w l) ≡ words_of_line l
words-moved b w (all ls) = refl
words-moved b w (any ls) = refl
words-moved b w (within k lo hi) = refl
words-moved b w (digit k place) = refl
words-moved b w (choose cases other) = refl

pub weight-moved : (b w : Table) (l : Line) → line_weight (moved_line b w l) ≡ line_weight l
weight-moved b w (all ls) = omega (arith, length-map ls (moved_literal b))
weight-moved b w (any ls) = omega (arith, length-map ls (moved_literal b))
weight-moved b w (within k lo hi) = refl
weight-moved b w (digit k place) = refl
weight-moved b w (choose cases other) = omega (arith, length-map cases (moved_case b w))
