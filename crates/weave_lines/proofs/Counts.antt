-- How many lines, bits and words the parts of a woven system have.
use Rattle.std.proofs.Common.{◌≡◌, ℕ, suc, ◌+◌, ◌*◌, List, [], ◌∷◌, ◌++◌, true, false, refl, ap, ◌∙◌, arith, length, map, length-append}
use Rattle.std.proofs.lemmas.List.{length-map}
use Rattle.std.proofs.Math.Nat.{suc-mul}
use Rattle.argos_base.specs.SignalSets.{SignalSet}
use Rattle.argos_aspects.specs.Aspects.{Seen}
use Rattle.eqn_core.specs.Equations.{Choice, Line, all, any, within, digit, choose, bits_of_line, words_of_line, bit_lines, word_lines, line_weight, lines_weight, Equations}
use Rattle.weave_lines.specs.WovenLines.{placed, moved_literal, moved_case, moved_line, copied, Words, together, along, moved_on, constants, seen_bits, output_lines, next_lines, bits_together, words_together}

pub bits-append : (xs ys : List Line) → bit_lines (xs ++ ys) ≡ bit_lines xs + bit_lines ys
bits-append [] ys = omega arith
bits-append (x ∷ xs) ys = omega (arith, bits-append xs ys)

pub words-append : (xs ys : List Line) → word_lines (xs ++ ys) ≡ word_lines xs + word_lines ys
words-append [] ys = omega arith
words-append (x ∷ xs) ys = omega (arith, words-append xs ys)

pub weight-append : (xs ys : List Line) → lines_weight (xs ++ ys) ≡ lines_weight xs + lines_weight ys
weight-append [] ys = omega arith
weight-append (x ∷ xs) ys = omega (arith, weight-append xs ys)

-- a moved line has the same bits, words and weight
module _ (bit place : ℕ → ℕ) where
  pub bits-line : (l : Line) → bits_of_line (moved_line bit place l) ≡ bits_of_line l
  bits-line (all ls) = refl
  bits-line (any ls) = refl
  bits-line (within k lo hi) = refl
  bits-line (digit k d) = refl
  bits-line (choose cases other) = refl

  pub words-line : (l : Line) → words_of_line (moved_line bit place l) ≡ words_of_line l
  words-line (all ls) = refl
  words-line (any ls) = refl
  words-line (within k lo hi) = refl
  words-line (digit k d) = refl
  words-line (choose cases other) = refl

  pub weight-line : (l : Line) → line_weight (moved_line bit place l) ≡ line_weight l
  weight-line (all ls) = ap (λ (n : ℕ). 1 + n) (length-map ls (moved_literal bit))
  weight-line (any ls) = ap (λ (n : ℕ). 1 + n) (length-map ls (moved_literal bit))
  weight-line (within k lo hi) = refl
  weight-line (digit k d) = refl
  weight-line (choose cases other) = ap (λ (n : ℕ). 1 + n) (length-map cases (moved_case bit place))

  pub bits-moved : (ls : List Line) → bit_lines (map (moved_line bit place) ls) ≡ bit_lines ls
  bits-moved [] = refl
  bits-moved (l ∷ ls) = omega (arith, bits-line l, bits-moved ls)

  pub words-moved : (ls : List Line) → word_lines (map (moved_line bit place) ls) ≡ word_lines ls
  words-moved [] = refl
  words-moved (l ∷ ls) = omega (arith, words-line l, words-moved ls)

  pub weight-moved : (ls : List Line) → lines_weight (map (moved_line bit place) ls) ≡ lines_weight ls
  weight-moved [] = refl
  weight-moved (l ∷ ls) = omega (arith, weight-line l, weight-moved ls)

-- the lines that join
pub length-outputs : (join : ℕ) (outs : SignalSet) (bits : List ℕ) → length outs ≡ length bits → length (output_lines join outs bits) ≡ length bits
length-outputs join [] [] e = refl
length-outputs join [] (b ∷ bits) e = absurd (omega arith)
length-outputs join (x ∷ outs) [] e = absurd (omega arith)
length-outputs join (x ∷ outs) (b ∷ bits) e = omega (arith, length-outputs join outs bits (omega arith))

pub bits-outputs : (join : ℕ) (outs : SignalSet) (bits : List ℕ) → length outs ≡ length bits → bit_lines (output_lines join outs bits) ≡ length bits
bits-outputs join [] [] e = refl
bits-outputs join [] (b ∷ bits) e = absurd (omega arith)
bits-outputs join (x ∷ outs) [] e = absurd (omega arith)
bits-outputs join (true ∷ outs) (b ∷ bits) e = omega (arith, bits-outputs join outs bits (omega arith))
bits-outputs join (false ∷ outs) (b ∷ bits) e = omega (arith, bits-outputs join outs bits (omega arith))

pub words-outputs : (join : ℕ) (outs : SignalSet) (bits : List ℕ) → word_lines (output_lines join outs bits) ≡ 0
words-outputs join [] bits = refl
words-outputs join (x ∷ outs) [] = refl
words-outputs join (true ∷ outs) (b ∷ bits) = omega (arith, words-outputs join outs bits)
words-outputs join (false ∷ outs) (b ∷ bits) = omega (arith, words-outputs join outs bits)

pub weight-outputs : (join : ℕ) (outs : SignalSet) (bits : List ℕ) → length outs ≡ length bits → lines_weight (output_lines join outs bits) ≡ 3 * length bits
weight-outputs join [] [] e = refl
weight-outputs join [] (b ∷ bits) e = absurd (omega arith)
weight-outputs join (x ∷ outs) [] e = absurd (omega arith)
weight-outputs join (true ∷ outs) (b ∷ bits) e = omega (arith, weight-outputs join outs bits (omega arith))
weight-outputs join (false ∷ outs) (b ∷ bits) e = omega (arith, weight-outputs join outs bits (omega arith))

pub length-next : (join : ℕ) (choices : List Choice) (words : List ℕ) → length choices ≡ length words → length (next_lines join choices words) ≡ length words
length-next join [] [] e = refl
length-next join [] (w ∷ words) e = absurd (omega arith)
length-next join (c ∷ choices) [] e = absurd (omega arith)
length-next join (c ∷ choices) (w ∷ words) e = omega (arith, length-next join choices words (omega arith))

pub bits-next : (join : ℕ) (choices : List Choice) (words : List ℕ) → bit_lines (next_lines join choices words) ≡ 0
bits-next join [] words = refl
bits-next join (c ∷ choices) [] = refl
bits-next join (c ∷ choices) (w ∷ words) = omega (arith, bits-next join choices words)

pub words-next : (join : ℕ) (choices : List Choice) (words : List ℕ) → length choices ≡ length words → word_lines (next_lines join choices words) ≡ length words
words-next join [] [] e = refl
words-next join [] (w ∷ words) e = absurd (omega arith)
words-next join (c ∷ choices) [] e = absurd (omega arith)
words-next join (c ∷ choices) (w ∷ words) e = omega (arith, words-next join choices words (omega arith))

pub weight-next : (join : ℕ) (choices : List Choice) (words : List ℕ) → length choices ≡ length words → lines_weight (next_lines join choices words) ≡ 2 * length words
weight-next join [] [] e = refl
weight-next join [] (w ∷ words) e = absurd (omega arith)
weight-next join (c ∷ choices) [] e = absurd (omega arith)
weight-next join (c ∷ choices) (w ∷ words) e = omega (arith, weight-next join choices words (omega arith))

none : (c : ℕ) → 0 ≡ 0 * c
none c = omega arith

one_more : (n c a b : ℕ) → a ≡ c → b ≡ n * c → a + b ≡ suc n * c
one_more n c a b e f = omega (arith, suc-mul n c)

module _ (W J : Equations) (seen : List Seen) where
  pub length-together : (bits : List ℕ) (x : Words) (b w : ℕ) → length (together W J seen bits x b w) ≡ length W.lines + length J.lines
  length-together bits x b w = length-append (copied W bits b x.base w) (copied J (seen_bits W J seen bits b) (b + bit_lines W.lines) x.observer (w + word_lines W.lines)) ∙ omega (arith, length-map W.lines (moved_line (placed bits b) (placed x.base w)), length-map J.lines (moved_line (placed (seen_bits W J seen bits b) (b + bit_lines W.lines)) (placed x.observer (w + word_lines W.lines))))

  pub bits-together : (bits : List ℕ) (x : Words) (b w : ℕ) → bit_lines (together W J seen bits x b w) ≡ bits_together W J
  bits-together bits x b w = bits-append (copied W bits b x.base w) (copied J (seen_bits W J seen bits b) (b + bit_lines W.lines) x.observer (w + word_lines W.lines)) ∙ omega (arith, bits-moved (placed bits b) (placed x.base w) W.lines, bits-moved (placed (seen_bits W J seen bits b) (b + bit_lines W.lines)) (placed x.observer (w + word_lines W.lines)) J.lines)

  pub words-together : (bits : List ℕ) (x : Words) (b w : ℕ) → word_lines (together W J seen bits x b w) ≡ words_together W J
  words-together bits x b w = words-append (copied W bits b x.base w) (copied J (seen_bits W J seen bits b) (b + bit_lines W.lines) x.observer (w + word_lines W.lines)) ∙ omega (arith, words-moved (placed bits b) (placed x.base w) W.lines, words-moved (placed (seen_bits W J seen bits b) (b + bit_lines W.lines)) (placed x.observer (w + word_lines W.lines)) J.lines)

  pub weight-together : (bits : List ℕ) (x : Words) (b w : ℕ) → lines_weight (together W J seen bits x b w) ≡ lines_weight W.lines + lines_weight J.lines
  weight-together bits x b w = weight-append (copied W bits b x.base w) (copied J (seen_bits W J seen bits b) (b + bit_lines W.lines) x.observer (w + word_lines W.lines)) ∙ omega (arith, weight-moved (placed bits b) (placed x.base w) W.lines, weight-moved (placed (seen_bits W J seen bits b) (b + bit_lines W.lines)) (placed x.observer (w + word_lines W.lines)) J.lines)

  pub length-along : (one : ℕ) (trace : List SignalSet) (x : Words) (b w : ℕ) → length (along W J seen one trace x b w) ≡ length trace * (length W.lines + length J.lines)
  length-along one [] x b w = none _
  length-along one (v ∷ trace) x b w = length-append (together W J seen (constants one v) x b w) (along W J seen one trace (moved_on W J x w) (b + bits_together W J) (w + words_together W J)) ∙ one_more (length trace) _ _ _ (length-together (constants one v) x b w) (length-along one trace (moved_on W J x w) (b + bits_together W J) (w + words_together W J))

  pub bits-along : (one : ℕ) (trace : List SignalSet) (x : Words) (b w : ℕ) → bit_lines (along W J seen one trace x b w) ≡ length trace * bits_together W J
  bits-along one [] x b w = none _
  bits-along one (v ∷ trace) x b w = bits-append (together W J seen (constants one v) x b w) (along W J seen one trace (moved_on W J x w) (b + bits_together W J) (w + words_together W J)) ∙ one_more (length trace) _ _ _ (bits-together (constants one v) x b w) (bits-along one trace (moved_on W J x w) (b + bits_together W J) (w + words_together W J))

  pub words-along : (one : ℕ) (trace : List SignalSet) (x : Words) (b w : ℕ) → word_lines (along W J seen one trace x b w) ≡ length trace * words_together W J
  words-along one [] x b w = none _
  words-along one (v ∷ trace) x b w = words-append (together W J seen (constants one v) x b w) (along W J seen one trace (moved_on W J x w) (b + bits_together W J) (w + words_together W J)) ∙ one_more (length trace) _ _ _ (words-together (constants one v) x b w) (words-along one trace (moved_on W J x w) (b + bits_together W J) (w + words_together W J))

  pub weight-along : (one : ℕ) (trace : List SignalSet) (x : Words) (b w : ℕ) → lines_weight (along W J seen one trace x b w) ≡ length trace * (lines_weight W.lines + lines_weight J.lines)
  weight-along one [] x b w = none _
  weight-along one (v ∷ trace) x b w = weight-append (together W J seen (constants one v) x b w) (along W J seen one trace (moved_on W J x w) (b + bits_together W J) (w + words_together W J)) ∙ one_more (length trace) _ _ _ (weight-together (constants one v) x b w) (weight-along one trace (moved_on W J x w) (b + bits_together W J) (w + words_together W J))
