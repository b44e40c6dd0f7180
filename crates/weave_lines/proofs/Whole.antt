-- The whole woven system: how many lines it has, where its parts stand, and that it is ordered.
use Rattle.std.proofs.Common.{◌≡◌, ℕ, ◌+◌, ◌*◌, ◌≤◌, List, [], ◌∷◌, ◌++◌, IsTrue, refl, sym, ap, ◌∙◌, arith, length, length-append}
use Rattle.std.proofs.lemmas.List.{length-map}
use Rattle.argos_base.specs.SignalSets.{SignalSet}
use Rattle.argos_aspects.specs.Aspects.{Seen, Advice, Onset, to_initial, to_current, AreSized}
use Rattle.argos_aspects.specs.Weaving.{unrolled}
use Rattle.eqn_core.specs.Equations.{Choice, code, word, Line, Equations, registers, bit_lines, word_lines, bit_count, word_count, lines_weight}
use Rattle.eqn_core.specs.Ordered.{all_below, IsOrdered}
use Rattle.eqn_core.specs.inner.OrderTest.{lines_in_order}
use Rattle.eqn_core.proofs.InOrder.{EachReadsEarlier-from_walk}
use Rattle.weave_lines.specs.Systems.{MoveAlong, AreAdvised}
use Rattle.weave_lines.specs.WovenLines.{placed, output_lines, next_lines, base_outputs, together, bits_together, words_together, along, behind, input_bits, register_words, copies, first_bit, first_word, output_bit, next_word, join, ordinary, advised_choices, woven_lines, woven_equations}
use Rattle.weave_lines.proofs.Copies.{all_below-AllBelow}
use Rattle.weave_lines.proofs.Counts.{bits-append, words-append, weight-append, length-outputs, bits-outputs, words-outputs, weight-outputs, length-next, bits-next, words-next, weight-next, length-together, bits-together, words-together, weight-together, length-along, bits-along, words-along, weight-along}
use Rattle.weave_lines.proofs.Ordering.{walk_from, behind_first, outputs_in_order, AreChoices, next_in_order, code-choices, word-choices, between-range, range_below, all_below-append, WordsIn, join_below, outs_below, moved_on_in, behind_in, together_in_order, along_in_order}
use Rattle.weave_lines.proofs.Reading.{AllBelow, below-more, below-append, below-range, length-range}

pub unrolled-sized : (n : ℕ) (onset : Onset) (trace : List SignalSet) → AreSized n trace → AreSized n (unrolled onset trace)
unrolled-sized n to_initial trace h = tt
unrolled-sized n to_current trace h = h

-- memories keep their sizes
moves-sized : (W J : Equations) (seen : List Seen) (trace : List SignalSet) (m n m' n' : List ℕ) → IsOrdered W → IsOrdered J → length m ≡ registers W → length n ≡ registers J → MoveAlong W J seen m n trace m' n' → (length m' ≡ registers W) × (length n' ≡ registers J)
moves-sized W J seen [] m n m' n' hw hj em en h = (ap length h.0 ∙ em, ap length h.1 ∙ en)
moves-sized W J seen (v ∷ trace) m n m' n' hw hj em en h = moves-sized W J seen trace h.2 h.3 m' n' hw hj (ap length h.4.next ∙ length-map W.next _ ∙ hw.next_sized) (ap length h.5.next ∙ length-map J.next _ ∙ hj.next_sized) h.6

module _ (W J : Equations) (seen : List Seen) (A : Advice) (w_ordered : IsOrdered W) (j_ordered : IsOrdered J) (seen_sized : length seen ≡ J.inputs) (one_output : length J.outputs ≡ 1) (outs_sized : length A.outs ≡ length W.outputs) (trace_sized : AreSized W.inputs A.trace) (memories : List ℕ) (advised : AreAdvised W J seen A A.onset memories) (codes : IsTrue (all_below 65536 memories)) where
  bits_sized : length (input_bits W J) ≡ W.inputs
  bits_sized = length-range 0 W.inputs

  bits_below : AllBelow (first_bit W J) (input_bits W J)
  bits_below = below-range 0 W.inputs (W.inputs + 2) (omega arith)

  pub registers_in : WordsIn W J seen w_ordered j_ordered seen_sized one_output (register_words W J) (first_word W J)
  registers_in = record {
    base_sized = length-range 0 (registers W);
    observer_sized = length-range (registers W) (registers J);
    base_below = below-range 0 (registers W) (registers W + registers J) (omega arith);
    observer_below = below-range (registers W) (registers J) (registers W + registers J) (omega arith);
  }

  ordinary_in : WordsIn W J seen w_ordered j_ordered seen_sized one_output (ordinary W J) (first_word W J + words_together W J)
  ordinary_in = moved_on_in W J seen w_ordered j_ordered seen_sized one_output (register_words W J) (first_word W J) registers_in

  registers_later : WordsIn W J seen w_ordered j_ordered seen_sized one_output (register_words W J) (first_word W J + words_together W J)
  registers_later = record {
    base_sized = registers_in.base_sized;
    observer_sized = registers_in.observer_sized;
    base_below = below-more _ (first_word W J) _ (omega arith) registers_in.base_below;
    observer_below = below-more _ (first_word W J) _ (omega arith) registers_in.observer_below;
  }

  behind_all : WordsIn W J seen w_ordered j_ordered seen_sized one_output (behind W J (copies W J seen A) (register_words W J) (first_word W J + words_together W J)) (next_word W J seen A)
  behind_all = behind_in W J seen w_ordered j_ordered seen_sized one_output (copies W J seen A) (register_words W J) (first_word W J + words_together W J) registers_later

  choices_sized : (onset : Onset) → AreAdvised W J seen A onset memories → length (advised_choices W J seen A onset memories) ≡ registers W + registers J
  choices_sized to_initial h =
      let sized = moves-sized W J seen A.trace W.initial J.initial h.base h.observer w_ordered j_ordered refl refl h.moves in
      length-map memories code ∙ ap length h.are ∙ length-append h.base h.observer ∙ omega (arith, sized.0, sized.1)
  choices_sized to_current h =
      let x = behind W J (copies W J seen A) (register_words W J) (first_word W J + words_together W J) in
      length-map (x.base ++ x.observer) word ∙ length-append x.base x.observer ∙ omega (arith, behind_all.base_sized, behind_all.observer_sized)

  choices_are : (onset : Onset) → AreChoices (next_word W J seen A) (advised_choices W J seen A onset memories)
  choices_are to_initial = code-choices (next_word W J seen A) memories (all_below-AllBelow 65536 memories codes)
  choices_are to_current =
      let x = behind W J (copies W J seen A) (register_words W J) (first_word W J + words_together W J) in
      word-choices (next_word W J seen A) (x.base ++ x.observer) (below-append x.base x.observer (next_word W J seen A) behind_all.base_below behind_all.observer_below)

  abbrev pub choices : List Choice
  choices = advised_choices W J seen A A.onset memories

  abbrev pub words : List ℕ
  words = (ordinary W J).base ++ (ordinary W J).observer

  abbrev pub outs : List ℕ
  outs = base_outputs W J (input_bits W J) (first_bit W J)

  pub words_sized : length words ≡ registers W + registers J
  words_sized = length-append (ordinary W J).base (ordinary W J).observer ∙ omega (arith, ordinary_in.base_sized, ordinary_in.observer_sized)

  pub same_sized : length choices ≡ length words
  same_sized = choices_sized A.onset advised ∙ sym words_sized

  pub outs_same : length A.outs ≡ length outs
  outs_same = outs_sized ∙ sym (length-map W.outputs _)

  -- the four parts behind the constants
  abbrev pub part1 : List Line
  part1 = together W J seen (input_bits W J) (register_words W J) (first_bit W J) (first_word W J)

  abbrev pub part2 : List Line
  part2 = along W J seen W.inputs (copies W J seen A) (register_words W J) (first_bit W J + bits_together W J) (first_word W J + words_together W J)

  abbrev pub part3 : List Line
  part3 = output_lines (join W J seen) A.outs outs

  abbrev pub part4 : List Line
  part4 = next_lines (join W J seen) choices words

  k : ℕ
  k = length (copies W J seen A)

  -- their bits, words, lines and weight
  pub bits-woven : bit_lines (woven_lines W J seen A memories) ≡ 2 + (bits_together W J + (length (copies W J seen A) * bits_together W J + length W.outputs))
  bits-woven = omega (
    arith,
    bits-append part1 (part2 ++ (part3 ++ part4)),
    bits-append part2 (part3 ++ part4),
    bits-append part3 part4,
    bits-together W J seen (input_bits W J) (register_words W J) (first_bit W J) (first_word W J),
    bits-along W J seen W.inputs (copies W J seen A) (register_words W J) (first_bit W J + bits_together W J) (first_word W J + words_together W J),
    bits-outputs (join W J seen) A.outs outs outs_same,
    bits-next (join W J seen) choices words,
    length-map W.outputs (placed (input_bits W J) (first_bit W J)),
  )

  pub words-woven : word_lines (woven_lines W J seen A memories) ≡ words_together W J + (length (copies W J seen A) * words_together W J + (registers W + registers J))
  words-woven = omega (
    arith,
    words-append part1 (part2 ++ (part3 ++ part4)),
    words-append part2 (part3 ++ part4),
    words-append part3 part4,
    words-together W J seen (input_bits W J) (register_words W J) (first_bit W J) (first_word W J),
    words-along W J seen W.inputs (copies W J seen A) (register_words W J) (first_bit W J + bits_together W J) (first_word W J + words_together W J),
    words-outputs (join W J seen) A.outs outs,
    words-next (join W J seen) choices words same_sized,
    words_sized,
  )

  pub length-woven : length (woven_lines W J seen A memories) ≡ 2 + (length W.lines + length J.lines + (length (copies W J seen A) * (length W.lines + length J.lines) + (length W.outputs + (registers W + registers J))))
  length-woven = omega (
    arith,
    length-append part1 (part2 ++ (part3 ++ part4)),
    length-append part2 (part3 ++ part4),
    length-append part3 part4,
    length-together W J seen (input_bits W J) (register_words W J) (first_bit W J) (first_word W J),
    length-along W J seen W.inputs (copies W J seen A) (register_words W J) (first_bit W J + bits_together W J) (first_word W J + words_together W J),
    length-outputs (join W J seen) A.outs outs outs_same,
    length-next (join W J seen) choices words same_sized,
    length-map W.outputs (placed (input_bits W J) (first_bit W J)),
    words_sized,
  )

  pub weight-woven : lines_weight (woven_lines W J seen A memories) ≡ 2 + (lines_weight W.lines + lines_weight J.lines + (length (copies W J seen A) * (lines_weight W.lines + lines_weight J.lines) + (3 * length W.outputs + 2 * (registers W + registers J))))
  weight-woven = omega (
    arith,
    weight-append part1 (part2 ++ (part3 ++ part4)),
    weight-append part2 (part3 ++ part4),
    weight-append part3 part4,
    weight-together W J seen (input_bits W J) (register_words W J) (first_bit W J) (first_word W J),
    weight-along W J seen W.inputs (copies W J seen A) (register_words W J) (first_bit W J + bits_together W J) (first_word W J + words_together W J),
    weight-outputs (join W J seen) A.outs outs outs_same,
    weight-next (join W J seen) choices words same_sized,
    length-map W.outputs (placed (input_bits W J) (first_bit W J)),
    words_sized,
  )

  -- they are in order
  in_order4 : IsTrue (lines_in_order (output_bit W J seen A + length W.outputs) (next_word W J seen A) part4)
  in_order4 =
      let below = join_below W J seen w_ordered j_ordered seen_sized one_output (input_bits W J) (first_bit W J) (omega arith) bits_sized bits_below in
      next_in_order (join W J seen) choices words (output_bit W J seen A + length W.outputs) (next_word W J seen A) (omega (arith, below)) (choices_are A.onset)
      (below-append (ordinary W J).base (ordinary W J).observer (next_word W J seen A) (below-more _ (first_word W J + words_together W J) _ (omega arith) ordinary_in.base_below) (below-more _ (first_word W J + words_together W J) _ (omega arith) ordinary_in.observer_below))

  in_order3 : IsTrue (lines_in_order (output_bit W J seen A) (next_word W J seen A) (part3 ++ part4))
  in_order3 =
      let below = join_below W J seen w_ordered j_ordered seen_sized one_output (input_bits W J) (first_bit W J) (omega arith) bits_sized bits_below in
      behind_first part3 part4 (output_bit W J seen A) (next_word W J seen A) (length W.outputs) 0 (bits-outputs (join W J seen) A.outs outs outs_same ∙ length-map W.outputs _) (words-outputs (join W J seen) A.outs outs)
      (outputs_in_order (join W J seen) A.outs outs (output_bit W J seen A) (next_word W J seen A) (omega (arith, below)) (below-more outs (first_bit W J + bit_lines W.lines) (output_bit W J seen A) (omega arith) (outs_below W J seen w_ordered j_ordered seen_sized one_output (input_bits W J) (first_bit W J) bits_sized bits_below)))
      (walk_from (output_bit W J seen A + length W.outputs) _ (next_word W J seen A) (next_word W J seen A + 0) part4 refl (omega arith) in_order4)

  in_order2 : IsTrue (lines_in_order (first_bit W J + bits_together W J) (first_word W J + words_together W J) (part2 ++ (part3 ++ part4)))
  in_order2 =
      behind_first part2 (part3 ++ part4) (first_bit W J + bits_together W J) (first_word W J + words_together W J) (length (copies W J seen A) * bits_together W J) (length (copies W J seen A) * words_together W J)
      (bits-along W J seen W.inputs (copies W J seen A) (register_words W J) (first_bit W J + bits_together W J) (first_word W J + words_together W J))
      (words-along W J seen W.inputs (copies W J seen A) (register_words W J) (first_bit W J + bits_together W J) (first_word W J + words_together W J))
      (along_in_order W J seen w_ordered j_ordered seen_sized one_output W.inputs (copies W J seen A) (register_words W J) (first_bit W J + bits_together W J) (first_word W J + words_together W J) (omega arith) (unrolled-sized W.inputs A.onset A.trace trace_sized) registers_later)
      in_order3

  in_order1 : IsTrue (lines_in_order (first_bit W J) (first_word W J) (part1 ++ (part2 ++ (part3 ++ part4))))
  in_order1 =
      behind_first part1 (part2 ++ (part3 ++ part4)) (first_bit W J) (first_word W J) (bits_together W J) (words_together W J)
      (bits-together W J seen (input_bits W J) (register_words W J) (first_bit W J) (first_word W J))
      (words-together W J seen (input_bits W J) (register_words W J) (first_bit W J) (first_word W J))
      (together_in_order W J seen w_ordered j_ordered seen_sized one_output (input_bits W J) (register_words W J) (first_bit W J) (first_word W J) (omega arith) bits_sized bits_below registers_in)
      in_order2

  woven_in_order : IsTrue (lines_in_order W.inputs (registers W + registers J) (woven_lines W J seen A memories))
  woven_in_order = walk_from (first_bit W J) (W.inputs + 1 + 1) (first_word W J) (registers W + registers J + 0 + 0) (part1 ++ (part2 ++ (part3 ++ part4))) (omega arith) (omega arith) in_order1

  pub registers-woven : registers (woven_equations W J seen A memories) ≡ registers W + registers J
  registers-woven = length-append W.initial J.initial

  pub woven_is_ordered : registers W + registers J ≤ 100000 → length (woven_lines W J seen A memories) ≤ 100000000 → IsOrdered (woven_equations W J seen A memories)
  woven_is_ordered few short = record {
    some_register = omega (arith, registers-woven, w_ordered.some_register);
    register_limit = omega (arith, registers-woven);
    input_limit = w_ordered.input_limit;
    output_limit = omega (arith, length-range (output_bit W J seen A) (length W.outputs), w_ordered.output_limit);
    line_limit = short;
    codes = all_below-append 65536 W.initial J.initial w_ordered.codes j_ordered.codes;
    each = EachReadsEarlier-from_walk W.inputs (registers (woven_equations W J seen A memories)) (woven_lines W J seen A memories) (walk_from W.inputs W.inputs (registers W + registers J) (registers (woven_equations W J seen A memories)) (woven_lines W J seen A memories) refl (sym registers-woven) woven_in_order);
    next_sized = length-range (next_word W J seen A) (registers W + registers J) ∙ sym registers-woven;
    next_exist = between-range (registers (woven_equations W J seen A memories)) (next_word W J seen A) (registers W + registers J) (word_count (woven_equations W J seen A memories)) (omega (arith, registers-woven)) (omega (arith, registers-woven, words-woven));
    outputs_exist = range_below (output_bit W J seen A) (length W.outputs) (bit_count (woven_equations W J seen A memories)) (omega (arith, bits-woven));
    no_locals = refl;
  }
