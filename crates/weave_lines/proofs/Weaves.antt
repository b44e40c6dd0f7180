-- The woven system reacts as the woven program does.
use Rattle.std.specs.Prelude.{flat_map}
use Rattle.std.proofs.Common.{◌≡◌, ℕ, suc, ◌+◌, ◌*◌, List, [], ◌∷◌, ◌++◌, true, false, refl, sym, ap, ◌∙◌, inl, inr, subst, arith, length, map, length-append, IsTrue, append_assoc}
use Rattle.std.proofs.lemmas.List.{length-map}
use Rattle.argos_base.specs.SignalSets.{SignalSet}
use Rattle.argos_core.specs.Codes.{code_of}
use Rattle.argos_core.specs.Configurations.{IsConfiguration}
use Rattle.argos_core.specs.Process.{Configuration, PlainModule}
use Rattle.argos_core.specs.Reactions.{input_count, output_count, initial_of}
use Rattle.argos_core.proofs.StepsStay.{initial_is}
use Rattle.argos_aspects.specs.Aspects.{Aspect, Onset, to_initial, to_current, outputs_by, AreSized}
use Rattle.argos_aspects.specs.Weaving.{WovenConfiguration, alone, watched, Pair, pair, woven_initial, IsWovenConfiguration, woven_code, Reach, start_of, WovenStep, unrolled}
use Rattle.argos_aspects.proofs.WovenOnce.{woven_initial_is, step_input}
use Rattle.eqn_core.specs.Equations.{Choice, Line, Equations, registers}
use Rattle.eqn_core.specs.Laws.{SolvesOnce}
use Rattle.eqn_core.specs.Ordered.{all_below, IsOrdered}
use Rattle.eqn_core.specs.Solutions.{Values, bit_of, word_of, value_of, defined_bits, defined_words, Solves, SystemReacts}
use Rattle.eqn_core.proofs.Once.{solves_once}
use Rattle.weave_lines.specs.Laws.{CanWeave}
use Rattle.weave_lines.specs.Systems.{AreAdvised}
use Rattle.weave_lines.specs.WovenLines.{base_outputs, together, along, output_lines, next_lines, behind, bits_together, words_together, input_bits, register_words, copies, first_bit, first_word, output_bit, next_word, join, ordinary, advised_choices, woven_lines, woven_equations}
use Rattle.weave_lines.proofs.Counts.{bits-together, words-together, bits-along, words-along, bits-outputs, words-outputs}
use Rattle.weave_lines.proofs.JoiningLines.{advised-outputs, ordinary-outputs, advised-words, ordinary-words, from-stretch, map-append, values-codes, values-words}
use Rattle.weave_lines.proofs.Places.{AreAt, at_place, at_left, at_behind, completes_at}
use Rattle.weave_lines.proofs.Reading.{from, map-range}
use Rattle.weave_lines.proofs.Pairs.{AreIn, Hold, registers-base, registers-observer, watch_gives, along_gives, moves_reach}
use Rattle.weave_lines.proofs.Whole.{unrolled-sized, same_sized, words_sized}

one_by : (onset : Onset) (n : ℕ) → n ≡ outputs_by onset → n ≡ 1
one_by to_initial n e = e
one_by to_current n e = e

module _ (P : PlainModule) (before : List Aspect) (A : Aspect) (W J : Equations) (most lines : ℕ) (can : CanWeave P before A W J most lines) where
  pub seen_sized : length A.seen ≡ J.inputs
  seen_sized = can.fit.0.seen_sized ∙ sym can.observer.inputs

  pub one_output : length J.outputs ≡ 1
  one_output = can.observer.outputs ∙ one_by A.advice.onset (output_count A.observer) can.fit.0.observer_outputs

  pub outs_sized : length A.advice.outs ≡ length W.outputs
  outs_sized = can.fit.0.outs_sized ∙ sym can.base.outputs

  pub trace_sized : AreSized W.inputs A.advice.trace
  trace_sized = subst (λ (n : ℕ). AreSized n A.advice.trace) (sym can.base.inputs) can.fit.0.trace_sized

module _ (P : PlainModule) (before : List Aspect) (A : Aspect) (W J : Equations) (most lines : ℕ) (can : CanWeave P before A W J most lines) (memories : List ℕ) (advised : AreAdvised W J A.seen A.advice A.advice.onset memories) (codes : IsTrue (all_below 65536 memories)) where
  abbrev E : Equations
  E = woven_equations W J A.seen A.advice memories

  abbrev outs : List ℕ
  outs = base_outputs W J (input_bits W J) (first_bit W J)

  abbrev choices : List Choice
  choices = advised_choices W J A.seen A.advice A.advice.onset memories

  abbrev words : List ℕ
  words = (ordinary W J).base ++ (ordinary W J).observer

  abbrev part1 : List Line
  part1 = together W J A.seen (input_bits W J) (register_words W J) (first_bit W J) (first_word W J)

  abbrev part2 : List Line
  part2 = along W J A.seen W.inputs (copies W J A.seen A.advice) (register_words W J) (first_bit W J + bits_together W J) (first_word W J + words_together W J)

  abbrev part3 : List Line
  part3 = output_lines (join W J A.seen) A.advice.outs outs

  abbrev part4 : List Line
  part4 = next_lines (join W J A.seen) choices words

  choices_words : length choices ≡ length words
  choices_words = same_sized W J A.seen A.advice can.base.ordered can.observer.ordered (seen_sized P before A W J most lines can) (one_output P before A W J most lines can) (outs_sized P before A W J most lines can) (trace_sized P before A W J most lines can) memories advised codes

  outs_outs : length A.advice.outs ≡ length outs
  outs_outs = outs_sized P before A W J most lines can ∙ sym (length-map W.outputs _)

  -- where the parts of the system stand in a solution
  record Stands (s : Values) : Type 0 where
    one : bit_of s W.inputs ≡ true
    other : bit_of s (W.inputs + 1) ≡ false
    first : AreAt s (first_bit W J) (first_word W J) part1
    later : AreAt s (first_bit W J + bits_together W J) (first_word W J + words_together W J) part2
    outputs : AreAt s (output_bit W J A.seen A.advice) (next_word W J A.seen A.advice) part3
    next : AreAt s (output_bit W J A.seen A.advice + length outs) (next_word W J A.seen A.advice + 0) part4

  stands : (m : List ℕ) (i : SignalSet) (s : Values) → Solves E m i s → Stands s
  stands m i s h =
      let all_at : AreAt s W.inputs (registers W + registers J) (woven_lines W J A.seen A.advice memories) = at_place s (length i) W.inputs (length m) (registers W + registers J) (woven_lines W J A.seen A.advice memories) h.input (h.memory ∙ length-append W.initial J.initial) (completes_at s (woven_lines W J A.seen A.advice memories) i m h.lines.bits h.lines.words) in
      let from1 : AreAt s (first_bit W J) (first_word W J) (part1 ++ (part2 ++ (part3 ++ part4))) = at_place s (suc (suc W.inputs)) (first_bit W J) (registers W + registers J) (first_word W J) (part1 ++ (part2 ++ (part3 ++ part4))) (omega arith) refl all_at.1.1 in
      let from2 : AreAt s (first_bit W J + bits_together W J) (first_word W J + words_together W J) (part2 ++ (part3 ++ part4)) = at_behind s (first_bit W J) (first_word W J) (bits_together W J) (words_together W J) part1 (part2 ++ (part3 ++ part4)) (bits-together W J A.seen (input_bits W J) (register_words W J) (first_bit W J) (first_word W J)) (words-together W J A.seen (input_bits W J) (register_words W J) (first_bit W J) (first_word W J)) from1 in
      let from3 : AreAt s (output_bit W J A.seen A.advice) (next_word W J A.seen A.advice) (part3 ++ part4) = at_behind s (first_bit W J + bits_together W J) (first_word W J + words_together W J) (length (copies W J A.seen A.advice) * bits_together W J) (length (copies W J A.seen A.advice) * words_together W J) part2 (part3 ++ part4) (bits-along W J A.seen W.inputs (copies W J A.seen A.advice) (register_words W J) (first_bit W J + bits_together W J) (first_word W J + words_together W J)) (words-along W J A.seen W.inputs (copies W J A.seen A.advice) (register_words W J) (first_bit W J + bits_together W J) (first_word W J + words_together W J)) from2 in
      let e : suc W.inputs ≡ W.inputs + 1 = omega arith in
      record {
        one = all_at.0;
        other = ap (bit_of s) (sym e) ∙ all_at.1.0;
        first = at_left s (first_bit W J) (first_word W J) part1 (part2 ++ (part3 ++ part4)) from1;
        later = at_left s (first_bit W J + bits_together W J) (first_word W J + words_together W J) part2 (part3 ++ part4) from2;
        outputs = at_left s (output_bit W J A.seen A.advice) (next_word W J A.seen A.advice) part3 part4 from3;
        next = at_behind s (output_bit W J A.seen A.advice) (next_word W J A.seen A.advice) (length outs) 0 part3 part4 (bits-outputs (join W J A.seen) A.advice.outs outs outs_outs) (words-outputs (join W J A.seen) A.advice.outs outs) from3;
      }

  abbrev code_at : WovenConfiguration → Configuration → List ℕ
  code_at w j = woven_code P before w ++ code_of A.observer.process j

  -- its first bits are the input set, and its first words the codes of the pair
  inputs_read : (m : List ℕ) (i : SignalSet) (s : Values) → Solves E m i s → map (bit_of s) (input_bits W J) ≡ i
  inputs_read m i s h =
      map-range (bit_of s) 0 W.inputs
      ∙ ap (λ (n : ℕ). from (bit_of s) 0 n) (sym h.input)
      ∙ from-stretch s.bits [] i (flat_map (defined_bits s) (woven_lines W J A.seen A.advice memories)) false h.lines.bits

  registers_read : (w : WovenConfiguration) (j : Configuration) (i : SignalSet) (s : Values) → IsWovenConfiguration P before w → IsConfiguration A.observer.process j → Solves E (code_at w j) i s → Hold P before A W J can.good can.fit can.base can.observer s (register_words W J) (pair w j)
  registers_read w j i s iw ij h =
      let m = woven_code P before w in
      let n = code_of A.observer.process j in
      let rest = flat_map (defined_words s) (woven_lines W J A.seen A.advice memories) in
      let front : s.words ≡ m ++ (n ++ rest) = h.lines.words ∙ append_assoc m n rest in
      let msized : length m ≡ registers W = registers-base P before A W J can.good can.fit can.base can.observer w iw in
      let nsized : length n ≡ registers J = registers-observer P before A W J can.good can.fit can.base can.observer j ij in
      record {
        base = map-range (word_of s) 0 (registers W) ∙ ap (λ (k : ℕ). from (word_of s) 0 k) (sym msized) ∙ from-stretch s.words [] m (n ++ rest) 0 front;
        observer = map-range (word_of s) (registers W) (registers J) ∙ ap (λ (k : ℕ). from (word_of s) k (registers J)) (sym msized) ∙ ap (λ (k : ℕ). from (word_of s) (length m) k) (sym nsized) ∙ from-stretch s.words m n rest 0 front;
      }

  abbrev start : Pair
  start = pair (woven_initial P before) (initial_of A.observer)

  start_is : AreIn P before A W J can.good can.fit can.base can.observer start
  start_is = (woven_initial_is P before can.good can.fit.1, initial_is A.observer.process can.fit.0.observer.program.is.shaped)

  -- what the advice chooses is the code of the pair that is reached
  reached : (s : Values) (x q : Pair) (onset : Onset) → A.advice.onset ≡ onset → AreAdvised W J A.seen A.advice onset memories → AreIn P before A W J can.good can.fit can.base can.observer x → Stands s → Hold P before A W J can.good can.fit can.base can.observer s (register_words W J) x → Reach A (WovenStep P before) (start_of onset start x) A.advice.trace q
      → map (value_of s) (advised_choices W J A.seen A.advice onset memories) ≡ code_at q.base q.observer
  reached s x q to_initial e h is st hold r =
      let same = moves_reach P before A W J can.good can.fit can.base can.observer A.advice.trace start q W.initial J.initial h.base h.observer start_is can.base.initial can.observer.initial h.moves r in
      values-codes s memories ∙ h.are ∙ ap (λ (l : List ℕ). l ++ h.observer) same.0 ∙ ap (λ (l : List ℕ). woven_code P before q.base ++ l) same.1
  reached s x q to_current e h is st hold r =
      let there : copies W J A.seen A.advice ≡ A.advice.trace = ap (λ (o : Onset). unrolled o A.advice.trace) e in
      let end = behind W J (copies W J A.seen A.advice) (register_words W J) (first_word W J + words_together W J) in
      let route : Reach A (WovenStep P before) x (copies W J A.seen A.advice) q = subst (λ (l : List SignalSet). Reach A (WovenStep P before) x l q) (sym there) r in
      let held = along_gives P before A W J can.good can.fit can.base can.observer s W.inputs st.one st.other (copies W J A.seen A.advice) (register_words W J) (first_bit W J + bits_together W J) (first_word W J + words_together W J) x q is (unrolled-sized (input_count P) A.advice.onset A.advice.trace can.fit.0.trace_sized) st.later hold route in
      values-words s (end.base ++ end.observer) ∙ map-append (word_of s) end.base end.observer ∙ ap (λ (l : List ℕ). l ++ map (word_of s) end.observer) held.base ∙ ap (λ (l : List ℕ). woven_code P before q.base ++ l) held.observer

  outputs_read : (s : Values) (o : SignalSet) → from (bit_of s) (output_bit W J A.seen A.advice) (length outs) ≡ o → o ≡ map (bit_of s) E.outputs
  outputs_read s o e = sym e ∙ ap (λ (n : ℕ). from (bit_of s) (output_bit W J A.seen A.advice) n) (length-map W.outputs _) ∙ sym (map-range (bit_of s) (output_bit W J A.seen A.advice) (length W.outputs))

  next_read : (s : Values) (m : List ℕ) → from (word_of s) (next_word W J A.seen A.advice + 0) (length words) ≡ m → m ≡ map (word_of s) E.next
  next_read s m e =
      let z : next_word W J A.seen A.advice + 0 ≡ next_word W J A.seen A.advice = omega arith in
      sym e ∙ ap (λ (n : ℕ). from (word_of s) n (length words)) z ∙ ap (λ (n : ℕ). from (word_of s) (next_word W J A.seen A.advice) n) (words_sized W J A.seen A.advice can.base.ordered can.observer.ordered (seen_sized P before A W J most lines can) (one_output P before A W J most lines can) (outs_sized P before A W J most lines can) (trace_sized P before A W J most lines can) memories advised codes)
      ∙ sym (map-range (word_of s) (next_word W J A.seen A.advice) (registers W + registers J))

  pub woven_steps : IsOrdered E → (x : WovenConfiguration) (i o : SignalSet) (y : WovenConfiguration) → IsWovenConfiguration P (A ∷ before) x → WovenStep P (A ∷ before) x i o y → SystemReacts E (woven_code P (A ∷ before) x) i o (woven_code P (A ∷ before) y)
  woven_steps ordered (alone c) i o y is h = absurd is
  woven_steps ordered (watched w j) i o (alone c) is h = absurd h
  woven_steps ordered (watched w j) i o (watched w' j') is h =
      let isized : length i ≡ input_count P = step_input P (A ∷ before) (watched w j) i o (watched w' j') h in
      let msized : length (code_at w j) ≡ registers E = length-append (woven_code P before w) (code_of A.observer.process j) ∙ omega (arith, registers-base P before A W J can.good can.fit can.base can.observer w is.0, registers-observer P before A W J can.good can.fit can.base can.observer j is.1, length-append W.initial J.initial) in
      let one : SolvesOnce E (code_at w j) i = solves_once E (code_at w j) i ordered msized (isized ∙ sym can.base.inputs) in
      let s = one.values in
      let st : Stands s = stands (code_at w j) i s one.solves in
      let hold = registers_read w j i s is.0 is.1 one.solves in
      let read = inputs_read (code_at w j) i s one.solves in
      by_case s one.solves st hold read isized h
    where
      by_case : (s : Values) → Solves E (code_at w j) i s → Stands s → Hold P before A W J can.good can.fit can.base can.observer s (register_words W J) (pair w j) → map (bit_of s) (input_bits W J) ≡ i → length i ≡ input_count P → WovenStep P (A ∷ before) (watched w j) i o (watched w' j')
          → SystemReacts E (code_at w j) i o (code_at w' j')
      by_case s solves st hold read isized (inl h) =
          let g = watch_gives P before A W J can.good can.fit can.base can.observer s (input_bits W J) (register_words W J) (first_bit W J) (first_word W J) (pair w j) i o (pair w' j') false is isized st.first read hold h in
          record {
            values = s;
            solves = solves;
            outputs = outputs_read s o (ordinary-outputs s (join W J A.seen) A.advice.outs outs (output_bit W J A.seen A.advice) (next_word W J A.seen A.advice) outs_outs g.join st.outputs ∙ g.outputs);
            next = next_read s (code_at w' j') (ordinary-words s (join W J A.seen) choices words (output_bit W J A.seen A.advice + length outs) (next_word W J A.seen A.advice + 0) choices_words g.join st.next ∙ map-append (word_of s) (ordinary W J).base (ordinary W J).observer ∙ ap (λ (l : List ℕ). l ++ map (word_of s) (ordinary W J).observer) g.next.base ∙ ap (λ (l : List ℕ). woven_code P before w' ++ l) g.next.observer);
          }
      by_case s solves st hold read isized (inr h) =
          let g = watch_gives P before A W J can.good can.fit can.base can.observer s (input_bits W J) (register_words W J) (first_bit W J) (first_word W J) (pair w j) i h.base_outputs h.left true is isized st.first read hold h.watch in
          record {
            values = s;
            solves = solves;
            outputs = outputs_read s o (advised-outputs s (join W J A.seen) A.advice.outs outs (output_bit W J A.seen A.advice) (next_word W J A.seen A.advice) outs_outs g.join st.outputs ∙ sym h.outputs);
            next = next_read s (code_at w' j') (advised-words s (join W J A.seen) choices words (output_bit W J A.seen A.advice + length outs) (next_word W J A.seen A.advice + 0) choices_words g.join st.next ∙ reached s (pair w j) (pair w' j') A.advice.onset refl advised is st hold h.reach);
          }
