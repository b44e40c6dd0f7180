-- The lines of the woven system, from its parts.
use Rattle.std.proofs.Common.{◌≡◌, ℕ, suc, ◌+◌, ◌*◌, List, [], ◌∷◌, ◌++◌, IsTrue, map, length, sym, ap, ◌∙◌, subst, append_assoc, arith}
use Rattle.std.proofs.lemmas.List.{length-map}
use Rattle.std.proofs.Math.Nat.{suc-mul}
use Rattle.argos_aspects.specs.Aspects.{Seen, Advice}
use Rattle.eqn_core.specs.Equations.{Choice, Line, all, any, Equations}
use Rattle.eqn_core.specs.Ordered.{all_below, IsOrdered}
use Rattle.eqn_core.specs.declared.system.Pick.{Pick}
use Rattle.eqn_core.specs.Views.{choice_of}
use Rattle.weave_lines.specs.Systems.{CanJoin, AreAdvised, IsJoined, IsShort}
use Rattle.weave_lines.specs.WovenLines.{Words, together, along, output_lines, next_lines, base_outputs, join_bit, moved_on, bits_together, words_together, input_bits, register_words, copies, first_bit, first_word, ordinary, advised_choices, woven_lines, woven_equations}
use Rattle.weave_lines.proofs.Whole.{same_sized, length-woven, woven_is_ordered}

module _ (W J : Equations) (seen : List Seen) (A : Advice) (memories : List ℕ) where
  abbrev Whole : List ℕ → List ℕ → List ℕ → Words → ℕ → ℕ → ℕ → ℕ → ℕ → List Choice → List Line
  Whole bits outs words x b w b2 w2 j picks = all [] ∷ any [] ∷ (together W J seen bits x b w ++ (along W J seen W.inputs (copies W J seen A) (register_words W J) b2 w2 ++ (output_lines j A.outs outs ++ next_lines j picks words)))

  pub whole-lines : (c0 l1 l2 l3 : List Line) (bits outs words : List ℕ) (x : Words) (b w b2 w2 j : ℕ) (picks : List Choice) → c0 ≡ all [] ∷ any [] ∷ [] → bits ≡ input_bits W J → x ≡ register_words W J → b ≡ first_bit W J → w ≡ first_word W J → b2 ≡ first_bit W J + bits_together W J → w2 ≡ first_word W J + words_together W J
      → l1 ≡ c0 ++ together W J seen bits x b w → l2 ≡ l1 ++ along W J seen W.inputs (copies W J seen A) (register_words W J) b2 w2 → outs ≡ base_outputs W J bits b → j ≡ join_bit W J seen bits b → words ≡ (moved_on W J x w).base ++ (moved_on W J x w).observer → picks ≡ advised_choices W J seen A A.onset memories
      → l3 ≡ l2 ++ (output_lines j A.outs outs ++ next_lines j picks words) → l3 ≡ woven_lines W J seen A memories
  whole-lines c0 l1 l2 l3 bits outs words x b w b2 w2 j picks e0 ebits ex eb ew eb2 ew2 h1 h2 eo ej ewords ep h3 =
      let I = input_bits W J in
      let R = register_words W J in
      let B = first_bit W J in
      let V = first_word W J in
      let outs_are : outs ≡ base_outputs W J I B = eo ∙ ap (λ (z : List ℕ). base_outputs W J z b) ebits ∙ ap (λ (k : ℕ). base_outputs W J I k) eb in
      let join_is : j ≡ join_bit W J seen I B = ej ∙ ap (λ (z : List ℕ). join_bit W J seen z b) ebits ∙ ap (λ (k : ℕ). join_bit W J seen I k) eb in
      let words_are : words ≡ (ordinary W J).base ++ (ordinary W J).observer = ewords ∙ ap (λ (z : Words). (moved_on W J z w).base ++ (moved_on W J z w).observer) ex ∙ ap (λ (k : ℕ). (moved_on W J R k).base ++ (moved_on W J R k).observer) ew in
      let front : l2 ≡ all [] ∷ any [] ∷ (together W J seen bits x b w ++ along W J seen W.inputs (copies W J seen A) R b2 w2) = h2 ∙ ap (λ (l : List Line). l ++ along W J seen W.inputs (copies W J seen A) R b2 w2) (h1 ∙ ap (λ (l : List Line). l ++ together W J seen bits x b w) e0) in
      let rest = output_lines j A.outs outs ++ next_lines j picks words in
      h3 ∙ ap (λ (l : List Line). l ++ rest) front ∙ ap (λ (l : List Line). all [] ∷ any [] ∷ l) (append_assoc (together W J seen bits x b w) (along W J seen W.inputs (copies W J seen A) R b2 w2) rest)
      ∙ ap (λ (z : List ℕ). Whole z outs words x b w b2 w2 j picks) ebits
      ∙ ap (λ (z : List ℕ). Whole I z words x b w b2 w2 j picks) outs_are
      ∙ ap (λ (z : List ℕ). Whole I (base_outputs W J I B) z x b w b2 w2 j picks) words_are
      ∙ ap (λ (z : Words). Whole I (base_outputs W J I B) ((ordinary W J).base ++ (ordinary W J).observer) z b w b2 w2 j picks) ex
      ∙ ap (λ (k : ℕ). Whole I (base_outputs W J I B) ((ordinary W J).base ++ (ordinary W J).observer) R k w b2 w2 j picks) eb
      ∙ ap (λ (k : ℕ). Whole I (base_outputs W J I B) ((ordinary W J).base ++ (ordinary W J).observer) R B k b2 w2 j picks) ew
      ∙ ap (λ (k : ℕ). Whole I (base_outputs W J I B) ((ordinary W J).base ++ (ordinary W J).observer) R B V k w2 j picks) eb2
      ∙ ap (λ (k : ℕ). Whole I (base_outputs W J I B) ((ordinary W J).base ++ (ordinary W J).observer) R B V (B + bits_together W J) k j picks) ew2
      ∙ ap (λ (k : ℕ). Whole I (base_outputs W J I B) ((ordinary W J).base ++ (ordinary W J).observer) R B V (B + bits_together W J) (V + words_together W J) k picks) join_is
      ∙ ap (λ (z : List Choice). Whole I (base_outputs W J I B) ((ordinary W J).base ++ (ordinary W J).observer) R B V (B + bits_together W J) (V + words_together W J) (join_bit W J seen I B) z) ep

  pub picks-sized : (can : CanJoin W J seen A) → AreAdvised W J seen A A.onset memories → IsTrue (all_below 65536 memories) → (picks : List Pick) (y : Words) (x : Words) (w : ℕ) → map choice_of picks ≡ advised_choices W J seen A A.onset memories → y ≡ moved_on W J x w → x ≡ register_words W J → w ≡ first_word W J → length picks ≡ length (y.base ++ y.observer)
  picks-sized can advised codes picks y x w ep ey ex ew =
      sym (length-map picks choice_of) ∙ ap length ep ∙ same_sized W J seen A can.observes.base can.observes.observer can.observes.seen_sized can.observes.one_output can.outs_sized can.trace_sized memories advised codes
      ∙ sym (ap (λ (z : Words). length (z.base ++ z.observer)) (ey ∙ ap (λ (z : Words). moved_on W J z w) ex ∙ ap (λ (k : ℕ). moved_on W J (register_words W J) k) ew))

  pub joined-is-ordered : CanJoin W J seen A → IsShort W J seen A → AreAdvised W J seen A A.onset memories → IsTrue (all_below 65536 memories) → IsOrdered (woven_equations W J seen A memories)
  joined-is-ordered can short advised codes =
      let k = length (copies W J seen A) in
      let a = length W.lines + length J.lines in
      let count = length-woven W J seen A can.observes.base can.observes.observer can.observes.seen_sized can.observes.one_output can.outs_sized can.trace_sized memories advised codes in
      let once : (k + 1) * a ≡ k * a + a = let e : k + 1 ≡ suc k = omega arith in rw e (suc-mul k a) in
      woven_is_ordered W J seen A can.observes.base can.observes.observer can.observes.seen_sized can.observes.one_output can.outs_sized can.trace_sized memories advised codes short.register_limit (omega (arith, count, once, short.line_limit))

-- the same for a system of the code, read through slices
pub joined-system : (W J V K E : Equations) (seen : List Seen) (A : Advice) (memories codes : List ℕ) → V ≡ W → K ≡ J → codes ≡ memories → CanJoin W J seen A → IsShort W J seen A → AreAdvised W J seen A A.onset memories → IsTrue (all_below 65536 codes) → E ≡ woven_equations V K seen A codes → IsOrdered E × IsJoined W J seen A E
joined-system W J V K E seen A memories codes ev ek ec can short advised fit e =
    let fits : IsTrue (all_below 65536 memories) = subst (λ (l : List ℕ). IsTrue (all_below 65536 l)) ec fit in
    let is : E ≡ woven_equations W J seen A memories = e ∙ ap (λ (z : Equations). woven_equations z K seen A codes) ev ∙ ap (λ (z : Equations). woven_equations W z seen A codes) ek ∙ ap (λ (l : List ℕ). woven_equations W J seen A l) ec in
    (subst (λ (z : Equations). IsOrdered z) (sym is) (joined-is-ordered W J seen A memories can short advised fits), record { memories = memories; advised = advised; fit = fits; is = is })
