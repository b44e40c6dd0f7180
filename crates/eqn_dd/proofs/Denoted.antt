-- Nodes that denote completions or a layout, at the rows that are read by places in turn.
use Rattle.std.proofs.Common.{◌≡◌, ◌↔◌, ℕ, suc, List, [], ◌∷◌, ◌++◌, Bool, true, length, map, All, refl, sym, ap, ◌∙◌, subst, arith}
use Rattle.std.proofs.lemmas.List.{length-map}
use Rattle.argos_base.specs.SignalSets.{SignalSet}
use Rattle.argos_core.specs.Layouts.{FitsLayout}
use Rattle.dd_core.specs.declared.nodes.NodeId.{NodeId}
use Rattle.dd_core.specs.Arenas.{ArenaView, function_of}
use Rattle.eqn_core.specs.Equations.{Equations}
use Rattle.eqn_core.specs.Solutions.{Values}
use Rattle.eqn_completion.specs.Binary.{number, code_bits, in_binary}
use Rattle.eqn_completion.specs.Completions.{IsCompletion}
use Rattle.eqn_completion.specs.Findings.{Finding}
use Rattle.eqn_completion.proofs.Ordering.{code-number}
use Rattle.eqn_dd.specs.declared.places.Places.{Places}
use Rattle.eqn_dd.specs.Completed.{IsCompletionAt}
use Rattle.eqn_dd.specs.Denoting.{values_at, code_at, IsWord}
use Rattle.eqn_dd.specs.Laws.{row_of, AreRead, finding_of, DenotedAreDiagrams, DenotedLayoutsAreTests}
use Rattle.eqn_dd.specs.Placed.{inputs_at, cyclic_at}
use Rattle.eqn_dd.proofs.InTurn.{rows_read}

values-findings : (arena : ArenaView) (y x : SignalSet) (bits : List NodeId)
    → map (λ (g : Finding). g y x) (map (finding_of arena) bits) ≡ values_at arena bits (y ++ x)
values-findings arena y x [] = refl
values-findings arena y x (f ∷ bits) =
    ap (λ (l : List Bool). function_of arena f.0 (y ++ x) ∷ l) (values-findings arena y x bits)

word-digits : (bits : List Bool) → length bits ≡ 16 → code_bits 16 (number bits) ≡ bits
word-digits bits sized = ap (λ (n : ℕ). code_bits n (number bits)) (sym sized) ∙ code-number bits

words-findings : (arena : ArenaView) (y x : SignalSet) (words : List (List NodeId)) → All (IsWord arena) words
    → map (map (λ (g : Finding). g y x)) (map (map (finding_of arena)) words)
    ≡ map (code_bits 16) (map (λ (word : List NodeId). code_at arena word (y ++ x)) words)
words-findings arena y x [] held = refl
words-findings arena y x (word ∷ words) held =
    let values = values_at arena word (y ++ x) in
    let sized : length values ≡ 16 =
    length-map word (λ (f : NodeId). function_of arena f.0 (y ++ x)) ∙ (held 0 word (omega arith)).sized in
    let own : map (λ (g : Finding). g y x) (map (finding_of arena) word) ≡ code_bits 16 (number values) =
    values-findings arena y x word ∙ sym (word-digits values sized) in
    ap (λ (l : List Bool). l ∷ map (map (λ (g : Finding). g y x)) (map (map (finding_of arena)) words)) own
    ∙ ap (λ (l : List (List Bool)). code_bits 16 (number values) ∷ l)
    (words-findings arena y x words (λ k d below. held (suc k) d (omega arith)))

completion_read : {E : Equations} {cyclic m : List ℕ} {i x row : SignalSet} {s : Values} {p : Places}
    → AreRead p m i x row → IsCompletion E cyclic m i x s → IsCompletionAt E cyclic p row s
completion_read {E} {cyclic} {m} {i} {x} {row} {s} {p} read is =
    subst (λ (n : List ℕ). IsCompletion E cyclic n (inputs_at p row) (cyclic_at p row) s) (sym read.memory)
    (subst (λ (j : SignalSet). IsCompletion E cyclic m j (cyclic_at p row) s) (sym read.inputs)
    (subst (λ (z : SignalSet). IsCompletion E cyclic m i z s) (sym read.cyclic) is))

pub denoted_diagrams : DenotedAreDiagrams
denoted_diagrams arena E cyclic widths p bits words turn variables denote = record {
  bits_are = λ m i x s fits long wide is.
      let read = rows_read widths m E.inputs (length cyclic) i x p turn fits long wide in
      values-findings arena (in_binary widths m ++ i) x bits
      ∙ denote.bits_are (row_of widths m i x) s (read.1 ∙ sym variables) (completion_read read.0 is);
  words_are = λ m i x s fits long wide is.
      let read = rows_read widths m E.inputs (length cyclic) i x p turn fits long wide in
      words-findings arena (in_binary widths m ++ i) x words denote.words_held
      ∙ ap (map (code_bits 16))
      (denote.words_are (row_of widths m i x) s (read.1 ∙ sym variables) (completion_read read.0 is));
}

pub denoted_layouts : DenotedLayoutsAreTests
denoted_layouts arena f layout widths m inputs cyclic i x p turn variables denote fits long wide =
    let read = rows_read widths m inputs cyclic i x p turn fits long wide in
    let row = row_of widths m i x in
    subst (λ (n : List ℕ). (function_of arena f row ≡ true) ↔ (FitsLayout layout n)) read.0.memory
    (denote.exact row (read.1 ∙ sym variables))
