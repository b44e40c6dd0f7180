-- With a plan the words of a completion are codes.
use Rattle.std.proofs.Common.{◌≡◌, ℕ, zero, suc, ◌<◌, ◌≤◌, List, [], ◌∷◌, ◌++◌, true, false, inl, inr, length, ap, sym, ◌∙◌, subst, refl, arith, append_assoc, length-append}
use Rattle.std.specs.Prelude.{slice_index_or, flat_map}
use Rattle.std.specs.List.{list_all}
use Rattle.std.proofs.lemmas.Bool.{cases_lt}
use Rattle.std.proofs.lemmas.List.{append-nil, get_or_append_left, get_or_past}
use Rattle.argos_base.specs.SignalSets.{SignalSet}
use Rattle.argos_base.proofs.Bools.{and_first, and_second}
use Rattle.eqn_core.specs.Dependence.{Item, word_item, line_reads, Defines}
use Rattle.eqn_core.specs.Equations.{Line, all, any, within, digit, choose, Equations, registers, bit_count, word_count}
use Rattle.eqn_core.specs.Ordered.{case_below, line_below}
use Rattle.eqn_core.specs.Plans.{IsKnown, input, register, given, earlier_line, IsPlanOf}
use Rattle.eqn_core.specs.Solutions.{Values, word_of, defined_words}
use Rattle.eqn_completion.specs.Completions.{as_read, IsCompletion}
use Rattle.eqn_completion.specs.OrderedSystems.{LinesExist, PlannedHaveCodes}
use Rattle.eqn_completion.proofs.Codes.{AreCodes, chosen-code}
use Rattle.eqn_completion.proofs.Completing.{completions_follow_lines, split_at}
use Rattle.eqn_completion.proofs.Knowing.{known-word}
use Rattle.eqn_completion.proofs.Reading.{length-words}

module _ (E : Equations) (order cyclic m : List ℕ) (i x : SignalSet) (s : Values) (exist : LinesExist E) (plan : IsPlanOf E order cyclic) (m-sized : length m ≡ registers E) (i-sized : length i ≡ E.inputs) (codes : AreCodes m) (is : IsCompletion E cyclic m i x s) where
  word-code : (n : ℕ) (earlier later : List ℕ) → order ≡ earlier ++ later → length earlier ≤ n → (y : Item) → IsKnown E earlier cyclic y → (k : ℕ) → y ≡ word_item k → word_of s k < 65536
  word-code n earlier later whole short y (input j low) k e = cc
  word-code n earlier later whole short y (register j low) k e =
      let same : j ≡ k = number j k e in
      subst (λ (v : ℕ). v < 65536) (sym (ap (λ (ws : List ℕ). slice_index_or ws k 0) is.words ∙ get_or_append_left m _ 0 k (omega arith))) (codes k)
    where
      number : (j k : ℕ) → word_item j ≡ word_item k → j ≡ k
      number j k e = cc
  word-code n earlier later whole short y (given j l) k e = cc
  word-code zero [] later whole short y (earlier_line z place line d l) k e = absurd (let f : false ≡ true = l in cc)
  word-code zero (p ∷ earlier) later whole short y (earlier_line z place line d l) k e = absurd (omega arith)
  word-code (suc n) earlier later whole short y (earlier_line z place line d l) k e =
      let w = split_at earlier place l in
      let all-of : order ≡ w.front ++ place ∷ (w.back ++ later) = whole ∙ ap (λ (r : List ℕ). r ++ later) w.is ∙ append_assoc w.front (place ∷ w.back) later in
      let short-front : length w.front ≤ n = omega (arith, ap length w.is, length-append w.front (place ∷ w.back)) in
      let there : Defines E place line (word_item k) = subst (λ (v : Item). Defines E place line v) e d in
      let reads = λ (v : ℕ) (r : line_reads line (word_item v) ≡ true). word-code n w.front (place ∷ (w.back ++ later)) all-of short-front (word_item v) (plan.known w.front place (w.back ++ later) line (word_item k) (word_item v) all-of there r) v refl in
      of_line s (as_read cyclic x s) (bit_count E) (word_count E) k line refl (exist there.before line there.after there.stands) (completions_follow_lines E cyclic m i x s place line (word_item k) m-sized i-sized is there) reads
    where
      of_line : (s t : Values) (b w k : ℕ) (line : Line) → t.words ≡ s.words → line_below b w line ≡ true → defined_words t line ≡ word_of s k ∷ [] → ((v : ℕ) → line_reads line (word_item v) ≡ true → word_of s v < 65536) → word_of s k < 65536
      of_line s t b w k (all ls) same h v r = cc
      of_line s t b w k (any ls) same h v r = cc
      of_line s t b w k (within j lo hi) same h v r = cc
      of_line s t b w k (digit j place) same h v r = cc
      of_line s t b w k (choose cases other) same h v r =
          let c = chosen-code w b t cases other (and_first _ _ h) (and_second (list_all (case_below b w) cases) _ h) (λ u g. subst (λ (ws : List ℕ). slice_index_or ws u 0 < 65536) (sym same) (r u g)) in
          subst (λ (n : ℕ). n < 65536) (first v) c
        where
          first : {a b : ℕ} → a ∷ [] ≡ b ∷ [] → a ≡ b
          first e = cc

  pub all-codes : (k : ℕ) → slice_index_or s.words k 0 < 65536
  all-codes k = elim (cases_lt k (word_count E)) [
    | inl low ↦ word-code (length order) order [] (sym (append-nil order)) (omega arith) (word_item k) (known-word E order cyclic plan k low) k refl
    | inr high ↦
        let past : slice_index_or s.words k 0 ≡ 0 = get_or_past s.words k 0 (omega (arith, ap length is.words, length-append m (flat_map (defined_words (as_read cyclic x s)) E.lines), length-words (as_read cyclic x s) E.lines)) in
        omega arith
  ]

pub planned_have_codes : PlannedHaveCodes
planned_have_codes E order cyclic m i x s exist plan a b codes is k = all-codes E order cyclic m i x s exist plan a b codes is k
