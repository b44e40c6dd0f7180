-- The words of a solution are codes.
use Rattle.std.proofs.Common.{◌≡◌, ℕ, zero, suc, ◌-◌, ◌^◌, ◌<◌, ◌≤◌, List, [], ◌∷◌, ◌++◌, Bool, true, false, ◌||◌, nat_eq, nat_le, IsTrue, refl, sym, ap, ◌∙◌, inl, inr, subst, arith, length, map, replicate}
use Rattle.std.specs.Prelude.{slice_index_or, flat_map, All}
use Rattle.std.specs.List.{list_all}
use Rattle.std.proofs.Math.Pow.{pow_mono}
use Rattle.std.proofs.lemmas.Bool.{cases_lt}
use Rattle.std.proofs.lemmas.Bool.Decides.{nat_tests}
use Rattle.std.proofs.lemmas.List.{get_or_append_left, get_or-append_right}
use Rattle.argos_base.proofs.Bools.{true_or_false, and_first, and_second, or_left}
use Rattle.argos_base.specs.SignalSets.{SignalSet}
use Rattle.eqn_core.specs.Equations.{Choice, code, word, next, Case, Line, all, any, within, digit, choose, Equations, registers, bit_count, word_count}
use Rattle.eqn_core.specs.Ordered.{choice_below, case_below, line_below}
use Rattle.eqn_core.specs.Solutions.{Values, word_of, is_true, next_code, value_of, chosen_value, defined_words, Solves}
use Rattle.eqn_completion.specs.Binary.{FitsIn}
use Rattle.eqn_core.specs.Dependence.{choice_reads, some_choice}
use Rattle.eqn_completion.specs.Completions.{as_read}
use Rattle.eqn_completion.specs.Laws.{CompletionsHaveCodes}
use Rattle.eqn_core.specs.Orderable.{IsOrderable}
use Rattle.eqn_completion.proofs.Reading.{nat_eq-itself}

-- each number is a code
abbrev pub AreCodes : List ℕ → Type 0
AreCodes xs = (k : ℕ) → slice_index_or xs k 0 < 65536

next-code : (n : ℕ) → n < 65536 → next_code n < 65536
next-code n h = elim (true_or_false (nat_eq n 65535)) [
  | inl y ↦ rw y (omega arith)
  | inr y ↦ rw y (let ne = other n y in omega arith)
]
  where
    other : (n : ℕ) → nat_eq n 65535 ≡ false → n ≡ 65535 → ⊥
    other n h e = grind (arith, nat_tests)

-- where the words that are read hold codes, so does what a choice of codes and words gives
module _ (W B : ℕ) (s : Values) where
  value-code : (c : Choice) → IsTrue (choice_below W c) → ((w : ℕ) → choice_reads c w ≡ true → word_of s w < 65536) → value_of s c < 65536
  value-code (code n) h r = at_most n h
    where
      at_most : (n : ℕ) → nat_le n 65535 ≡ true → n < 65536
      at_most n h = grind (arith, nat_tests)
  value-code (word w) h r = r w (nat_eq-itself w)
  value-code (next w) h r = next-code (word_of s w) (r w (nat_eq-itself w))

  pub chosen-code : (cases : List Case) (other : Choice) → IsTrue (list_all (case_below B W) cases) → IsTrue (choice_below W other) → ((w : ℕ) → (some_choice cases w || choice_reads other w) ≡ true → word_of s w < 65536) → chosen_value s cases other < 65536
  chosen-code [] other h k r = value-code other k r
  chosen-code (c ∷ cases) other h k r = elim (true_or_false (is_true s c.when)) [
    | inl y ↦ rw y (value-code c.choice (and_second _ _ (and_first _ _ h)) (λ w t. r w (or_left (choice_reads c.choice w || some_choice cases w) _ (or_left _ _ t))))
    | inr y ↦ rw y (chosen-code cases other (and_second (case_below B W c) _ h) k (λ w t. r w (behind (choice_reads c.choice w) (some_choice cases w) (choice_reads other w) t)))
  ]
    where
      behind : (a b d : Bool) → (b || d) ≡ true → ((a || b) || d) ≡ true
      behind true b d h = refl
      behind false b d h = h

append-codes : (xs ys : List ℕ) → AreCodes xs → AreCodes ys → AreCodes (xs ++ ys)
append-codes xs ys h k j = elim (cases_lt j (length xs)) [
  | inl low ↦ subst (λ (n : ℕ). n < 65536) (sym (get_or_append_left xs ys 0 j low)) (h j)
  | inr high ↦ subst (λ (n : ℕ). n < 65536) (sym (get_or-append_right xs ys (length xs) j 0 refl high)) (k (j - length xs))
]

one-code : (n : ℕ) → n < 65536 → AreCodes (n ∷ [])
one-code n h zero = h
one-code n h (suc k) = omega arith

no-codes : AreCodes []
no-codes k = omega arith

flat-codes : (s : Values) (ls : List Line) → ((before : List Line) (cases : List Case) (other : Choice) (after : List Line) → ls ≡ before ++ choose cases other ∷ after → chosen_value s cases other < 65536) → AreCodes (flat_map (defined_words s) ls)
flat-codes s [] h = no-codes
flat-codes s (l ∷ ls) h = append-codes (defined_words s l) (flat_map (defined_words s) ls) (first l refl) (flat-codes s ls (λ before cases other after e. h (l ∷ before) cases other after (ap (λ (z : List Line). l ∷ z) e)))
  where
    first : (k : Line) → l ≡ k → AreCodes (defined_words s k)
    first (all xs) e = no-codes
    first (any xs) e = no-codes
    first (within w lo hi) e = no-codes
    first (digit w place) e = no-codes
    first (choose cases other) e = one-code (chosen_value s cases other) (h [] cases other ls (ap (λ (z : Line). z ∷ ls) e))

pub words-are_codes : (E : Equations) (m : List ℕ) (i : SignalSet) (s : Values) → IsOrderable E → AreCodes m → Solves E m i s → AreCodes s.words
words-are_codes E m i s h codes solves =
    subst AreCodes (sym solves.lines.words) (append-codes m (flat_map (defined_words s) E.lines) codes (flat-codes s E.lines (λ before cases other after e.
    let fine : line_below (bit_count E) (word_count E) (choose cases other) ≡ true = h.each before (choose cases other) after e in
    chosen-code (word_count E) (bit_count E) s cases other (and_first _ _ fine) (and_second (list_all (case_below (bit_count E) (word_count E)) cases) _ fine) (λ w r. low w (h.chooses before cases other after w e r)))))
  where
    low : (w : ℕ) → w < registers E → word_of s w < 65536
    low w below = subst (λ (n : ℕ). n < 65536) (sym (ap (λ (xs : List ℕ). slice_index_or xs w 0) solves.lines.words ∙ get_or_append_left m (flat_map (defined_words s) E.lines) 0 w (omega (arith, solves.memory)))) (codes w)

pub completions_have_codes : CompletionsHaveCodes
completions_have_codes E cyclic m i x s h sized codes is =
    let t : Values = as_read cyclic x s in
    subst AreCodes (sym is.words) (append-codes m (flat_map (defined_words t) E.lines) codes (flat-codes t E.lines (λ before cases other after e.
    let fine : line_below (bit_count E) (word_count E) (choose cases other) ≡ true = h.each before (choose cases other) after e in
    chosen-code (word_count E) (bit_count E) t cases other (and_first _ _ fine) (and_second (list_all (case_below (bit_count E) (word_count E)) cases) _ fine) (λ w r. low w (h.chooses before cases other after w e r)))))
  where
    low : (w : ℕ) → w < registers E → word_of (as_read cyclic x s) w < 65536
    low w below = subst (λ (n : ℕ). n < 65536) (sym (ap (λ (xs : List ℕ). slice_index_or xs w 0) is.words ∙ get_or_append_left m (flat_map (defined_words (as_read cyclic x s)) E.lines) 0 w (omega (arith, sized)))) (codes w)

-- codes fit in sixteen digits
pub fits-codes : (f : ℕ → ℕ) (ks : List ℕ) → ((k : ℕ) → f k < 65536) → FitsIn (replicate (length ks) 16) (map f ks)
fits-codes f [] h = tt
fits-codes f (k ∷ ks) h = (h k, fits-codes f ks h)

pub codes-fit : (widths m : List ℕ) → All (λ w. w ≤ 16) widths → FitsIn widths m → (k : ℕ) → slice_index_or m k 0 < 65536
codes-fit [] [] few h k = omega arith
codes-fit [] (a ∷ m) few h k = absurd h
codes-fit (w ∷ widths) [] few h k = absurd h
codes-fit (w ∷ widths) (a ∷ m) few h zero =
    let most : w ≤ 16 = few 0 0 (omega arith) in
    let p : 2 ^ w ≤ 2 ^ 16 = pow_mono most in
    let x = h.0 in omega arith
codes-fit (w ∷ widths) (a ∷ m) few h (suc k) = codes-fit widths m (λ j d below. few (suc j) d (omega arith)) h.1 k
