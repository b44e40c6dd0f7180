-- Each bit and each word that exists is known where all lines of a plan are.
use Rattle.std.proofs.Common.{◌≡◌, ℕ, ◌+◌, ◌-◌, ◌<◌, ◌≤◌, List, [], ◌∷◌, ◌++◌, true, refl, ap, ◌∙◌, inl, inr, arith, length, length-append}
use Rattle.std.proofs.lemmas.Bool.{cases_lt}
use Rattle.argos_base.specs.SignalSets.{lists}
use Rattle.eqn_core.specs.Equations.{Line, all, any, within, digit, choose, Equations, registers, bits_of_line, words_of_line, bit_lines, word_lines, bit_count, word_count}
use Rattle.eqn_core.specs.Chains.{Chain, link, links}
use Rattle.eqn_core.specs.Dependence.{Item, bit_item, word_item, defined_item, ItemDepends}
use Rattle.eqn_core.proofs.PlanLemmas.{cyclic_are}
use Rattle.eqn_core.specs.Plans.{IsKnown, input, register, earlier_line, IsPlanOf}

-- the line that defines the k-th bit
pub record FoundBit (ls : List Line) (k : ℕ) : Type 0 where
  pub before : List Line
  pub line : Line
  pub after : List Line
  pub stands : ls ≡ before ++ line ∷ after
  pub number : bit_lines before ≡ k
  pub one : bits_of_line line ≡ 1

pub find-bit : (ls : List Line) (k : ℕ) → k < bit_lines ls → FoundBit ls k
find-bit [] k h = absurd (omega arith)
find-bit (l ∷ ls) k h = elim (cases_lt k (bits_of_line l)) [
  | inl low ↦ let b = most l in record { before = []; line = l; after = ls; stands = refl; number = omega arith; one = omega arith }
  | inr high ↦ let f = find-bit ls (k - bits_of_line l) (omega arith) in let n = f.number in record { before = l ∷ f.before; line = f.line; after = f.after; stands = ap (λ (z : List Line). l ∷ z) f.stands; number = omega arith; one = f.one }
]
  where
    most : (l : Line) → bits_of_line l ≤ 1
    most (all ls) = omega arith
    most (any ls) = omega arith
    most (within w lo hi) = omega arith
    most (digit w place) = omega arith
    most (choose cases other) = omega arith

-- the line that defines the k-th word
pub record FoundWord (ls : List Line) (k : ℕ) : Type 0 where
  pub before : List Line
  pub line : Line
  pub after : List Line
  pub stands : ls ≡ before ++ line ∷ after
  pub number : word_lines before ≡ k
  pub one : words_of_line line ≡ 1

pub find-word : (ls : List Line) (k : ℕ) → k < word_lines ls → FoundWord ls k
find-word [] k h = absurd (omega arith)
find-word (l ∷ ls) k h = elim (cases_lt k (words_of_line l)) [
  | inl low ↦ let b = most l in record { before = []; line = l; after = ls; stands = refl; number = omega arith; one = omega arith }
  | inr high ↦ let f = find-word ls (k - words_of_line l) (omega arith) in let n = f.number in record { before = l ∷ f.before; line = f.line; after = f.after; stands = ap (λ (z : List Line). l ∷ z) f.stands; number = omega arith; one = f.one }
]
  where
    most : (l : Line) → words_of_line l ≤ 1
    most (all ls) = omega arith
    most (any ls) = omega arith
    most (within w lo hi) = omega arith
    most (digit w place) = omega arith
    most (choose cases other) = omega arith

pub bit-defined : (E : Equations) (before : List Line) (l : Line) → bits_of_line l ≡ 1 → defined_item E before l ≡ bit_item (E.inputs + bit_lines before)
bit-defined E before (all ls) h = refl
bit-defined E before (any ls) h = refl
bit-defined E before (within w lo hi) h = refl
bit-defined E before (digit w place) h = refl
bit-defined E before (choose cases other) h = absurd (omega arith)

pub word-defined : (E : Equations) (before : List Line) (l : Line) → words_of_line l ≡ 1 → defined_item E before l ≡ word_item (registers E + word_lines before)
word-defined E before (all ls) h = absurd (omega arith)
word-defined E before (any ls) h = absurd (omega arith)
word-defined E before (within w lo hi) h = absurd (omega arith)
word-defined E before (digit w place) h = absurd (omega arith)
word-defined E before (choose cases other) h = refl

pub known-bit : (E : Equations) (order cyclic : List ℕ) → IsPlanOf E order cyclic → (k : ℕ) → k < bit_count E → IsKnown E order cyclic (bit_item k)
known-bit E order cyclic plan k h = elim (cases_lt k E.inputs) [
  | inl low ↦ input k low
  | inr high ↦
      let f = find-bit E.lines (k - E.inputs) (omega arith) in
      let here : defined_item E f.before f.line ≡ bit_item k = bit-defined E f.before f.line f.one ∙ ap bit_item (omega (arith, f.number)) in
      earlier_line (bit_item k) (length f.before) f.line (record { before = f.before; after = f.after; stands = f.stands; place_is = refl; is = here })
      (plan.each (length f.before) (omega (arith, ap length f.stands, length-append f.before (f.line ∷ f.after))))
]

pub known-word : (E : Equations) (order cyclic : List ℕ) → IsPlanOf E order cyclic → (k : ℕ) → k < word_count E → IsKnown E order cyclic (word_item k)
known-word E order cyclic plan k h = elim (cases_lt k (registers E)) [
  | inl low ↦ register k low
  | inr high ↦
      let f = find-word E.lines (k - registers E) (omega arith) in
      let here : defined_item E f.before f.line ≡ word_item k = word-defined E f.before f.line f.one ∙ ap word_item (omega (arith, f.number)) in
      earlier_line (word_item k) (length f.before) f.line (record { before = f.before; after = f.after; stands = f.stands; place_is = refl; is = here })
      (plan.each (length f.before) (omega (arith, ap length f.stands, length-append f.before (f.line ∷ f.after))))
]

-- a cyclic bit is no input
pub cyclic-high : (E : Equations) (order cyclic : List ℕ) → IsPlanOf E order cyclic → (k : ℕ) → lists cyclic k ≡ true → E.inputs ≤ k
cyclic-high E order cyclic plan k h = of_chain (bit_item k) (bit_item k) (cyclic_are E cyclic plan.cyclic_bits k h).1 k refl
  where
    of_line : (before : List Line) (l : Line) (k : ℕ) → defined_item E before l ≡ bit_item k → E.inputs ≤ k
    of_line before (all ls) k e = let f : E.inputs + bit_lines before ≡ k = cc in omega arith
    of_line before (any ls) k e = let f : E.inputs + bit_lines before ≡ k = cc in omega arith
    of_line before (within w lo hi) k e = let f : E.inputs + bit_lines before ≡ k = cc in omega arith
    of_line before (digit w place) k e = let f : E.inputs + bit_lines before ≡ k = cc in omega arith
    of_line before (choose cases other) k e = cc

    of_depends : (x y : Item) → ItemDepends E x y → (k : ℕ) → x ≡ bit_item k → E.inputs ≤ k
    of_depends x y d k e = of_line d.defines.before d.line k (d.defines.is ∙ e)

    of_chain : (x y : Item) → Chain (ItemDepends E) x y → (k : ℕ) → x ≡ bit_item k → E.inputs ≤ k
    of_chain x y (link a b d) k e = of_depends a b d k e
    of_chain x y (links a b c d more) k e = of_depends a b d k e
