-- A system that has a plan without cyclic bits has no cycle.
use Rattle.std.proofs.Common.{◌≡◌, ℕ, zero, suc, ◌+◌, ◌<◌, ◌≤◌, List, [], ◌∷◌, ◌++◌, true, false, inl, inr, length, take, get_or, ap, sym, ◌∙◌, subst, refl, arith, append_assoc, length-append}
use Rattle.std.proofs.lemmas.Bool.{cases_order}
use Rattle.std.proofs.lemmas.List.{append-nil}
use Rattle.argos_base.specs.SignalSets.{lists}
use Rattle.eqn_core.specs.Chains.{Chain, link, links}
use Rattle.eqn_core.specs.Dependence.{Item, bit_item, word_item, line_reads, defined_item, Defines, ItemDepends}
use Rattle.eqn_core.specs.Equations.{Line, all, any, within, digit, choose, Equations, registers, bits_of_line, words_of_line, bit_lines, word_lines}
use Rattle.eqn_core.specs.Plans.{IsKnown, input, register, given, earlier_line}
use Rattle.eqn_completion.specs.Moving.{line_at}
use Rattle.eqn_completion.proofs.Completing.{split_at}
use Rattle.eqn_completion.proofs.Plans.{item_at, item-is, lists-left}

-- more lines define more bits and words
bits-more : (ls : List Line) (p q : ℕ) → p < q → q ≤ length ls → bit_lines (take p ls) + bits_of_line (get_or ls p (all [])) ≤ bit_lines (take q ls)
bits-more [] p q h e = absurd (omega arith)
bits-more (l ∷ ls) zero zero h e = absurd (omega arith)
bits-more (l ∷ ls) (suc p) zero h e = absurd (omega arith)
bits-more (l ∷ ls) zero (suc q) h e = omega arith
bits-more (l ∷ ls) (suc p) (suc q) h e = omega (arith, bits-more ls p q (omega arith) (omega arith))

words-more : (ls : List Line) (p q : ℕ) → p < q → q ≤ length ls → word_lines (take p ls) + words_of_line (get_or ls p (all [])) ≤ word_lines (take q ls)
words-more [] p q h e = absurd (omega arith)
words-more (l ∷ ls) zero zero h e = absurd (omega arith)
words-more (l ∷ ls) (suc p) zero h e = absurd (omega arith)
words-more (l ∷ ls) zero (suc q) h e = omega arith
words-more (l ∷ ls) (suc p) (suc q) h e = omega (arith, words-more ls p q (omega arith) (omega arith))

bit-same : (b c : ℕ) → bit_item b ≡ bit_item c → b ≡ c
bit-same b c e = cc

word-same : (b c : ℕ) → word_item b ≡ word_item c → b ≡ c
word-same b c e = cc

-- lines that define one item stand at one place
apart : (E : Equations) (p q : ℕ) → p < q → q < length E.lines → item_at E p ≡ item_at E q → ⊥
apart E p q h low e = of_lines (line_at E p) (line_at E q) (bits-more E.lines p q h (omega arith)) (words-more E.lines p q h (omega arith)) e
  where
    of_lines : (l m : Line) → bit_lines (take p E.lines) + bits_of_line l ≤ bit_lines (take q E.lines) → word_lines (take p E.lines) + words_of_line l ≤ word_lines (take q E.lines) → defined_item E (take p E.lines) l ≡ defined_item E (take q E.lines) m → ⊥
    of_lines (all xs) (all ys) b w e = let f = bit-same _ _ e in omega arith
    of_lines (all xs) (any ys) b w e = let f = bit-same _ _ e in omega arith
    of_lines (all xs) (within k lo hi) b w e = let f = bit-same _ _ e in omega arith
    of_lines (all xs) (digit k place) b w e = let f = bit-same _ _ e in omega arith
    of_lines (all xs) (choose cases other) b w e = cc
    of_lines (any xs) (all ys) b w e = let f = bit-same _ _ e in omega arith
    of_lines (any xs) (any ys) b w e = let f = bit-same _ _ e in omega arith
    of_lines (any xs) (within k lo hi) b w e = let f = bit-same _ _ e in omega arith
    of_lines (any xs) (digit k place) b w e = let f = bit-same _ _ e in omega arith
    of_lines (any xs) (choose cases other) b w e = cc
    of_lines (within i l h) (all ys) b w e = let f = bit-same _ _ e in omega arith
    of_lines (within i l h) (any ys) b w e = let f = bit-same _ _ e in omega arith
    of_lines (within i l h) (within k lo hi) b w e = let f = bit-same _ _ e in omega arith
    of_lines (within i l h) (digit k place) b w e = let f = bit-same _ _ e in omega arith
    of_lines (within i l h) (choose cases other) b w e = cc
    of_lines (digit i l) (all ys) b w e = let f = bit-same _ _ e in omega arith
    of_lines (digit i l) (any ys) b w e = let f = bit-same _ _ e in omega arith
    of_lines (digit i l) (within k lo hi) b w e = let f = bit-same _ _ e in omega arith
    of_lines (digit i l) (digit k place) b w e = let f = bit-same _ _ e in omega arith
    of_lines (digit i l) (choose cases other) b w e = cc
    of_lines (choose xs x) (all ys) b w e = cc
    of_lines (choose xs x) (any ys) b w e = cc
    of_lines (choose xs x) (within k lo hi) b w e = cc
    of_lines (choose xs x) (digit k place) b w e = cc
    of_lines (choose xs x) (choose ys y) b w e = let f = word-same _ _ e in omega arith

-- a place that defines something exists
place-low : (E : Equations) (p : ℕ) (l : Line) (x : Item) → Defines E p l x → p < length E.lines
place-low E p l x d = omega (arith, ap length d.stands, length-append d.before (l ∷ d.after), d.place_is)

same-place : (E : Equations) (p q : ℕ) (l m : Line) (x : Item) → Defines E p l x → Defines E q m x → p ≡ q
same-place E p q l m x d e =
    let same : item_at E p ≡ item_at E q = sym (item-is E p l x d) ∙ item-is E q m x e in
    elim (cases_order p q) [
      | inl is ↦ is
      | inr other ↦ absurd (elim other [
        | inl less ↦ apart E p q less (place-low E q m x e) same
        | inr more ↦ apart E q p more (place-low E p l x d) (sym same)
      ])
    ]

-- inputs and registers are defined by no line
no-input : (E : Equations) (p k : ℕ) (l : Line) → k < E.inputs → Defines E p l (bit_item k) → ⊥
no-input E p k l low d = of_line l d.is
  where
    of_line : (l : Line) → defined_item E d.before l ≡ bit_item k → ⊥
    of_line (all xs) e = let f = bit-same _ _ e in omega arith
    of_line (any xs) e = let f = bit-same _ _ e in omega arith
    of_line (within i lo hi) e = let f = bit-same _ _ e in omega arith
    of_line (digit i place) e = let f = bit-same _ _ e in omega arith
    of_line (choose xs x) e = cc

no-register : (E : Equations) (p k : ℕ) (l : Line) → k < registers E → Defines E p l (word_item k) → ⊥
no-register E p k l low d = of_line l d.is
  where
    of_line : (l : Line) → defined_item E d.before l ≡ word_item k → ⊥
    of_line (all xs) e = cc
    of_line (any xs) e = cc
    of_line (within i lo hi) e = cc
    of_line (digit i place) e = cc
    of_line (choose xs x) e = let f = word-same _ _ e in omega arith

-- what is known stays known with more places
pub known-wider : (E : Equations) (ps qs : List ℕ) (y : Item) → ((k : ℕ) → lists ps k ≡ true → lists qs k ≡ true) → IsKnown E ps [] y → IsKnown E qs [] y
known-wider E ps qs y h (input k low) = input k low
known-wider E ps qs y h (register k low) = register k low
known-wider E ps qs y h (given k is) = given k is
known-wider E ps qs y h (earlier_line z p l d is) = earlier_line z p l d (h p is)

nothing-given : {A : Type 0} (k : ℕ) → lists [] k ≡ true → A
nothing-given k h = absurd (let z : false ≡ true = h in cc)

-- each line of the order reads only what is known there
abbrev pub ReadsKnown : Equations → List ℕ → Type 0
ReadsKnown E order = (earlier : List ℕ) (place : ℕ) (later : List ℕ) (line : Line) (x y : Item) → order ≡ earlier ++ place ∷ later → Defines E place line x → line_reads line y ≡ true → IsKnown E earlier [] y

module _ (E : Equations) (order : List ℕ) (reads : ReadsKnown E order) where
  -- where x is known by the places of e, what it depends on is known by fewer
  record IsEarlier (e f : List ℕ) (x y : Item) : Type 0 where
    front : List ℕ
    back : List ℕ
    whole : order ≡ front ++ back
    shorter : suc (length front) ≤ length e
    within : (k : ℕ) → lists front k ≡ true → lists e k ≡ true
    known : IsKnown E front [] y

  step : (e f : List ℕ) → order ≡ e ++ f → (x y : Item) → IsKnown E e [] x → ItemDepends E x y → IsEarlier e f x y
  step e f whole x y (input k low) d = absurd (no-input E d.place k d.line low d.defines)
  step e f whole x y (register k low) d = absurd (no-register E d.place k d.line low d.defines)
  step e f whole x y (given k is) d = nothing-given k is
  step e f whole x y (earlier_line z p l dz is) d =
      let same : d.place ≡ p = same-place E d.place p d.line l z d.defines dz in
      let w = split_at e p is in
      let all : order ≡ w.front ++ p ∷ (w.back ++ f) = whole ∙ ap (λ (r : List ℕ). r ++ f) w.is ∙ append_assoc w.front (p ∷ w.back) f in
      record {
        front = w.front;
        back = p ∷ (w.back ++ f);
        whole = all;
        shorter = omega (arith, ap length w.is, length-append w.front (p ∷ w.back));
        within = λ k h. subst (λ (r : List ℕ). lists r k ≡ true) (sym w.is) (lists-left w.front (p ∷ w.back) k h);
        known = reads w.front p (w.back ++ f) d.line z y all (subst (λ (q : ℕ). Defines E q d.line z) same d.defines) d.reads;
      }

  stays : (e f : List ℕ) → order ≡ e ++ f → (x y : Item) → IsKnown E e [] x → Chain (ItemDepends E) x y → IsKnown E e [] y
  stays e f whole x y k (link a b d) = let s = step e f whole a b k d in known-wider E s.front e b s.within s.known
  stays e f whole x y k (links a b c d more) = let s = step e f whole a b k d in stays e f whole b c (known-wider E s.front e b s.within s.known) more

  none : (n : ℕ) (e f : List ℕ) → order ≡ e ++ f → length e ≤ n → (x y : Item) → IsKnown E e [] x → Chain (ItemDepends E) x y → x ≡ y → ⊥
  none zero e f whole short x y k (link a b d) same = let s = step e f whole a b k d in let h = s.shorter in omega arith
  none zero e f whole short x y k (links a b c d more) same = let s = step e f whole a b k d in let h = s.shorter in omega arith
  none (suc n) e f whole short x y k (link a b d) same =
      let s = step e f whole a b k d in
      let h = s.shorter in
      none n s.front s.back s.whole (omega arith) a b (subst (λ (z : Item). IsKnown E s.front [] z) (sym same) s.known) (link a b d) same
  none (suc n) e f whole short x y k (links a b c d more) same =
      let s = step e f whole a b k d in
      let h = s.shorter in
      none n s.front s.back s.whole (omega arith) a c (subst (λ (z : Item). IsKnown E s.front [] z) (sym same) (stays s.front s.back s.whole b c s.known more)) (links a b c d more) same

  pub no_cycle : ((k : ℕ) → k < length E.lines → lists order k ≡ true) → (x : Item) → Chain (ItemDepends E) x x → ⊥
  no_cycle each x chain = none (length order) order [] (sym (append-nil order)) (omega arith) x x (start x x chain) chain refl
    where
      start : (x y : Item) → Chain (ItemDepends E) x y → IsKnown E order [] x
      start x y (link a b d) = earlier_line a d.place d.line d.defines (each d.place (place-low E d.place d.line a d.defines))
      start x y (links a b c d more) = earlier_line a d.place d.line d.defines (each d.place (place-low E d.place d.line a d.defines))
