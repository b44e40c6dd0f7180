-- Lines with other numbers have the values of the old ones.
use Rattle.std.proofs.Common.{◌≡◌, ℕ, suc, ◌<◌, List, [], ◌∷◌, ◌++◌, Bool, true, false, ◌&&◌, ◌||◌, not, cond, nat_eq, nat_le, refl, sym, ap, ◌∙◌, ◌⊎◌, inl, inr, subst, arith, length, map, take, append_assoc}
use Rattle.std.specs.Prelude.{◌/◌, ◌%◌, ◌^◌}
use Rattle.std.specs.List.{list_all, list_any}
use Rattle.std.proofs.lemmas.Bool.Decides.{nat_tests}
use Rattle.std.proofs.lemmas.List.{append-nil}
use Rattle.argos_base.specs.SignalSets.{lists}
use Rattle.argos_base.proofs.Bools.{true_or_false, or_left, or_right}
use Rattle.eqn_core.specs.Equations.{Literal, Choice, code, word, next, Case, Line, all, any, within, digit, choose, Equations}
use Rattle.eqn_core.specs.Solutions.{Values, bit_of, word_of, is_true, next_code, value_of, chosen_value, defined_bits, defined_words}
use Rattle.eqn_core.specs.Dependence.{Item, bit_item, word_item, some_literal, choice_reads, some_when, some_choice, line_reads, defined_item}
use Rattle.eqn_core.specs.Plans.{IsKnown, given, IsPlanOf}
use Rattle.eqn_completion.specs.Moving.{Table, put, moved_literal, moved_choice, moved_case, moved_line, Tables, line_at, bit_at, word_at, is_given, with_entry, moved_lines, tables_after}
use Rattle.eqn_core.proofs.LinePlaces.{AreAt, IsAt, next_bit, next_word, at_place}
use Rattle.eqn_completion.proofs.Plans.{item_at, defines-at, in-range, known-more, lists-right}
use Rattle.eqn_completion.proofs.Reading.{nat_eq-itself, nat_eq-tells, IsValue}

-- under the tables the item's value in s' is its value in s
abbrev pub IsRight : Values → Values → Tables → Item → Type 0
IsRight s s' t (bit_item k) = bit_of s' (t.bits k) ≡ bit_of s k
IsRight s s' t (word_item k) = word_of s' (t.words k) ≡ word_of s k

module _ (s s' : Values) (t : Tables) where
  literal-right : (l : Literal) → bit_of s' (t.bits l.bit) ≡ bit_of s l.bit → is_true s' (moved_literal t.bits l) ≡ is_true s l
  literal-right l e = ap (λ (b : Bool). cond l.negated (not b) b) e

  all-right : (ls : List Literal) → ((k : ℕ) → some_literal ls k ≡ true → bit_of s' (t.bits k) ≡ bit_of s k) → list_all (is_true s') (map (moved_literal t.bits) ls) ≡ list_all (is_true s) ls
  all-right [] h = refl
  all-right (l ∷ ls) h =
      ap (λ (b : Bool). b && list_all (is_true s') (map (moved_literal t.bits) ls)) (literal-right l (h l.bit (or_left _ _ (nat_eq-itself l.bit))))
      ∙ ap (λ (b : Bool). is_true s l && b) (all-right ls (λ k r. h k (or_right (nat_eq l.bit k) _ r)))

  any-right : (ls : List Literal) → ((k : ℕ) → some_literal ls k ≡ true → bit_of s' (t.bits k) ≡ bit_of s k) → list_any (is_true s') (map (moved_literal t.bits) ls) ≡ list_any (is_true s) ls
  any-right [] h = refl
  any-right (l ∷ ls) h =
      ap (λ (b : Bool). b || list_any (is_true s') (map (moved_literal t.bits) ls)) (literal-right l (h l.bit (or_left _ _ (nat_eq-itself l.bit))))
      ∙ ap (λ (b : Bool). is_true s l || b) (any-right ls (λ k r. h k (or_right (nat_eq l.bit k) _ r)))

  value-right : (c : Choice) → ((k : ℕ) → choice_reads c k ≡ true → word_of s' (t.words k) ≡ word_of s k) → value_of s' (moved_choice t.words c) ≡ value_of s c
  value-right (code n) h = refl
  value-right (word w) h = h w (nat_eq-itself w)
  value-right (next w) h = ap next_code (h w (nat_eq-itself w))

  behind : (a b d : Bool) → (b || d) ≡ true → ((a || b) || d) ≡ true
  behind true b d h = refl
  behind false b d h = h

  chosen-right : (cases : List Case) (other : Choice) → ((k : ℕ) → some_when cases k ≡ true → bit_of s' (t.bits k) ≡ bit_of s k) → ((k : ℕ) → (some_choice cases k || choice_reads other k) ≡ true → word_of s' (t.words k) ≡ word_of s k) → chosen_value s' (map (moved_case t.bits t.words) cases) (moved_choice t.words other) ≡ chosen_value s cases other
  chosen-right [] other f h = value-right other h
  chosen-right (c ∷ cases) other f h =
      let when : is_true s' (moved_literal t.bits c.when) ≡ is_true s c.when = literal-right c.when (f c.when.bit (or_left _ _ (nat_eq-itself c.when.bit))) in
      let value : value_of s' (moved_choice t.words c.choice) ≡ value_of s c.choice = value-right c.choice (λ k r. h k (or_left (choice_reads c.choice k || some_choice cases k) _ (or_left _ _ r))) in
      let rest : chosen_value s' (map (moved_case t.bits t.words) cases) (moved_choice t.words other) ≡ chosen_value s cases other = chosen-right cases other (λ k r. f k (or_right (nat_eq c.when.bit k) _ r)) (λ k r. h k (behind (choice_reads c.choice k) (some_choice cases k) (choice_reads other k) r)) in
      ap (λ (b : Bool). cond b (value_of s' (moved_choice t.words c.choice)) (chosen_value s' (map (moved_case t.bits t.words) cases) (moved_choice t.words other))) when
      ∙ ap (λ (n : ℕ). cond (is_true s c.when) n (chosen_value s' (map (moved_case t.bits t.words) cases) (moved_choice t.words other))) value
      ∙ ap (λ (n : ℕ). cond (is_true s c.when) (value_of s c.choice) n) rest

  pub bits-right : (l : Line) → ((y : Item) → line_reads l y ≡ true → IsRight s s' t y) → defined_bits s' (moved_line t.bits t.words l) ≡ defined_bits s l
  bits-right (all ls) h = ap (λ (b : Bool). b ∷ []) (all-right ls (λ k r. h (bit_item k) r))
  bits-right (any ls) h = ap (λ (b : Bool). b ∷ []) (any-right ls (λ k r. h (bit_item k) r))
  bits-right (within w lo hi) h = ap (λ (n : ℕ). (nat_le lo n && nat_le n hi) ∷ []) (h (word_item w) (nat_eq-itself w))
  bits-right (digit w place) h = ap (λ (n : ℕ). nat_eq (n / 2 ^ place % 2) 1 ∷ []) (h (word_item w) (nat_eq-itself w))
  bits-right (choose cases other) h = refl

  pub words-right : (l : Line) → ((y : Item) → line_reads l y ≡ true → IsRight s s' t y) → defined_words s' (moved_line t.bits t.words l) ≡ defined_words s l
  words-right (all ls) h = refl
  words-right (any ls) h = refl
  words-right (within w lo hi) h = refl
  words-right (digit w place) h = refl
  words-right (choose cases other) h = ap (λ (n : ℕ). n ∷ []) (chosen-right cases other (λ k r. h (bit_item k) r) (λ k r. h (word_item k) r))

-- a table with one more entry
pub put-cases : (table : Table) (k n j : ℕ) → ((j ≡ k) × (put table k n j ≡ n)) ⊎ ((j ≡ k → ⊥) × (put table k n j ≡ table j))
put-cases table k n j = elim (true_or_false (nat_eq j k)) [
  | inl y ↦ inl (nat_eq-tells j k y, rw y refl)
  | inr y ↦ inr (λ e. other j k y e, rw y refl)
]
  where
    other : (j k : ℕ) → nat_eq j k ≡ false → j ≡ k → ⊥
    other j k h e = grind (arith, nat_tests)

-- the new line is right, and the older items stay so
module _ (E : Equations) (s s' : Values) (p : ℕ) (t : Tables) where
  bit-entered : bit_of s' t.next_bit ≡ bit_of s (bit_at E p) → (y : Item) → IsRight s s' t y ⊎ (y ≡ bit_item (bit_at E p)) → IsRight s s' (record { bits = put t.bits (bit_at E p) t.next_bit; words = t.words; next_bit = suc t.next_bit; next_word = t.next_word }) y
  bit-entered new (word_item k) (inl r) = r
  bit-entered new (word_item k) (inr e) = cc
  bit-entered new (bit_item k) (inl r) = elim (put-cases t.bits (bit_at E p) t.next_bit k) [
    | inl same ↦ ap (bit_of s') same.1 ∙ new ∙ ap (bit_of s) (sym same.0)
    | inr other ↦ ap (bit_of s') other.1 ∙ r
  ]
  bit-entered new (bit_item k) (inr e) = elim (put-cases t.bits (bit_at E p) t.next_bit k) [
    | inl same ↦ ap (bit_of s') same.1 ∙ new ∙ ap (bit_of s) (sym same.0)
    | inr other ↦ let x : k ≡ bit_at E p = cc in absurd (other.0 x)
  ]

  word-entered : word_of s' t.next_word ≡ word_of s (word_at E p) → (y : Item) → IsRight s s' t y ⊎ (y ≡ word_item (word_at E p)) → IsRight s s' (record { bits = t.bits; words = put t.words (word_at E p) t.next_word; next_bit = t.next_bit; next_word = suc t.next_word }) y
  word-entered new (bit_item k) (inl r) = r
  word-entered new (bit_item k) (inr e) = cc
  word-entered new (word_item k) (inl r) = elim (put-cases t.words (word_at E p) t.next_word k) [
    | inl same ↦ ap (word_of s') same.1 ∙ new ∙ ap (word_of s) (sym same.0)
    | inr other ↦ ap (word_of s') other.1 ∙ r
  ]
  word-entered new (word_item k) (inr e) = elim (put-cases t.words (word_at E p) t.next_word k) [
    | inl same ↦ ap (word_of s') same.1 ∙ new ∙ ap (word_of s) (sym same.0)
    | inr other ↦ let x : k ≡ word_at E p = cc in absurd (other.0 x)
  ]

  pub entered-right : (l : Line) → IsValue s (defined_item E (take p E.lines) l) s l → ((y : Item) → line_reads l y ≡ true → IsRight s s' t y) → IsAt s' t.next_bit t.next_word (moved_line t.bits t.words l) → (y : Item) → IsRight s s' t y ⊎ (y ≡ defined_item E (take p E.lines) l) → IsRight s s' (with_entry E p l t) y
  entered-right (all ls) v h a y r = let e = bits-right s s' t (all ls) h in bit-entered (cc) y r
  entered-right (any ls) v h a y r = let e = bits-right s s' t (any ls) h in bit-entered (cc) y r
  entered-right (within k lo hi) v h a y r = let e = bits-right s s' t (within k lo hi) h in bit-entered (cc) y r
  entered-right (digit k place) v h a y r = let e = bits-right s s' t (digit k place) h in bit-entered (cc) y r
  entered-right (choose cases other) v h a y r = let e = words-right s s' t (choose cases other) h in word-entered (cc) y r

next-entered : (E : Equations) (p : ℕ) (t : Tables) (l : Line) → (next_bit t.next_bit (moved_line t.bits t.words l) ≡ (with_entry E p l t).next_bit) × (next_word t.next_word (moved_line t.bits t.words l) ≡ (with_entry E p l t).next_word)
next-entered E p t (all ls) = (refl, refl)
next-entered E p t (any ls) = (refl, refl)
next-entered E p t (within k lo hi) = (refl, refl)
next-entered E p t (digit k place) = (refl, refl)
next-entered E p t (choose cases other) = (refl, refl)

-- a line of a given bit defines a bit that is listed
pub given-listed : (E : Equations) (cyclic : List ℕ) (p : ℕ) (l : Line) → is_given E cyclic p l ≡ true → (k : ℕ) × ((defined_item E (take p E.lines) l ≡ bit_item k) × (lists cyclic k ≡ true))
given-listed E cyclic p (all ls) h = (bit_at E p, (refl, h))
given-listed E cyclic p (any ls) h = (bit_at E p, (refl, h))
given-listed E cyclic p (within k lo hi) h = (bit_at E p, (refl, h))
given-listed E cyclic p (digit k place) h = (bit_at E p, (refl, h))
given-listed E cyclic p (choose cases other) h = cc

module _ (E : Equations) (order cyclic : List ℕ) (plan : IsPlanOf E order cyclic) where
  pub ranged : (p : ℕ) → lists order p ≡ true → p < length E.lines
  ranged p h = in-range (length E.lines) order p plan.sized plan.each h

  pub in-order : (earlier later : List ℕ) (p : ℕ) → order ≡ earlier ++ p ∷ later → p < length E.lines
  in-order earlier later p e = ranged p (subst (λ (l : List ℕ). lists l p ≡ true) (sym e) (lists-right earlier (p ∷ later) p (or_left _ _ (nat_eq-itself p))))

  pub one-more : (earlier later : List ℕ) (p : ℕ) → order ≡ earlier ++ p ∷ later → order ≡ (earlier ++ p ∷ []) ++ later
  one-more earlier later p e = e ∙ sym (append_assoc earlier (p ∷ []) later)

  -- what a line of the order reads is known there
  pub reads-known : (earlier later : List ℕ) (p : ℕ) → order ≡ earlier ++ p ∷ later → (y : Item) → line_reads (line_at E p) y ≡ true → IsKnown E earlier cyclic y
  reads-known earlier later p e y r = plan.known earlier p later (line_at E p) (item_at E p) y e (defines-at E p (in-order earlier later p e)) r

  -- a given item is known from the start
  pub known-given : (earlier : List ℕ) (p : ℕ) (y : Item) → is_given E cyclic p (line_at E p) ≡ true → IsKnown E (earlier ++ p ∷ []) cyclic y → IsKnown E earlier cyclic y
  known-given earlier p y g k = elim (known-more E cyclic earlier p y k) [
    | inl old ↦ old
    | inr new ↦ let w = given-listed E cyclic p (line_at E p) g in subst (λ (z : Item). IsKnown E earlier cyclic z) (sym (new ∙ w.1.0)) (given w.0 w.1.1)
  ]

  -- in values in which the moved lines stand, all items are right
  pub moved-right : (s s' : Values) → ((p : ℕ) → p < length E.lines → IsValue s (item_at E p) s (line_at E p)) → (earlier later : List ℕ) (t : Tables) → order ≡ earlier ++ later → AreAt s' t.next_bit t.next_word (moved_lines E cyclic later t) → ((y : Item) → IsKnown E earlier cyclic y → IsRight s s' t y) → (y : Item) → IsKnown E order cyclic y → IsRight s s' (tables_after E cyclic later t) y
  moved-right s s' v earlier [] t e a h y k = h y (subst (λ (l : List ℕ). IsKnown E l cyclic y) (e ∙ append-nil earlier) k)
  moved-right s s' v earlier (p ∷ later) t e a h y k = elim (true_or_false (is_given E cyclic p (line_at E p))) [
    | inl g ↦
        let a' : AreAt s' t.next_bit t.next_word (moved_lines E cyclic later t) = subst (λ (b : Bool). AreAt s' t.next_bit t.next_word (cond b (moved_lines E cyclic later t) (moved_line t.bits t.words (line_at E p) ∷ moved_lines E cyclic later (with_entry E p (line_at E p) t)))) g a in
        subst (λ (b : Bool). IsRight s s' (cond b (tables_after E cyclic later t) (tables_after E cyclic later (with_entry E p (line_at E p) t))) y) (sym g)
        (moved-right s s' v (earlier ++ p ∷ []) later t (one-more earlier later p e) a' (λ z kz. h z (known-given earlier p z g kz)) y k)
    | inr n ↦
        let l : Line = line_at E p in
        let t' : Tables = with_entry E p l t in
        let a' : AreAt s' t.next_bit t.next_word (moved_line t.bits t.words l ∷ moved_lines E cyclic later t') = subst (λ (b : Bool). AreAt s' t.next_bit t.next_word (cond b (moved_lines E cyclic later t) (moved_line t.bits t.words l ∷ moved_lines E cyclic later t'))) n a in
        let nx = next-entered E p t l in
        let rest : AreAt s' t'.next_bit t'.next_word (moved_lines E cyclic later t') = at_place s' _ t'.next_bit _ t'.next_word (moved_lines E cyclic later t') nx.0 nx.1 a'.1 in
        let right = λ (z : Item) (c : IsRight s s' t z ⊎ (z ≡ item_at E p)). entered-right E s s' p t l (v p (in-order earlier later p e)) (λ w r. h w (reads-known earlier later p e w r)) a'.0 z c in
        subst (λ (b : Bool). IsRight s s' (cond b (tables_after E cyclic later t) (tables_after E cyclic later t')) y) (sym n)
        (moved-right s s' v (earlier ++ p ∷ []) later t' (one-more earlier later p e) rest (λ z kz. right z (elim (known-more E cyclic earlier p z kz) [ inl old ↦ inl (h z old) | inr new ↦ inr new ])) y k)
  ]
