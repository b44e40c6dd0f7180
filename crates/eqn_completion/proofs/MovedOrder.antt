-- Moved lines read what stands before them, and so do lists of lines one behind another.
use Rattle.std.proofs.Common.{◌≡◌, ℕ, suc, ◌+◌, ◌<◌, ◌≤◌, List, [], ◌∷◌, ◌++◌, Bool, true, false, ◌&&◌, cond, nat_eq, nat_lt, nat_le, refl, sym, ap, ◌∙◌, ◌⊎◌, inl, inr, subst, arith, map, take}
use Rattle.std.specs.List.{list_all}
use Rattle.std.proofs.lemmas.Bool.Decides.{nat_tests}
use Rattle.std.proofs.lemmas.List.{append-nil}
use Rattle.argos_base.proofs.Bools.{true_or_false, and_first, and_second, and_both, or_left, or_right}
use Rattle.eqn_core.specs.Equations.{Literal, Choice, code, word, next, Case, Line, all, any, within, digit, choose, Equations, registers, bits_of_line, words_of_line, bit_lines, word_lines, bit_count, word_count}
use Rattle.eqn_core.specs.Ordered.{literal_below, choice_below, case_below, line_below, all_below, all_between}
use Rattle.eqn_core.specs.inner.OrderTest.{lines_in_order}
use Rattle.eqn_core.specs.Dependence.{Item, bit_item, word_item, some_literal, choice_reads, some_when, some_choice, line_reads, defined_item}
use Rattle.eqn_core.specs.Plans.{IsKnown, IsPlanOf}
use Rattle.eqn_completion.specs.Moving.{Table, put, moved_literal, moved_choice, moved_case, moved_line, Tables, line_at, bit_at, word_at, is_given, with_entry, moved_lines, tables_after}
use Rattle.eqn_core.specs.Orderable.{IsOrderable}
use Rattle.eqn_completion.proofs.Counting.{bits-moved, words-moved}
use Rattle.eqn_completion.proofs.Moved.{put-cases, in-order, one-more, reads-known, known-given}
use Rattle.eqn_completion.proofs.Plans.{defines-at, known-more}
use Rattle.eqn_completion.proofs.Reading.{nat_eq-itself}

pub lt-at : (k n : ℕ) → k < n → nat_lt k n ≡ true
lt-at k n h = grind (arith, nat_tests)

pub lt-tells : (k n : ℕ) → nat_lt k n ≡ true → k < n
lt-tells k n h = grind (arith, nat_tests)

pub le-at : (k n : ℕ) → k ≤ n → nat_le k n ≡ true
le-at k n h = grind (arith, nat_tests)

pub order-at : (b b' w w' : ℕ) (ls : List Line) → b ≡ b' → w ≡ w' → lines_in_order b w ls ≡ true → lines_in_order b' w' ls ≡ true
order-at b b' w w' ls e f h = subst (λ (k : ℕ). lines_in_order k w' ls ≡ true) e (subst (λ (k : ℕ). lines_in_order b k ls ≡ true) f h)

pub order-append : (b w : ℕ) (xs ys : List Line) → lines_in_order b w xs ≡ true → lines_in_order (b + bit_lines xs) (w + word_lines xs) ys ≡ true → lines_in_order b w (xs ++ ys) ≡ true
order-append b w [] ys h k = order-at (b + 0) b (w + 0) w ys (omega arith) (omega arith) k
order-append b w (l ∷ xs) ys h k = and_both _ _ (and_first _ _ h) (order-append (b + bits_of_line l) (w + words_of_line l) xs ys (and_second (line_below b w l) _ h) (order-at _ (b + bits_of_line l + bit_lines xs) _ (w + words_of_line l + word_lines xs) ys (omega arith) (omega arith) k))

-- moved lines
abbrev pub IsBelow : Tables → Item → Type 0
IsBelow t (bit_item k) = t.bits k < t.next_bit
IsBelow t (word_item k) = t.words k < t.next_word

module _ (t : Tables) (B W : ℕ) where
  literals-below : (ls : List Literal) → ((k : ℕ) → some_literal ls k ≡ true → t.bits k < t.next_bit) → list_all (literal_below t.next_bit) (map (moved_literal t.bits) ls) ≡ true
  literals-below [] h = refl
  literals-below (l ∷ ls) h = and_both _ _ (lt-at (t.bits l.bit) t.next_bit (h l.bit (or_left _ _ (nat_eq-itself l.bit)))) (literals-below ls (λ k r. h k (or_right (nat_eq l.bit k) _ r)))

  choice-below : (c : Choice) → choice_below W c ≡ true → ((k : ℕ) → choice_reads c k ≡ true → t.words k < t.next_word) → choice_below t.next_word (moved_choice t.words c) ≡ true
  choice-below (code n) e h = e
  choice-below (word k) e h = lt-at (t.words k) t.next_word (h k (nat_eq-itself k))
  choice-below (next k) e h = lt-at (t.words k) t.next_word (h k (nat_eq-itself k))

  cases-below : (cases : List Case) → list_all (case_below B W) cases ≡ true → ((k : ℕ) → some_when cases k ≡ true → t.bits k < t.next_bit) → ((k : ℕ) → some_choice cases k ≡ true → t.words k < t.next_word) → list_all (case_below t.next_bit t.next_word) (map (moved_case t.bits t.words) cases) ≡ true
  cases-below [] e f h = refl
  cases-below (c ∷ cases) e f h =
      and_both _ _
      (and_both _ _ (lt-at (t.bits c.when.bit) t.next_bit (f c.when.bit (or_left _ _ (nat_eq-itself c.when.bit)))) (choice-below c.choice (and_second (literal_below B c.when) _ (and_first _ _ e)) (λ k r. h k (or_left _ _ r))))
      (cases-below cases (and_second (case_below B W c) _ e) (λ k r. f k (or_right (nat_eq c.when.bit k) _ r)) (λ k r. h k (or_right (choice_reads c.choice k) _ r)))

  line-below : (l : Line) → line_below B W l ≡ true → ((y : Item) → line_reads l y ≡ true → IsBelow t y) → line_below t.next_bit t.next_word (moved_line t.bits t.words l) ≡ true
  line-below (all ls) e h = literals-below ls (λ k r. h (bit_item k) r)
  line-below (any ls) e h = literals-below ls (λ k r. h (bit_item k) r)
  line-below (within k lo hi) e h = and_both _ _ (lt-at (t.words k) t.next_word (h (word_item k) (nat_eq-itself k))) (and_second (nat_lt k W) _ e)
  line-below (digit k place) e h = and_both _ _ (lt-at (t.words k) t.next_word (h (word_item k) (nat_eq-itself k))) (and_second (nat_lt k W) _ e)
  line-below (choose cases other) e h =
      and_both _ _
      (cases-below cases (and_first _ _ e) (λ k r. h (bit_item k) r) (λ k r. h (word_item k) (or_left _ _ r)))
      (choice-below other (and_second (list_all (case_below B W) cases) _ e) (λ k r. h (word_item k) (or_right (some_choice cases k) _ r)))

module _ (E : Equations) (p : ℕ) (t : Tables) where
  bit-below : (y : Item) → IsBelow t y ⊎ (y ≡ bit_item (bit_at E p)) → IsBelow (record { bits = put t.bits (bit_at E p) t.next_bit; words = t.words; next_bit = suc t.next_bit; next_word = t.next_word }) y
  bit-below (word_item k) (inl r) = r
  bit-below (word_item k) (inr e) = cc
  bit-below (bit_item k) (inl r) = elim (put-cases t.bits (bit_at E p) t.next_bit k) [
    | inl same ↦ let s = same.1 in omega arith
    | inr other ↦ let s = other.1 in omega arith
  ]
  bit-below (bit_item k) (inr e) = elim (put-cases t.bits (bit_at E p) t.next_bit k) [
    | inl same ↦ let s = same.1 in omega arith
    | inr other ↦ let x : k ≡ bit_at E p = cc in absurd (other.0 x)
  ]

  word-below : (y : Item) → IsBelow t y ⊎ (y ≡ word_item (word_at E p)) → IsBelow (record { bits = t.bits; words = put t.words (word_at E p) t.next_word; next_bit = t.next_bit; next_word = suc t.next_word }) y
  word-below (bit_item k) (inl r) = r
  word-below (bit_item k) (inr e) = cc
  word-below (word_item k) (inl r) = elim (put-cases t.words (word_at E p) t.next_word k) [
    | inl same ↦ let s = same.1 in omega arith
    | inr other ↦ let s = other.1 in omega arith
  ]
  word-below (word_item k) (inr e) = elim (put-cases t.words (word_at E p) t.next_word k) [
    | inl same ↦ let s = same.1 in omega arith
    | inr other ↦ let x : k ≡ word_at E p = cc in absurd (other.0 x)
  ]

  entered-below : (l : Line) → (y : Item) → IsBelow t y ⊎ (y ≡ defined_item E (take p E.lines) l) → IsBelow (with_entry E p l t) y
  entered-below (all ls) y r = bit-below y r
  entered-below (any ls) y r = bit-below y r
  entered-below (within k lo hi) y r = bit-below y r
  entered-below (digit k place) y r = bit-below y r
  entered-below (choose cases other) y r = word-below y r

  entered-next : (l : Line) → ((with_entry E p l t).next_bit ≡ t.next_bit + bits_of_line l) × ((with_entry E p l t).next_word ≡ t.next_word + words_of_line l)
  entered-next (all ls) = (omega arith, omega arith)
  entered-next (any ls) = (omega arith, omega arith)
  entered-next (within k lo hi) = (omega arith, omega arith)
  entered-next (digit k place) = (omega arith, omega arith)
  entered-next (choose cases other) = (omega arith, omega arith)

  -- words beyond the registers have new numbers beyond the registers
  entered-least : (R : ℕ) (l : Line) → ((k : ℕ) → R ≤ k → R ≤ t.words k) → R ≤ t.next_word → ((k : ℕ) → R ≤ k → R ≤ (with_entry E p l t).words k) × (R ≤ (with_entry E p l t).next_word)
  entered-least R (all ls) h e = (h, e)
  entered-least R (any ls) h e = (h, e)
  entered-least R (within k lo hi) h e = (h, e)
  entered-least R (digit k place) h e = (h, e)
  entered-least R (choose cases other) h e = (λ k high. elim (put-cases t.words (word_at E p) t.next_word k) [ inl same ↦ let s = same.1 in omega arith | inr other ↦ let s = other.1 in let r = h k high in omega arith ], omega arith)

-- what the moved lines leave
pub record IsMoved (E : Equations) (order cyclic later : List ℕ) (t : Tables) : Type 0 where
  pub in_order : lines_in_order t.next_bit t.next_word (moved_lines E cyclic later t) ≡ true
  pub below : (y : Item) → IsKnown E order cyclic y → IsBelow (tables_after E cyclic later t) y
  pub bits : (tables_after E cyclic later t).next_bit ≡ t.next_bit + bit_lines (moved_lines E cyclic later t)
  pub words : (tables_after E cyclic later t).next_word ≡ t.next_word + word_lines (moved_lines E cyclic later t)
  pub least : (k : ℕ) → registers E ≤ k → registers E ≤ (tables_after E cyclic later t).words k

module _ (E : Equations) (order cyclic : List ℕ) (plan : IsPlanOf E order cyclic) (orderable : IsOrderable E) where
  pub moved : (earlier later : List ℕ) (t : Tables) → order ≡ earlier ++ later → ((y : Item) → IsKnown E earlier cyclic y → IsBelow t y) → ((k : ℕ) → registers E ≤ k → registers E ≤ t.words k) → registers E ≤ t.next_word → IsMoved E order cyclic later t
  moved earlier [] t e h least room = record { in_order = refl; below = λ y k. h y (subst (λ (l : List ℕ). IsKnown E l cyclic y) (e ∙ append-nil earlier) k); bits = omega arith; words = omega arith; least = least }
  moved earlier (p ∷ later) t e h least room = elim (true_or_false (is_given E cyclic p (line_at E p))) [
    | inl g ↦ skip g (moved (earlier ++ p ∷ []) later t (one-more E order cyclic plan earlier later p e) (λ z kz. h z (known-given E order cyclic plan earlier p z g kz)) least room)
    | inr n ↦
        let l : Line = line_at E p in
        let more = entered-least E p t (registers E) l least room in
        push n (moved (earlier ++ p ∷ []) later (with_entry E p l t) (one-more E order cyclic plan earlier later p e) (λ z kz. entered-below E p t l z (elim (known-more E cyclic earlier p z kz) [ inl old ↦ inl (h z old) | inr new ↦ inr new ])) more.0 more.1)
  ]
    where
      skip : is_given E cyclic p (line_at E p) ≡ true → IsMoved E order cyclic later t → IsMoved E order cyclic (p ∷ later) t
      skip g r = record {
        in_order = subst (λ (b : Bool). lines_in_order t.next_bit t.next_word (cond b (moved_lines E cyclic later t) (moved_line t.bits t.words (line_at E p) ∷ moved_lines E cyclic later (with_entry E p (line_at E p) t))) ≡ true) (sym g) r.in_order;
        below = λ y k. subst (λ (b : Bool). IsBelow (cond b (tables_after E cyclic later t) (tables_after E cyclic later (with_entry E p (line_at E p) t))) y) (sym g) (r.below y k);
        bits = subst (λ (b : Bool). (cond b (tables_after E cyclic later t) (tables_after E cyclic later (with_entry E p (line_at E p) t))).next_bit ≡ t.next_bit + bit_lines (cond b (moved_lines E cyclic later t) (moved_line t.bits t.words (line_at E p) ∷ moved_lines E cyclic later (with_entry E p (line_at E p) t)))) (sym g) r.bits;
        words = subst (λ (b : Bool). (cond b (tables_after E cyclic later t) (tables_after E cyclic later (with_entry E p (line_at E p) t))).next_word ≡ t.next_word + word_lines (cond b (moved_lines E cyclic later t) (moved_line t.bits t.words (line_at E p) ∷ moved_lines E cyclic later (with_entry E p (line_at E p) t)))) (sym g) r.words;
        least = λ k high. subst (λ (b : Bool). registers E ≤ (cond b (tables_after E cyclic later t) (tables_after E cyclic later (with_entry E p (line_at E p) t))).words k) (sym g) (r.least k high);
      }

      push : is_given E cyclic p (line_at E p) ≡ false → IsMoved E order cyclic later (with_entry E p (line_at E p) t) → IsMoved E order cyclic (p ∷ later) t
      push n r =
          let l : Line = line_at E p in
          let t' : Tables = with_entry E p l t in
          let d = defines-at E p (in-order E order cyclic plan earlier later p e) in
          let fine : line_below t.next_bit t.next_word (moved_line t.bits t.words l) ≡ true = line-below t (bit_count E) (word_count E) l (orderable.each d.before l d.after d.stands) (λ y k. h y (reads-known E order cyclic plan earlier later p e y k)) in
          let nx = entered-next E p t l in
          let bm = bits-moved t.bits t.words l in
          let wm = words-moved t.bits t.words l in
          record {
            in_order = subst (λ (b : Bool). lines_in_order t.next_bit t.next_word (cond b (moved_lines E cyclic later t) (moved_line t.bits t.words l ∷ moved_lines E cyclic later t')) ≡ true) (sym n)
                (and_both _ _ fine (order-at t'.next_bit (t.next_bit + bits_of_line (moved_line t.bits t.words l)) t'.next_word (t.next_word + words_of_line (moved_line t.bits t.words l)) (moved_lines E cyclic later t') (nx.0 ∙ ap (λ (k : ℕ). t.next_bit + k) (sym bm)) (nx.1 ∙ ap (λ (k : ℕ). t.next_word + k) (sym wm)) r.in_order));
            below = λ y k. subst (λ (b : Bool). IsBelow (cond b (tables_after E cyclic later t) (tables_after E cyclic later t')) y) (sym n) (r.below y k);
            bits = subst (λ (b : Bool). (cond b (tables_after E cyclic later t) (tables_after E cyclic later t')).next_bit ≡ t.next_bit + bit_lines (cond b (moved_lines E cyclic later t) (moved_line t.bits t.words l ∷ moved_lines E cyclic later t'))) (sym n) (let x = r.bits in let y = nx.0 in omega arith);
            words = subst (λ (b : Bool). (cond b (tables_after E cyclic later t) (tables_after E cyclic later t')).next_word ≡ t.next_word + word_lines (cond b (moved_lines E cyclic later t) (moved_line t.bits t.words l ∷ moved_lines E cyclic later t'))) (sym n) (let x = r.words in let y = nx.1 in omega arith);
            least = λ k high. subst (λ (b : Bool). registers E ≤ (cond b (tables_after E cyclic later t) (tables_after E cyclic later t')).words k) (sym n) (r.least k high);
          }

-- the whole
pub some-bit : (ks : List ℕ) (b : Table) (n m : ℕ) → list_all (λ k. nat_lt k n) ks ≡ true → ((k : ℕ) → k < n → b k < m) → all_below m (map b ks) ≡ true
some-bit [] b n m h f = refl
some-bit (k ∷ ks) b n m h f = and_both _ _ (lt-at (b k) m (f k (lt-tells k n (and_first _ _ h)))) (some-bit ks b n m (and_second (nat_lt k n) _ h) f)

pub some-word : (ks : List ℕ) (w : Table) (lo n m : ℕ) → all_between lo n ks ≡ true → ((k : ℕ) → lo ≤ k → k < n → (lo ≤ w k) × (w k < m)) → all_between lo m (map w ks) ≡ true
some-word [] w lo n m h f = refl
some-word (k ∷ ks) w lo n m h f =
    let here : (nat_le lo k && nat_lt k n) ≡ true = and_first _ _ h in
    let r = f k (le_tells lo k (and_first _ _ here)) (lt-tells k n (and_second (nat_le lo k) _ here)) in
    and_both _ _ (and_both _ _ (le-at lo (w k) r.0) (lt-at (w k) m r.1)) (some-word ks w lo n m (and_second (nat_le lo k && nat_lt k n) _ h) f)
  where
    le_tells : (a b : ℕ) → nat_le a b ≡ true → a ≤ b
    le_tells a b h = grind (arith, nat_tests)
