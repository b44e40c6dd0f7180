-- The tables of the lines that define bits and words, and the edges of the graph that they give.
use Rattle.std.proofs.Common.{◌≡◌, ◌⊎◌, inl, inr, ℕ, zero, suc, ◌+◌, ◌-◌, ◌<◌, ◌≤◌, ◌≢◌, List, [], ◌∷◌, ◌++◌, Option, Some, None, Bool, true, false, length, get_or, set, refl, sym, ap, ◌∙◌, subst, arith}
use Rattle.std.specs.Prelude.{nat_eq, nat_lt, if◌then◌else◌}
use Rattle.std.proofs.lemmas.List.{get_or-set_other}
use Rattle.std.proofs.lemmas.Bool.Decides.{nat_tests}
use Rattle.argos_base.specs.SignalSets.{lists}
use Rattle.argos_base.proofs.Bools.{true_or_false, or_cases, or_first_false, or_second_false}
use Rattle.eqn_core.specs.Dependence.{Item, bit_item, word_item, defined_item, Defines}
use Rattle.eqn_core.specs.Equations.{Line, all, any, within, digit, choose, Equations, registers, bits_of_line, words_of_line, bit_lines, word_lines, bit_count, word_count}
use Rattle.eqn_order.specs.inner.Sources.{Origins, defines_word, bit_places, word_places, origins_of, line_of_bit, line_of_word, with_given, all_given}

-- where a line stands
pub record Split (lines : List Line) (place : ℕ) : Type 0 where
  pub before : List Line
  pub line : Line
  pub after : List Line
  pub stands : lines ≡ before ++ line ∷ after
  pub place_is : length before ≡ place

pub split_at : (lines : List Line) (v : ℕ) → v < length lines → Split lines v
split_at [] v l = absurd (omega arith)
split_at (x ∷ lines) zero l = record { before = []; line = x; after = lines; stands = refl; place_is = refl }
split_at (x ∷ lines) (suc v) l =
    let s = split_at lines v (omega arith) in
    record { before = x ∷ s.before; line = s.line; after = s.after; stands = ap (λ (ls : List Line). x ∷ ls) s.stands; place_is = ap suc s.place_is }

pub place_inside : (before : List Line) (line : Line) (after lines : List Line) → lines ≡ before ++ line ∷ after → length before < length lines
place_inside before line after lines e = omega (arith, ap length e, counts before line after)
  where
    counts : (before : List Line) (line : Line) (after : List Line) → length before < length (before ++ line ∷ after)
    counts [] line after = omega arith
    counts (x ∷ before) line after = omega (arith, counts before line after)

-- the place where a bit or a word is defined, as the tables have it
bits-all : (l : Line) → defines_word l ≡ false → bits_of_line l ≡ 1
bits-all (all ls) h = refl
bits-all (any ls) h = refl
bits-all (within w lo hi) h = refl
bits-all (digit w place) h = refl
bits-all (choose cases other) h = cc

bits-none : (l : Line) → defines_word l ≡ true → bits_of_line l ≡ 0
bits-none (all ls) h = cc
bits-none (any ls) h = cc
bits-none (within w lo hi) h = cc
bits-none (digit w place) h = cc
bits-none (choose cases other) h = refl

words-all : (l : Line) → defines_word l ≡ true → words_of_line l ≡ 1
words-all (all ls) h = cc
words-all (any ls) h = cc
words-all (within w lo hi) h = cc
words-all (digit w place) h = cc
words-all (choose cases other) h = refl

words-none : (l : Line) → defines_word l ≡ false → words_of_line l ≡ 0
words-none (all ls) h = refl
words-none (any ls) h = refl
words-none (within w lo hi) h = refl
words-none (digit w place) h = refl
words-none (choose cases other) h = cc

abbrev pick : Bool → List (Option ℕ) → List (Option ℕ) → List (Option ℕ)
pick b xs ys = if b then xs else ys

bit_at : (p : ℕ) (before : List Line) (line : Line) (after : List Line) → defines_word line ≡ false → get_or (bit_places p (before ++ line ∷ after)) (bit_lines before) None ≡ Some (p + length before)
bit_at p [] line after h = rw h (ap Some (omega arith))
bit_at p (l ∷ before) line after h = elim (true_or_false (defines_word l)) [
  | inl w ↦ subst (λ b. get_or (pick b (bit_places (suc p) (before ++ line ∷ after)) (Some p ∷ bit_places (suc p) (before ++ line ∷ after))) (bit_lines (l ∷ before)) None ≡ Some (p + length (l ∷ before))) (sym w)
      (let n : bit_lines before ≡ bit_lines (l ∷ before) = omega (arith, bits-none l w) in subst (λ k. get_or (bit_places (suc p) (before ++ line ∷ after)) k None ≡ Some (p + suc (length before))) n (bit_at (suc p) before line after h ∙ ap Some (omega arith)))
  | inr w ↦ subst (λ b. get_or (pick b (bit_places (suc p) (before ++ line ∷ after)) (Some p ∷ bit_places (suc p) (before ++ line ∷ after))) (bit_lines (l ∷ before)) None ≡ Some (p + length (l ∷ before))) (sym w)
      (let n : suc (bit_lines before) ≡ bit_lines (l ∷ before) = omega (arith, bits-all l w) in subst (λ k. get_or (Some p ∷ bit_places (suc p) (before ++ line ∷ after)) k None ≡ Some (p + suc (length before))) n (bit_at (suc p) before line after h ∙ ap Some (omega arith)))
]

word_at : (p : ℕ) (before : List Line) (line : Line) (after : List Line) → defines_word line ≡ true → get_or (word_places p (before ++ line ∷ after)) (word_lines before) None ≡ Some (p + length before)
word_at p [] line after h = rw h (ap Some (omega arith))
word_at p (l ∷ before) line after h = elim (true_or_false (defines_word l)) [
  | inl w ↦ subst (λ b. get_or (pick b (Some p ∷ word_places (suc p) (before ++ line ∷ after)) (word_places (suc p) (before ++ line ∷ after))) (word_lines (l ∷ before)) None ≡ Some (p + length (l ∷ before))) (sym w)
      (let n : suc (word_lines before) ≡ word_lines (l ∷ before) = omega (arith, words-all l w) in subst (λ k. get_or (Some p ∷ word_places (suc p) (before ++ line ∷ after)) k None ≡ Some (p + suc (length before))) n (word_at (suc p) before line after h ∙ ap Some (omega arith)))
  | inr w ↦ subst (λ b. get_or (pick b (Some p ∷ word_places (suc p) (before ++ line ∷ after)) (word_places (suc p) (before ++ line ∷ after))) (word_lines (l ∷ before)) None ≡ Some (p + length (l ∷ before))) (sym w)
      (let n : word_lines before ≡ word_lines (l ∷ before) = omega (arith, words-none l w) in subst (λ k. get_or (word_places (suc p) (before ++ line ∷ after)) k None ≡ Some (p + suc (length before))) n (word_at (suc p) before line after h ∙ ap Some (omega arith)))
]

-- where a table has an entry, a line of this kind stands
record IsEntry (p : ℕ) (lines : List Line) (count : List Line → ℕ) (kind : Bool) (j : ℕ) (entry : Option ℕ) : Type 0 where
  before : List Line
  line : Line
  after : List Line
  stands : lines ≡ before ++ line ∷ after
  is : entry ≡ Some (p + length before)
  counts : count before ≡ j
  kind_is : defines_word line ≡ kind

some_bit : (p : ℕ) (lines : List Line) (j : ℕ) → j < bit_lines lines → IsEntry p lines bit_lines false j (get_or (bit_places p lines) j None)
some_bit p [] j l = absurd (omega arith)
some_bit p (x ∷ lines) j l = elim (true_or_false (defines_word x)) [
  | inl w ↦ subst (λ b. IsEntry p (x ∷ lines) bit_lines false j (get_or (pick b (bit_places (suc p) lines) (Some p ∷ bit_places (suc p) lines)) j None)) (sym w) (behind (some_bit (suc p) lines j (omega (arith, bits-none x w))) (bits-none x w))
  | inr w ↦ subst (λ b. IsEntry p (x ∷ lines) bit_lines false j (get_or (pick b (bit_places (suc p) lines) (Some p ∷ bit_places (suc p) lines)) j None)) (sym w) (here w j l (λ k m. some_bit (suc p) lines k m))
]
  where
    behind : IsEntry (suc p) lines bit_lines false j (get_or (bit_places (suc p) lines) j None) → bits_of_line x ≡ 0 → IsEntry p (x ∷ lines) bit_lines false j (get_or (bit_places (suc p) lines) j None)
    behind h z = record { before = x ∷ h.before; line = h.line; after = h.after; stands = ap (λ (ls : List Line). x ∷ ls) h.stands; is = h.is ∙ ap Some (omega arith); counts = omega (arith, h.counts, z); kind_is = h.kind_is }

    here : defines_word x ≡ false → (i : ℕ) → i < bit_lines (x ∷ lines) → ((k : ℕ) → k < bit_lines lines → IsEntry (suc p) lines bit_lines false k (get_or (bit_places (suc p) lines) k None)) → IsEntry p (x ∷ lines) bit_lines false i (get_or (Some p ∷ bit_places (suc p) lines) i None)
    here w zero m rest = record { before = []; line = x; after = lines; stands = refl; is = ap Some (omega arith); counts = refl; kind_is = w }
    here w (suc i) m rest =
        let h = rest i (omega (arith, bits-all x w)) in
        record { before = x ∷ h.before; line = h.line; after = h.after; stands = ap (λ (ls : List Line). x ∷ ls) h.stands; is = h.is ∙ ap Some (omega arith); counts = omega (arith, h.counts, bits-all x w); kind_is = h.kind_is }

some_word : (p : ℕ) (lines : List Line) (j : ℕ) → j < word_lines lines → IsEntry p lines word_lines true j (get_or (word_places p lines) j None)
some_word p [] j l = absurd (omega arith)
some_word p (x ∷ lines) j l = elim (true_or_false (defines_word x)) [
  | inr w ↦ subst (λ b. IsEntry p (x ∷ lines) word_lines true j (get_or (pick b (Some p ∷ word_places (suc p) lines) (word_places (suc p) lines)) j None)) (sym w) (behind (some_word (suc p) lines j (omega (arith, words-none x w))) (words-none x w))
  | inl w ↦ subst (λ b. IsEntry p (x ∷ lines) word_lines true j (get_or (pick b (Some p ∷ word_places (suc p) lines) (word_places (suc p) lines)) j None)) (sym w) (here w j l (λ k m. some_word (suc p) lines k m))
]
  where
    behind : IsEntry (suc p) lines word_lines true j (get_or (word_places (suc p) lines) j None) → words_of_line x ≡ 0 → IsEntry p (x ∷ lines) word_lines true j (get_or (word_places (suc p) lines) j None)
    behind h z = record { before = x ∷ h.before; line = h.line; after = h.after; stands = ap (λ (ls : List Line). x ∷ ls) h.stands; is = h.is ∙ ap Some (omega arith); counts = omega (arith, h.counts, z); kind_is = h.kind_is }

    here : defines_word x ≡ true → (i : ℕ) → i < word_lines (x ∷ lines) → ((k : ℕ) → k < word_lines lines → IsEntry (suc p) lines word_lines true k (get_or (word_places (suc p) lines) k None)) → IsEntry p (x ∷ lines) word_lines true i (get_or (Some p ∷ word_places (suc p) lines) i None)
    here w zero m rest = record { before = []; line = x; after = lines; stands = refl; is = ap Some (omega arith); counts = refl; kind_is = w }
    here w (suc i) m rest =
        let h = rest i (omega (arith, words-all x w)) in
        record { before = x ∷ h.before; line = h.line; after = h.after; stands = ap (λ (ls : List Line). x ∷ ls) h.stands; is = h.is ∙ ap Some (omega arith); counts = omega (arith, h.counts, words-all x w); kind_is = h.kind_is }

-- past the table there is no entry
length-bit_places : (p : ℕ) (lines : List Line) → length (bit_places p lines) ≡ bit_lines lines
length-bit_places p [] = refl
length-bit_places p (x ∷ lines) = elim (true_or_false (defines_word x)) [
  | inl w ↦ subst (λ b. length (pick b (bit_places (suc p) lines) (Some p ∷ bit_places (suc p) lines)) ≡ bit_lines (x ∷ lines)) (sym w) (omega (arith, length-bit_places (suc p) lines, bits-none x w))
  | inr w ↦ subst (λ b. length (pick b (bit_places (suc p) lines) (Some p ∷ bit_places (suc p) lines)) ≡ bit_lines (x ∷ lines)) (sym w) (omega (arith, length-bit_places (suc p) lines, bits-all x w))
]

length-word_places : (p : ℕ) (lines : List Line) → length (word_places p lines) ≡ word_lines lines
length-word_places p [] = refl
length-word_places p (x ∷ lines) = elim (true_or_false (defines_word x)) [
  | inl w ↦ subst (λ b. length (pick b (Some p ∷ word_places (suc p) lines) (word_places (suc p) lines)) ≡ word_lines (x ∷ lines)) (sym w) (omega (arith, length-word_places (suc p) lines, words-all x w))
  | inr w ↦ subst (λ b. length (pick b (Some p ∷ word_places (suc p) lines) (word_places (suc p) lines)) ≡ word_lines (x ∷ lines)) (sym w) (omega (arith, length-word_places (suc p) lines, words-none x w))
]

get_inside : (xs : List (Option ℕ)) (j w : ℕ) → get_or xs j None ≡ Some w → j < length xs
get_inside [] j w e = cc
get_inside (x ∷ xs) zero w e = omega arith
get_inside (x ∷ xs) (suc j) w e = omega (arith, get_inside xs j w e)

pub eq_true : (a b : ℕ) → nat_eq a b ≡ true → a ≡ b
eq_true a b h = grind (arith, nat_tests)

pub eq_at : (a b : ℕ) → a ≡ b → nat_eq a b ≡ true
eq_at a b e = grind (arith, nat_tests)

lt_true : (a b : ℕ) → a < b → nat_lt a b ≡ true
lt_true a b h = grind (arith, nat_tests)

lt_false : (a b : ℕ) → b ≤ a → nat_lt a b ≡ false
lt_false a b h = grind (arith, nat_tests)

pub lt_below : (a b : ℕ) → nat_lt a b ≡ true → a < b
lt_below a b h = grind (arith, nat_tests)

lt_above : (a b : ℕ) → nat_lt a b ≡ false → b ≤ a
lt_above a b h = grind (arith, nat_tests)

abbrev entry : Bool → Option ℕ → Option ℕ
entry b x = if b then None else x

-- an item is defined where the tables say, and nowhere else
pub record IsDefined (E : Equations) (w : ℕ) (x : Item) : Type 0 where
  pub line : Line
  pub defines : Defines E w line x

module _ (E : Equations) where
  abbrev T : Origins
  T = origins_of E

  bit_here : (before : List Line) (line : Line) (after : List Line) (k v : ℕ) → E.lines ≡ before ++ line ∷ after → length before ≡ v → defines_word line ≡ false → E.inputs + bit_lines before ≡ k → line_of_bit T k ≡ Some v
  bit_here before line after k v e p w d =
      ap (λ b. entry b (get_or T.bits (k - E.inputs) None)) (lt_false k E.inputs (omega arith))
      ∙ ap (λ (ls : List Line). get_or (bit_places 0 ls) (k - E.inputs) None) e
      ∙ (let j : k - E.inputs ≡ bit_lines before = omega arith in ap (λ i. get_or (bit_places 0 (before ++ line ∷ after)) i None) j)
      ∙ bit_at 0 before line after w ∙ ap Some (omega arith)

  word_here : (before : List Line) (line : Line) (after : List Line) (k v : ℕ) → E.lines ≡ before ++ line ∷ after → length before ≡ v → defines_word line ≡ true → registers E + word_lines before ≡ k → line_of_word T k ≡ Some v
  word_here before line after k v e p w d =
      ap (λ b. entry b (get_or T.words (k - registers E) None)) (lt_false k (registers E) (omega arith))
      ∙ ap (λ (ls : List Line). get_or (word_places 0 ls) (k - registers E) None) e
      ∙ (let j : k - registers E ≡ word_lines before = omega arith in ap (λ i. get_or (word_places 0 (before ++ line ∷ after)) i None) j)
      ∙ word_at 0 before line after w ∙ ap Some (omega arith)

  kind : (before : List Line) (line : Line) (k : ℕ) → defined_item E before line ≡ bit_item k → (defines_word line ≡ false) × (E.inputs + bit_lines before ≡ k)
  kind before (all ls) k h = (refl, cc)
  kind before (any ls) k h = (refl, cc)
  kind before (within w lo hi) k h = (refl, cc)
  kind before (digit w place) k h = (refl, cc)
  kind before (choose cases other) k h = cc

  kind_word : (before : List Line) (line : Line) (k : ℕ) → defined_item E before line ≡ word_item k → (defines_word line ≡ true) × (registers E + word_lines before ≡ k)
  kind_word before (all ls) k h = cc
  kind_word before (any ls) k h = cc
  kind_word before (within w lo hi) k h = cc
  kind_word before (digit w place) k h = cc
  kind_word before (choose cases other) k h = (refl, cc)

  item_bit : (before : List Line) (line : Line) → defines_word line ≡ false → defined_item E before line ≡ bit_item (E.inputs + bit_lines before)
  item_bit before (all ls) h = refl
  item_bit before (any ls) h = refl
  item_bit before (within w lo hi) h = refl
  item_bit before (digit w place) h = refl
  item_bit before (choose cases other) h = cc

  item_word : (before : List Line) (line : Line) → defines_word line ≡ true → defined_item E before line ≡ word_item (registers E + word_lines before)
  item_word before (all ls) h = cc
  item_word before (any ls) h = cc
  item_word before (within w lo hi) h = cc
  item_word before (digit w place) h = cc
  item_word before (choose cases other) h = refl

  pub bit_found : (v k : ℕ) (line : Line) → Defines E v line (bit_item k) → line_of_bit T k ≡ Some v
  bit_found v k line h = let d = kind h.before line k h.is in bit_here h.before line h.after k v h.stands h.place_is d.0 d.1

  pub word_found : (v k : ℕ) (line : Line) → Defines E v line (word_item k) → line_of_word T k ≡ Some v
  word_found v k line h = let d = kind_word h.before line k h.is in word_here h.before line h.after k v h.stands h.place_is d.0 d.1

  -- no line defines a register
  pub no_register : (v k : ℕ) (line : Line) → Defines E v line (word_item k) → registers E ≤ k
  no_register v k line h = let d = kind_word h.before line k h.is in omega (arith, d.1)

  record IsBitAt (k : ℕ) : Type 0 where
    place : ℕ
    is : line_of_bit T k ≡ Some place
    defined : IsDefined E place (bit_item k)

  bit_entry : (k : ℕ) → E.inputs ≤ k → k < bit_count E → IsBitAt k
  bit_entry k l m =
      let h = some_bit 0 E.lines (k - E.inputs) (omega arith) in
      let number : E.inputs + bit_lines h.before ≡ k = omega (arith, h.counts) in
      record {
        place = length h.before;
        is = bit_here h.before h.line h.after k (length h.before) h.stands refl h.kind_is number;
        defined = record { line = h.line; defines = record { before = h.before; after = h.after; stands = h.stands; place_is = refl; is = item_bit h.before h.line h.kind_is ∙ ap bit_item number } };
      }

  record IsWordAt (k : ℕ) : Type 0 where
    place : ℕ
    is : line_of_word T k ≡ Some place
    defined : IsDefined E place (word_item k)

  word_entry : (k : ℕ) → registers E ≤ k → k < word_count E → IsWordAt k
  word_entry k l m =
      let h = some_word 0 E.lines (k - registers E) (omega arith) in
      let number : registers E + word_lines h.before ≡ k = omega (arith, h.counts) in
      record {
        place = length h.before;
        is = word_here h.before h.line h.after k (length h.before) h.stands refl h.kind_is number;
        defined = record { line = h.line; defines = record { before = h.before; after = h.after; stands = h.stands; place_is = refl; is = item_word h.before h.line h.kind_is ∙ ap word_item number } };
      }

  -- each bit that exists is an input, or a line defines it
  pub bit_defined : (k : ℕ) → k < bit_count E → (k < E.inputs) ⊎ ((v : ℕ) × IsDefined E v (bit_item k))
  bit_defined k m = elim (true_or_false (nat_lt k E.inputs)) [ inl y ↦ inl (lt_below k E.inputs y) | inr n ↦ (let b = bit_entry k (lt_above k E.inputs n) m in inr (b.place, b.defined)) ]

  pub word_defined : (k : ℕ) → k < word_count E → (k < registers E) ⊎ ((v : ℕ) × IsDefined E v (word_item k))
  word_defined k m = elim (true_or_false (nat_lt k (registers E))) [ inl y ↦ inl (lt_below k (registers E) y) | inr n ↦ (let b = word_entry k (lt_above k (registers E) n) m in inr (b.place, b.defined)) ]

  pub bit_is : (k w : ℕ) → line_of_bit T k ≡ Some w → IsDefined E w (bit_item k)
  bit_is k w e = elim (true_or_false (nat_lt k E.inputs)) [
    | inl y ↦ (let bad : None ≡ Some w = ap (λ b. entry b (get_or T.bits (k - E.inputs) None)) (sym y) ∙ e in cc)
    | inr n ↦ at (lt_above k E.inputs n) (ap (λ b. entry b (get_or T.bits (k - E.inputs) None)) (sym n) ∙ e)
  ]
    where
      at : E.inputs ≤ k → get_or T.bits (k - E.inputs) None ≡ Some w → IsDefined E w (bit_item k)
      at l g =
          let b = bit_entry k l (omega (arith, get_inside T.bits (k - E.inputs) w g, length-bit_places 0 E.lines)) in
          let same : Some b.place ≡ Some w = sym b.is ∙ e in
          let same' : b.place ≡ w = cc in
          subst (λ z. IsDefined E z (bit_item k)) same' b.defined

  pub word_is : (k w : ℕ) → line_of_word T k ≡ Some w → IsDefined E w (word_item k)
  word_is k w e = elim (true_or_false (nat_lt k (registers E))) [
    | inl y ↦ (let bad : None ≡ Some w = ap (λ b. entry b (get_or T.words (k - registers E) None)) (sym y) ∙ e in cc)
    | inr n ↦ at (lt_above k (registers E) n) (ap (λ b. entry b (get_or T.words (k - registers E) None)) (sym n) ∙ e)
  ]
    where
      at : registers E ≤ k → get_or T.words (k - registers E) None ≡ Some w → IsDefined E w (word_item k)
      at l g =
          let b = word_entry k l (omega (arith, get_inside T.words (k - registers E) w g, length-word_places 0 E.lines)) in
          let same : Some b.place ≡ Some w = sym b.is ∙ e in
          let same' : b.place ≡ w = cc in
          subst (λ z. IsDefined E z (word_item k)) same' b.defined

  -- two lines don't define one item, and one line doesn't define two
  pub same_line : (v w : ℕ) (l m : Line) (x : Item) → Defines E v l x → Defines E w m x → v ≡ w
  same_line v w l m (bit_item k) h i = let e = bit_found v k l h in let f = bit_found w k m i in cc
  same_line v w l m (word_item k) h i = let e = word_found v k l h in let f = word_found w k m i in cc

  same_split : (b c : List Line) (l m : Line) (a d : List Line) → b ++ l ∷ a ≡ c ++ m ∷ d → length b ≡ length c → (b ≡ c) × (l ≡ m)
  same_split [] [] l m a d e n = (refl, cc)
  same_split [] (y ∷ c) l m a d e n = absurd (omega arith)
  same_split (x ∷ b) [] l m a d e n = absurd (omega arith)
  same_split (x ∷ b) (y ∷ c) l m a d e n =
      let head : x ≡ y = cc in
      let tail : b ++ l ∷ a ≡ c ++ m ∷ d = cc in
      let rest = same_split b c l m a d tail (omega arith) in
      (ap (λ (z : Line). z ∷ b) head ∙ ap (λ (zs : List Line). y ∷ zs) rest.0, rest.1)

  pub same_lines : (v : ℕ) (l m : Line) (x y : Item) → Defines E v l x → Defines E v m y → l ≡ m
  same_lines v l m x y h i = (same_split h.before i.before l m h.after i.after (sym h.stands ∙ i.stands) (h.place_is ∙ sym i.place_is)).1

  pub same_item : (v : ℕ) (l m : Line) (x y : Item) → Defines E v l x → Defines E v m y → x ≡ y
  same_item v l m x y h i =
      let s = same_split h.before i.before l m h.after i.after (sym h.stands ∙ i.stands) (h.place_is ∙ sym i.place_is) in
      sym h.is ∙ ap (λ (b : List Line). defined_item E b l) s.0 ∙ ap (defined_item E i.before) s.1 ∙ i.is

-- a bit that is given has no line, and the others keep theirs
given-same : (T : Origins) (k : ℕ) → line_of_bit (with_given T k) k ≡ None
given-same T k = elim (true_or_false (nat_lt k T.inputs)) [
  | inl y ↦ rw y refl
  | inr n ↦ rw n (gone T.bits (k - T.inputs))
]
  where
    gone : (xs : List (Option ℕ)) (j : ℕ) → get_or (set xs j None) j None ≡ None
    gone [] j = refl
    gone (x ∷ xs) zero = refl
    gone (x ∷ xs) (suc j) = gone xs j

given-other : (T : Origins) (g k : ℕ) → g ≢ k → line_of_bit (with_given T g) k ≡ line_of_bit T k
given-other T g k n = elim (true_or_false (nat_lt k T.inputs)) [
  | inl y ↦ rw y refl
  | inr m ↦ elim (true_or_false (nat_lt g T.inputs)) [
    | inl y ↦ rw y refl
    | inr y ↦ kept (lt_above g T.inputs y) (lt_above k T.inputs m) m y
  ]
]
  where
    kept : T.inputs ≤ g → T.inputs ≤ k → nat_lt k T.inputs ≡ false → nat_lt g T.inputs ≡ false → line_of_bit (with_given T g) k ≡ line_of_bit T k
    kept a b m y = let apart : k - T.inputs ≢ g - T.inputs = omega arith in rw (m, y) (get_or-set_other T.bits (g - T.inputs) (k - T.inputs) None None apart)

eq_false : (a b : ℕ) → nat_eq a b ≡ false → a ≡ b → ⊥
eq_false a b h e = grind (arith, nat_tests)

pub given-kept : (ks : List ℕ) (T : Origins) (k : ℕ) → lists ks k ≡ false → line_of_bit (all_given T ks) k ≡ line_of_bit T k
given-kept [] T k h = refl
given-kept (g ∷ ks) T k h = given-kept ks (with_given T g) k (or_second_false (nat_eq g k) (lists ks k) h) ∙ given-other T g k (λ e. eq_false g k (or_first_false (nat_eq g k) (lists ks k) h) e)

pub given-none : (ks : List ℕ) (T : Origins) (k : ℕ) → lists ks k ≡ true → line_of_bit (all_given T ks) k ≡ None
given-none [] T k h = cc
given-none (g ∷ ks) T k h = elim (true_or_false (lists ks k)) [
  | inl y ↦ given-none ks (with_given T g) k y
  | inr n ↦ first (or_cases (nat_eq g k) (lists ks k) h) n
]
  where
    first : (nat_eq g k ≡ true) ⊎ (lists ks k ≡ true) → lists ks k ≡ false → line_of_bit (all_given (with_given T g) ks) k ≡ None
    first c n = elim c [
      | inl e ↦ given-kept ks (with_given T g) k n ∙ ap (λ z. line_of_bit (with_given T z) k) (eq_true g k e) ∙ given-same T k
      | inr y ↦ cc
    ]

pub given-word : (ks : List ℕ) (T : Origins) (k : ℕ) → line_of_word (all_given T ks) k ≡ line_of_word T k
given-word [] T k = refl
given-word (g ∷ ks) T k = given-word ks (with_given T g) k
