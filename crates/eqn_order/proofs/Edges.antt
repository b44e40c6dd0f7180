-- The edges of the graph are the lines that read what lines define.
use Rattle.std.proofs.Common.{◌≡◌, ◌⊎◌, inl, inr, ℕ, zero, suc, ◌<◌, List, [], ◌∷◌, ◌++◌, Option, Some, None, Bool, true, false, length, refl, sym, ap, ◌∙◌, subst, arith}
use Rattle.std.specs.Prelude.{nat_eq, nat_lt}
use Rattle.std.proofs.lemmas.List.{length-map}
use Rattle.std.proofs.lemmas.Bool.Decides.{nat_tests}
use Rattle.argos_base.specs.SignalSets.{lists}
use Rattle.argos_base.proofs.Bools.{true_or_false, or_cases, or_left, or_right, and_first, and_second}
use Rattle.eqn_core.specs.Dependence.{Item, bit_item, word_item, some_literal, choice_reads, some_when, some_choice, line_reads, Defines}
use Rattle.eqn_core.specs.Equations.{Literal, Case, Choice, code, word, next, Line, all, any, within, digit, choose, Equations, registers}
use Rattle.eqn_core.specs.Ordered.{literal_below, choice_below, case_below, line_below}
use Rattle.eqn_core.specs.Orderable.{IsOrderable}
use Rattle.std.specs.List.{list_all}
use Rattle.eqn_order.specs.inner.Graphs.{row, Stands, IsEdge, AreRows}
use Rattle.eqn_order.specs.inner.Sources.{Origins, origins_of, line_of_bit, line_of_word, all_given, or_nothing, lines_of_literals, lines_of_cases, lines_read, graph_of}
use Rattle.eqn_order.proofs.Places.{Stands-none, Stands-behind, Stands-first, Stands-either, row_inside}
use Rattle.eqn_order.proofs.Tables.{Split, split_at, bit_found, word_found, no_register, bit_is, word_is, given-none, given-kept, given-word, eq_true, eq_at, lt_below, place_inside}

-- a line that is read, by a bit or by a word
pub data Reads (T : Origins) (l : Line) (w : ℕ) : Type 0 where
  by_bit : (k : ℕ) → line_reads l (bit_item k) ≡ true → line_of_bit T k ≡ Some w → Reads T l w
  by_word : (k : ℕ) → line_reads l (word_item k) ≡ true → line_of_word T k ≡ Some w → Reads T l w

record ReadsBit (T : Origins) (w : ℕ) (reads : ℕ → Bool) : Type 0 where
  bit : ℕ
  reads_it : reads bit ≡ true
  is : line_of_bit T bit ≡ Some w

module _ (T : Origins) where
  in_or_nothing : (x : Option ℕ) (rest : List ℕ) (w : ℕ) → Stands (or_nothing x ++ rest) w → (x ≡ Some w) ⊎ Stands rest w
  in_or_nothing None rest w h = inr h
  in_or_nothing (Some v) rest w h = elim (Stands-either rest v w h) [ inl e ↦ inl (ap Some e) | inr s ↦ inr s ]

  or_nothing_in : (x : Option ℕ) (rest : List ℕ) (w : ℕ) → x ≡ Some w → Stands (or_nothing x ++ rest) w
  or_nothing_in None rest w e = cc
  or_nothing_in (Some v) rest w e = let e' : v ≡ w = cc in subst (λ z. Stands (v ∷ rest) z) e' (Stands-first rest v)

  behind_or_nothing : (x : Option ℕ) (rest : List ℕ) (w : ℕ) → Stands rest w → Stands (or_nothing x ++ rest) w
  behind_or_nothing None rest w h = h
  behind_or_nothing (Some v) rest w h = Stands-behind rest v w h

  alone : (x : Option ℕ) (w : ℕ) → Stands (or_nothing x) w → x ≡ Some w
  alone None w h = Stands-none w h
  alone (Some v) w h = elim (Stands-either [] v w h) [ inl e ↦ ap Some e | inr s ↦ Stands-none w s ]

  alone_in : (x : Option ℕ) (w : ℕ) → x ≡ Some w → Stands (or_nothing x) w
  alone_in None w e = cc
  alone_in (Some v) w e = let e' : v ≡ w = cc in subst (λ z. Stands (v ∷ []) z) e' (Stands-first [] v)

  literal_read : (ls : List Literal) (w : ℕ) → Stands (lines_of_literals T ls) w → ReadsBit T w (some_literal ls)
  literal_read [] w h = Stands-none w h
  literal_read (l ∷ ls) w h = elim (in_or_nothing (line_of_bit T l.bit) (lines_of_literals T ls) w h) [
    | inl e ↦ record { bit = l.bit; reads_it = or_left (nat_eq l.bit l.bit) (some_literal ls l.bit) (eq_at l.bit l.bit refl); is = e }
    | inr s ↦ (let r = literal_read ls w s in record { bit = r.bit; reads_it = or_right (nat_eq l.bit r.bit) (some_literal ls r.bit) r.reads_it; is = r.is })
  ]

  case_read : (cs : List Case) (w : ℕ) → Stands (lines_of_cases T cs) w → ReadsBit T w (some_when cs)
  case_read [] w h = Stands-none w h
  case_read (c ∷ cs) w h = elim (in_or_nothing (line_of_bit T c.when.bit) (lines_of_cases T cs) w h) [
    | inl e ↦ record { bit = c.when.bit; reads_it = or_left (nat_eq c.when.bit c.when.bit) (some_when cs c.when.bit) (eq_at c.when.bit c.when.bit refl); is = e }
    | inr s ↦ (let r = case_read cs w s in record { bit = r.bit; reads_it = or_right (nat_eq c.when.bit r.bit) (some_when cs r.bit) r.reads_it; is = r.is })
  ]

  read_by : (l : Line) (w : ℕ) → Stands (lines_read T l) w → Reads T l w
  read_by (all ls) w h = let r = literal_read ls w h in by_bit r.bit r.reads_it r.is
  read_by (any ls) w h = let r = literal_read ls w h in by_bit r.bit r.reads_it r.is
  read_by (within x lo hi) w h = by_word x (eq_at x x refl) (alone (line_of_word T x) w h)
  read_by (digit x place) w h = by_word x (eq_at x x refl) (alone (line_of_word T x) w h)
  read_by (choose cases other) w h = let r = case_read cases w h in by_bit r.bit r.reads_it r.is

  literal_in : (ls : List Literal) (k w : ℕ) → some_literal ls k ≡ true → line_of_bit T k ≡ Some w → Stands (lines_of_literals T ls) w
  literal_in [] k w h e = cc
  literal_in (l ∷ ls) k w h e = elim (or_cases (nat_eq l.bit k) (some_literal ls k) h) [
    | inl y ↦ or_nothing_in (line_of_bit T l.bit) (lines_of_literals T ls) w (ap (line_of_bit T) (eq_true l.bit k y) ∙ e)
    | inr y ↦ behind_or_nothing (line_of_bit T l.bit) (lines_of_literals T ls) w (literal_in ls k w y e)
  ]

  case_in : (cs : List Case) (k w : ℕ) → some_when cs k ≡ true → line_of_bit T k ≡ Some w → Stands (lines_of_cases T cs) w
  case_in [] k w h e = cc
  case_in (c ∷ cs) k w h e = elim (or_cases (nat_eq c.when.bit k) (some_when cs k) h) [
    | inl y ↦ or_nothing_in (line_of_bit T c.when.bit) (lines_of_cases T cs) w (ap (line_of_bit T) (eq_true c.when.bit k y) ∙ e)
    | inr y ↦ behind_or_nothing (line_of_bit T c.when.bit) (lines_of_cases T cs) w (case_in cs k w y e)
  ]

  bit_in : (l : Line) (k w : ℕ) → line_reads l (bit_item k) ≡ true → line_of_bit T k ≡ Some w → Stands (lines_read T l) w
  bit_in (all ls) k w h e = literal_in ls k w h e
  bit_in (any ls) k w h e = literal_in ls k w h e
  bit_in (within x lo hi) k w h e = cc
  bit_in (digit x place) k w h e = cc
  bit_in (choose cases other) k w h e = case_in cases k w h e

  -- a word that isn't picked
  word_in : (l : Line) (k w : ℕ) → line_reads l (word_item k) ≡ true → line_of_word T k ≡ Some w → Stands (lines_read T l) w ⊎ ((cases : List Case) × (other : Choice) × (l ≡ choose cases other))
  word_in (all ls) k w h e = cc
  word_in (any ls) k w h e = cc
  word_in (within x lo hi) k w h e = inl (alone_in (line_of_word T x) w (ap (line_of_word T) (eq_true x k h) ∙ e))
  word_in (digit x place) k w h e = inl (alone_in (line_of_word T x) w (ap (line_of_word T) (eq_true x k h) ∙ e))
  word_in (choose cases other) k w h e = inr (cases, other, refl)

row-graph : (T : Origins) (before : List Line) (line : Line) (after : List Line) → row (graph_of T (before ++ line ∷ after)) (length before) ≡ lines_read T line
row-graph T [] line after = refl
row-graph T (x ∷ before) line after = row-graph T before line after

abbrev pub is_given : List ℕ → Item → Bool
is_given ks (bit_item k) = lists ks k
is_given ks (word_item k) = false

-- what is read is below these numbers
literal_under : (ls : List Literal) (n k : ℕ) → list_all (literal_below n) ls ≡ true → some_literal ls k ≡ true → k < n
literal_under [] n k h s = cc
literal_under (l ∷ ls) n k h s = elim (or_cases (nat_eq l.bit k) (some_literal ls k) s) [
  | inl y ↦ omega (arith, eq_true l.bit k y, lt_below l.bit n (and_first _ _ h))
  | inr y ↦ literal_under ls n k (and_second (literal_below n l) _ h) y
]

when_under : (cs : List Case) (n m k : ℕ) → list_all (case_below n m) cs ≡ true → some_when cs k ≡ true → k < n
when_under [] n m k h s = cc
when_under (c ∷ cs) n m k h s = elim (or_cases (nat_eq c.when.bit k) (some_when cs k) s) [
  | inl y ↦ omega (arith, eq_true c.when.bit k y, lt_below c.when.bit n (and_first _ _ (and_first _ _ h)))
  | inr y ↦ when_under cs n m k (and_second (case_below n m c) _ h) y
]

choice_under : (c : Choice) (m k : ℕ) → choice_below m c ≡ true → choice_reads c k ≡ true → k < m
choice_under (code x) m k h s = cc
choice_under (word x) m k h s = omega (arith, eq_true x k s, lt_below x m h)
choice_under (next x) m k h s = omega (arith, eq_true x k s, lt_below x m h)

choices_under : (cs : List Case) (n m k : ℕ) → list_all (case_below n m) cs ≡ true → some_choice cs k ≡ true → k < m
choices_under [] n m k h s = cc
choices_under (c ∷ cs) n m k h s = elim (or_cases (choice_reads c.choice k) (some_choice cs k) s) [
  | inl y ↦ choice_under c.choice m k (and_second (literal_below n c.when) _ (and_first _ _ h)) y
  | inr y ↦ choices_under cs n m k (and_second (case_below n m c) _ h) y
]

pub bit_under : (l : Line) (n m k : ℕ) → line_below n m l ≡ true → line_reads l (bit_item k) ≡ true → k < n
bit_under (all ls) n m k h s = literal_under ls n k h s
bit_under (any ls) n m k h s = literal_under ls n k h s
bit_under (within x lo hi) n m k h s = cc
bit_under (digit x place) n m k h s = cc
bit_under (choose cases other) n m k h s = when_under cases n m k (and_first _ _ h) s

pub word_under : (l : Line) (n m k : ℕ) → line_below n m l ≡ true → line_reads l (word_item k) ≡ true → k < m
word_under (all ls) n m k h s = cc
word_under (any ls) n m k h s = cc
word_under (within x lo hi) n m k h s = omega (arith, eq_true x k s, lt_below x m (and_first _ _ h))
word_under (digit x place) n m k h s = omega (arith, eq_true x k s, lt_below x m (and_first _ _ h))
word_under (choose cases other) n m k h s = elim (or_cases (some_choice cases k) (choice_reads other k) s) [
  | inl y ↦ choices_under cases n m k (and_first _ _ h) y
  | inr y ↦ choice_under other m k (and_second (list_all (case_below n m) cases) _ h) y
]

module _ (E : Equations) (ks : List ℕ) where
  abbrev pub G : List (List ℕ)
  G = graph_of (all_given (origins_of E) ks) E.lines

  -- an edge comes from a line that reads what another defines, and that isn't given
  pub record Comes (v w : ℕ) : Type 0 where
    pub x : Item
    pub y : Item
    pub line : Line
    pub target : Line
    pub source : Defines E v line x
    pub reads : line_reads line y ≡ true
    pub target_is : Defines E w target y
    pub free : is_given ks y ≡ false

  pub edge_comes : (v w : ℕ) → IsEdge G v w → Comes v w
  edge_comes v w g =
      let inside : v < length E.lines = omega (arith, row_inside G v w g, length-map E.lines (lines_read (all_given (origins_of E) ks))) in
      let s : Split E.lines v = split_at E.lines v inside in
      let here : row G v ≡ lines_read (all_given (origins_of E) ks) s.line = ap (λ (ls : List Line). row (graph_of (all_given (origins_of E) ks) ls) v) s.stands ∙ ap (λ z. row (graph_of (all_given (origins_of E) ks) (s.before ++ s.line ∷ s.after)) z) (sym s.place_is) ∙ row-graph (all_given (origins_of E) ks) s.before s.line s.after in
      by s (read_by (all_given (origins_of E) ks) s.line w (subst (λ xs. Stands xs w) here g))
    where
      by : (s : Split E.lines v) → Reads (all_given (origins_of E) ks) s.line w → Comes v w
      by s (by_bit k r e) =
          let free : lists ks k ≡ false = elim (true_or_false (lists ks k)) [ inl y ↦ (let bad : None ≡ Some w = sym (given-none ks (origins_of E) k y) ∙ e in cc) | inr n ↦ n ] in
          let d = bit_is E k w (sym (given-kept ks (origins_of E) k free) ∙ e) in
          record { x = _; y = bit_item k; line = s.line; target = d.line; source = record { before = s.before; after = s.after; stands = s.stands; place_is = s.place_is; is = refl }; reads = r; target_is = d.defines; free = free }
      by s (by_word k r e) =
          let d = word_is E k w (sym (given-word ks (origins_of E) k) ∙ e) in
          record { x = _; y = word_item k; line = s.line; target = d.line; source = record { before = s.before; after = s.after; stands = s.stands; place_is = s.place_is; is = refl }; reads = r; target_is = d.defines; free = refl }

  pub comes_edge : (v w : ℕ) (line target : Line) (x y : Item) → IsOrderable E → Defines E v line x → line_reads line y ≡ true → Defines E w target y → is_given ks y ≡ false → IsEdge G v w
  comes_edge v w line target x y o d r t f = subst (λ xs. Stands xs w) (sym here) (at y r t f)
    where
      here : row G v ≡ lines_read (all_given (origins_of E) ks) line
      here = ap (λ (ls : List Line). row (graph_of (all_given (origins_of E) ks) ls) v) d.stands ∙ ap (λ z. row (graph_of (all_given (origins_of E) ks) (d.before ++ line ∷ d.after)) z) (sym d.place_is) ∙ row-graph (all_given (origins_of E) ks) d.before line d.after

      at : (y : Item) → line_reads line y ≡ true → Defines E w target y → is_given ks y ≡ false → Stands (lines_read (all_given (origins_of E) ks) line) w
      at (bit_item k) r t f = bit_in (all_given (origins_of E) ks) line k w r (given-kept ks (origins_of E) k f ∙ bit_found E w k target t)
      at (word_item k) r t f = elim (word_in (all_given (origins_of E) ks) line k w r (given-word ks (origins_of E) k ∙ word_found E w k target t)) [
        | inl s ↦ s
        | inr c ↦ picked c.0 c.1 c.2
      ]
        where
          picked : (cases : List Case) (other : Choice) → line ≡ choose cases other → Stands (lines_read (all_given (origins_of E) ks) line) w
          picked cases other e =
              let low : k < registers E = o.chooses d.before cases other d.after k (d.stands ∙ ap (λ (l : Line). d.before ++ l ∷ d.after) e) (subst (λ (l : Line). line_reads l (word_item k) ≡ true) e r) in
              absurd (omega (arith, no_register E w k target t))

  pub graph_rows : AreRows G
  graph_rows v w g =
      let c = edge_comes v w g in
      omega (arith, place_inside c.target_is.before c.target c.target_is.after E.lines c.target_is.stands, c.target_is.place_is, length-map E.lines (lines_read (all_given (origins_of E) ks)))
