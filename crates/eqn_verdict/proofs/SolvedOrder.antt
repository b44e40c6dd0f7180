-- The solved system is ordered.
use Rattle.std.proofs.Common.{◌≡◌, ℕ, zero, suc, ◌+◌, ◌*◌, ◌<◌, ◌≤◌, List, [], ◌∷◌, ◌++◌, true, false, nat_eq, nat_lt, refl, sym, ap, ◌∙◌, ◌⊎◌, inl, inr, arith, length}
use Rattle.std.specs.Prelude.{All}
use Rattle.std.specs.List.{list_all}
use Rattle.std.proofs.lemmas.Bool.{cases_lt}
use Rattle.std.proofs.lemmas.Bool.Decides.{nat_tests}
use Rattle.std.proofs.lemmas.List.{length-map}
use Rattle.argos_base.specs.SignalSets.{lists}
use Rattle.argos_base.proofs.Bools.{true_or_false, and_both, or_cases}
use Rattle.eqn_core.specs.Equations.{Literal, Line, any, digit, Equations, registers, bits_of_line, words_of_line, bit_lines, word_lines, bit_count, word_count}
use Rattle.eqn_core.specs.Ordered.{literal_below, line_below, all_below, IsOrdered}
use Rattle.eqn_core.specs.inner.OrderTest.{lines_in_order}
use Rattle.eqn_core.proofs.InOrder.{EachReadsEarlier-from_walk}
use Rattle.eqn_completion.specs.Binary.{digits_in}
use Rattle.eqn_verdict.specs.Branches.{plus, minus, digits_of, digit_lines, variable_bit, Branch, and_node, branch_lines, branches_after, root_lines, IsReference, AreInTurn, AreReferences, ids_with}
use Rattle.eqn_core.specs.Dependence.{Item, bit_item, word_item}
use Rattle.eqn_core.specs.Plans.{IsKnown, input, register, given, earlier_line, IsPlanOf}
use Rattle.eqn_completion.specs.Moving.{given_table, Table, put, Tables, moved_lines}
use Rattle.eqn_core.specs.Orderable.{IsOrderable}
use Rattle.eqn_verdict.specs.Solved.{no_table, first_node, first_root, node_table, first_tables, new_tables, solved_system}
use Rattle.eqn_completion.proofs.Counting.{bits-append, words-append}
use Rattle.eqn_verdict.proofs.Digits.{bits-digit_lines, words-digit_lines}
use Rattle.eqn_completion.proofs.Knowing.{known-bit, known-word, cyclic-high}
use Rattle.eqn_completion.proofs.Moved.{put-cases}
use Rattle.eqn_completion.proofs.MovedOrder.{lt-at, le-at, order-at, order-append, IsBelow, IsMoved, moved, some-bit, some-word}
use Rattle.eqn_completion.proofs.Reading.{nat_eq-tells}
use Rattle.eqn_verdict.proofs.SolvedReactions.{bits-branches, words-branches, bits-roots, words-roots, cyclic-other}

-- a list of lines that define bits alone, with the order of the rest
one-bit : (b w : ℕ) (l : Line) (ls : List Line) → line_below b w l ≡ true → bits_of_line l ≡ 1 → words_of_line l ≡ 0 → lines_in_order (suc b) w ls ≡ true → lines_in_order b w (l ∷ ls) ≡ true
one-bit b w l ls h e f k = and_both _ _ h (order-at (suc b) (b + bits_of_line l) w (w + words_of_line l) ls (omega arith) (omega arith) k)

-- digits
order-digits : (b R k w : ℕ) → k < R → w ≤ 16 → lines_in_order b R (digits_of k w) ≡ true
order-digits b R k zero h e = refl
order-digits b R k (suc w) h e = one-bit b R (digit k w) (digits_of k w) (and_both _ _ (lt-at k R h) (le-at w 15 (omega arith))) refl refl (order-digits (suc b) R k w h (omega arith))

order-digit_lines : (b R k : ℕ) (widths : List ℕ) → k + length widths ≤ R → All (λ w. w ≤ 16) widths → lines_in_order b R (digit_lines k widths) ≡ true
order-digit_lines b R k [] h few = refl
order-digit_lines b R k (w ∷ widths) h few =
    order-append b R (digits_of k w) (digit_lines (suc k) widths) (order-digits b R k w (omega arith) (few 0 0 (omega arith)))
    (order-at _ (b + bit_lines (digits_of k w)) R (R + word_lines (digits_of k w)) (digit_lines (suc k) widths) refl (omega (arith, none k w)) (order-digit_lines (b + bit_lines (digits_of k w)) R (suc k) widths (omega arith) (λ j d below. few (suc j) d (omega arith))))
  where
    none : (k w : ℕ) → word_lines (digits_of k w) ≡ 0
    none k zero = refl
    none k (suc w) = omega (arith, none k w)

-- nodes
kind-node : (ls : List Literal) (f : ℕ) (table : Table) → (bits_of_line (and_node ls f table) ≡ 1) × (words_of_line (and_node ls f table) ≡ 0)
kind-node ls zero table = (refl, refl)
kind-node ls (suc zero) table = (refl, refl)
kind-node ls (suc (suc f)) table = (refl, refl)

below-node : (b w : ℕ) (ls : List Literal) (known : List ℕ) (f : ℕ) (table : Table) → list_all (literal_below b) ls ≡ true → IsReference known f → ((g : ℕ) → lists known g ≡ true → table g < b) → line_below b w (and_node ls f table) ≡ true
below-node b w ls known zero table h r t = refl
below-node b w ls known (suc zero) table h r t = h
below-node b w ls known (suc (suc f)) table h (inl r) t = absurd (omega arith)
below-node b w ls known (suc (suc f)) table h (inr r) t = and_both _ _ (lt-at (table (suc (suc f))) b (t (suc (suc f)) r)) h

abbrev Under : List ℕ → Table → ℕ → Type 0
Under known table b = (g : ℕ) → lists known g ≡ true → table g < b

under-put : (known : List ℕ) (table : Table) (b c k n : ℕ) → Under known table b → b ≤ c → n < c → Under (k ∷ known) (put table k n) c
under-put known table b c k n h e f g is = elim (put-cases table k n g) [
  | inl same ↦ let s = same.1 in omega arith
  | inr other ↦ let s = other.1 in let r = h g (old (or_cases (nat_eq k g) _ is) other.0) in omega arith
]
  where
    old : (nat_eq k g ≡ true) ⊎ (lists known g ≡ true) → (g ≡ k → ⊥) → lists known g ≡ true
    old (inl e) n = absurd (n (sym (nat_eq-tells k g e)))
    old (inr l) n = l

order-branches : (var : Table) (v w : ℕ) (ns : List Branch) (known : List ℕ) (table : Table) (b : ℕ) → ((k : ℕ) → k < v → var k < b) → AreInTurn v known ns → Under known table b → lines_in_order b w (branch_lines var ns table b) ≡ true
order-branches var v w [] known table b h turn u = refl
order-branches var v w (n ∷ ns) known table b h turn u =
    let x : var n.variable < b = h n.variable turn.0 in
    let up = kind-node (plus (var n.variable) ∷ []) n.high table in
    let down = kind-node (minus (var n.variable) ∷ []) n.low table in
    one-bit b w (and_node (plus (var n.variable) ∷ []) n.high table) (and_node (minus (var n.variable) ∷ []) n.low table ∷ any (plus b ∷ plus (suc b) ∷ []) ∷ branch_lines var ns (put table n.id (suc (suc b))) (suc (suc (suc b)))) (below-node b w (plus (var n.variable) ∷ []) known n.high table (and_both _ _ (lt-at (var n.variable) b x) refl) turn.2 u) up.0 up.1
    (one-bit (suc b) w (and_node (minus (var n.variable) ∷ []) n.low table) (any (plus b ∷ plus (suc b) ∷ []) ∷ branch_lines var ns (put table n.id (suc (suc b))) (suc (suc (suc b)))) (below-node (suc b) w (minus (var n.variable) ∷ []) known n.low table (and_both _ _ (lt-at (var n.variable) (suc b) (omega arith)) refl) turn.1 (λ g is. let r = u g is in omega arith)) down.0 down.1
    (one-bit (suc (suc b)) w (any (plus b ∷ plus (suc b) ∷ [])) (branch_lines var ns (put table n.id (suc (suc b))) (suc (suc (suc b)))) (and_both _ _ (lt-at b (suc (suc b)) (omega arith)) (and_both _ _ (lt-at (suc b) (suc (suc b)) (omega arith)) refl)) refl refl
    (order-branches var v w ns (n.id ∷ known) (put table n.id (suc (suc b))) (suc (suc (suc b))) (λ k low. let r = h k low in omega arith) turn.3 (under-put known table b (suc (suc (suc b))) n.id (suc (suc b)) u (omega arith) (omega arith)))))

under-branches : (ns : List Branch) (known : List ℕ) (table : Table) (b : ℕ) → Under known table b → Under (ids_with known ns) (branches_after ns table b) (b + 3 * length ns)
under-branches [] known table b u g is = let r = u g is in omega arith
under-branches (n ∷ ns) known table b u g is =
    let r = under-branches ns (n.id ∷ known) (put table n.id (suc (suc b))) (suc (suc (suc b))) (under-put known table b (suc (suc (suc b))) n.id (suc (suc b)) u (omega arith) (omega arith)) g is in
    omega arith

order-roots : (w : ℕ) (roots known : List ℕ) (table : Table) (b : ℕ) → AreReferences known roots → Under known table b → lines_in_order b w (root_lines roots table) ≡ true
order-roots w [] known table b r u = refl
order-roots w (f ∷ roots) known table b r u =
    let k = kind-node [] f table in
    one-bit b w (and_node [] f table) (root_lines roots table) (below-node b w [] known f table refl r.0 u) k.0 k.1 (order-roots w roots known table (suc b) r.1 (λ g is. let x = u g is in omega arith))

-- the whole
table-below : (cyclic : List ℕ) (b k : ℕ) → lists cyclic k ≡ true → given_table cyclic b k < b + length cyclic
table-below [] b k h = cc
table-below (c ∷ cyclic) b k h = elim (true_or_false (nat_eq k c)) [
  | inl same ↦ rw same (omega arith)
  | inr other ↦ rw other (let r = table-below cyclic (suc b) k (old (or_cases (nat_eq c k) _ h) (turned k c other)) in omega arith)
]
  where
    turned : (g k : ℕ) → nat_eq g k ≡ false → nat_eq k g ≡ false
    turned g k h = grind (arith, nat_tests)

    old : (nat_eq c k ≡ true) ⊎ (lists cyclic k ≡ true) → nat_eq c k ≡ false → lists cyclic k ≡ true
    old (inl e) n = cc
    old (inr l) n = l

module _ (E : Equations) (order cyclic widths : List ℕ) (ns : List Branch) (roots : List ℕ) (orderable : IsOrderable E) (plan : IsPlanOf E order cyclic) (sized : length widths ≤ registers E) (few : All (λ w. w ≤ 16) widths) (in_turn : AreInTurn (digits_in widths + E.inputs) [] ns) (references : AreReferences (ids_with [] ns) roots) (root_count : length roots ≡ length cyclic) where
  abbrev F : Equations
  F = solved_system E order cyclic widths ns roots

  abbrev t₀ : Tables
  t₀ = first_tables E cyclic widths ns

  abbrev var : Table
  var = variable_bit E.inputs (digits_in widths)

  abbrev digit_part : List Line
  digit_part = digit_lines 0 widths

  abbrev node_part : List Line
  node_part = branch_lines var ns no_table (first_node E widths)

  abbrev root_part : List Line
  root_part = root_lines roots (node_table E widths ns)

  abbrev rest_part : List Line
  rest_part = moved_lines E cyclic order t₀

  first-below : (y : Item) → IsKnown E [] cyclic y → IsBelow t₀ y
  first-below y (input k low) = let e = cyclic-other cyclic (first_root E widths ns) k (none k low) in omega arith
    where
      none : (k : ℕ) → k < E.inputs → lists cyclic k ≡ false
      none k low = elim (true_or_false (lists cyclic k)) [ inl t ↦ let z = cyclic-high E order cyclic plan k t in absurd (omega arith) | inr n ↦ n ]
  first-below y (register k low) = low
  first-below y (given k is) = table-below cyclic (first_root E widths ns) k is
  first-below y (earlier_line z place l d is) = absurd (let z : false ≡ true = is in cc)

  rest : IsMoved E order cyclic order t₀
  rest = moved E order cyclic plan orderable [] order t₀ refl first-below (λ k h. h) (omega arith)

  variables-below : (k : ℕ) → k < digits_in widths + E.inputs → var k < first_node E widths
  variables-below k low = elim (cases_lt k (digits_in widths)) [
    | inl l ↦ rw (lt-at k (digits_in widths) l) (omega arith)
    | inr g ↦ rw (not_lt k (digits_in widths) g) (omega arith)
  ]
    where
      not_lt : (a b : ℕ) → b ≤ a → nat_lt a b ≡ false
      not_lt a b h = grind (arith, nat_tests)

  nothing-under : Under [] no_table (first_node E widths)
  nothing-under g is = absurd (let z : false ≡ true = is in cc)

  all-in_order : lines_in_order E.inputs (registers E) F.lines ≡ true
  all-in_order =
      let R = registers E in
      let I = E.inputs in
      let roots_rest : lines_in_order (first_root E widths ns) R (root_part ++ rest_part) ≡ true =
      order-append (first_root E widths ns) R root_part rest_part
      (order-roots R roots (ids_with [] ns) (node_table E widths ns) (first_root E widths ns) references (under-branches ns [] no_table (first_node E widths) nothing-under))
      (order-at (first_root E widths ns + length cyclic) _ R _ rest_part (ap (λ (k : ℕ). first_root E widths ns + k) (sym (bits-roots roots (node_table E widths ns) ∙ root_count))) (omega (arith, words-roots roots (node_table E widths ns))) rest.in_order) in
      let nodes_rest : lines_in_order (first_node E widths) R (node_part ++ (root_part ++ rest_part)) ≡ true =
      order-append (first_node E widths) R node_part (root_part ++ rest_part)
      (order-branches var (digits_in widths + I) R ns [] no_table (first_node E widths) variables-below in_turn nothing-under)
      (order-at (first_root E widths ns) _ R _ (root_part ++ rest_part) (ap (λ (k : ℕ). first_node E widths + k) (sym (bits-branches var ns no_table (first_node E widths)))) (omega (arith, words-branches var ns no_table (first_node E widths))) roots_rest) in
      order-append I R digit_part (node_part ++ (root_part ++ rest_part))
      (order-digit_lines I R 0 widths (omega arith) few)
      (order-at (first_node E widths) _ R _ (node_part ++ (root_part ++ rest_part)) (ap (λ (k : ℕ). I + k) (sym (bits-digit_lines 0 widths))) (omega (arith, words-digit_lines 0 widths)) nodes_rest)

  count-bits : bit_count F ≡ first_root E widths ns + length cyclic + bit_lines rest_part
  count-bits = omega (arith, bits-append digit_part (node_part ++ (root_part ++ rest_part)), bits-append node_part (root_part ++ rest_part), bits-append root_part rest_part, bits-digit_lines 0 widths, bits-branches var ns no_table (first_node E widths), bits-roots roots (node_table E widths ns), root_count)

  count-words : word_count F ≡ registers E + word_lines rest_part
  count-words = omega (arith, words-append digit_part (node_part ++ (root_part ++ rest_part)), words-append node_part (root_part ++ rest_part), words-append root_part rest_part, words-digit_lines 0 widths, words-branches var ns no_table (first_node E widths), words-roots roots (node_table E widths ns))

  pub solved-ordered : 1 ≤ registers E → all_below 65536 E.initial ≡ true → length F.lines ≤ 100000000 → IsOrdered F
  solved-ordered some codes lines = record {
    some_register = some;
    register_limit = orderable.register_limit;
    input_limit = orderable.input_limit;
    output_limit = omega (arith, orderable.output_limit, length-map E.outputs (new_tables E order cyclic widths ns).bits);
    line_limit = lines;
    codes = codes;
    each = λ before line after e. EachReadsEarlier-from_walk F.inputs (registers F) F.lines all-in_order before line after e;
    next_sized = length-map E.next (new_tables E order cyclic widths ns).words ∙ orderable.next_sized;
    next_exist = some-word E.next (new_tables E order cyclic widths ns).words (registers E) (word_count E) (word_count F) orderable.next_exist (λ k high low. (rest.least k high, let r = rest.below (word_item k) (known-word E order cyclic plan k low) in let w = rest.words in let c = count-words in omega arith));
    outputs_exist = some-bit E.outputs (new_tables E order cyclic widths ns).bits (bit_count E) (bit_count F) orderable.outputs_exist (λ k low. let r = rest.below (bit_item k) (known-bit E order cyclic plan k low) in let w = rest.bits in let c = count-bits in omega arith);
    no_locals = refl;
  }
