-- The solved system has the reaction of the least solution.
use Rattle.std.proofs.Common.{◌≡◌, ℕ, zero, suc, ◌+◌, ◌-◌, ◌*◌, ◌<◌, ◌≤◌, List, [], ◌∷◌, ◌++◌, Bool, true, false, ◌&&◌, ◌||◌, nat_eq, nat_lt, nat_le, IsTrue, refl, sym, ap, ◌∙◌, inl, inr, subst, arith, length, map, length-append}
use Rattle.std.specs.Prelude.{slice_index_or}
use Rattle.std.proofs.lemmas.Bool.{cases_lt}
use Rattle.std.proofs.lemmas.Bool.Decides.{nat_tests}
use Rattle.std.proofs.lemmas.List.{get_or_append_left, get_or-append_right}
use Rattle.argos_base.specs.Machines.{ReactsOnce}
use Rattle.argos_base.specs.SignalSets.{SignalSet, has, lists}
use Rattle.argos_base.proofs.Bools.{true_or_false, and_first, and_second, is_false}
use Rattle.argos_core.specs.Layouts.{RegisterShape, FitsLayout}
use Rattle.eqn_core.specs.Equations.{Line, any, Equations, registers, bit_lines, word_lines, bit_count, word_count}
use Rattle.eqn_core.specs.Ordered.{all_below, all_between}
use Rattle.eqn_core.specs.Solutions.{Values, bit_of, word_of, Solves, SystemReacts}
use Rattle.eqn_completion.specs.Binary.{in_binary, digits_in, FitsIn}
use Rattle.eqn_verdict.specs.Branches.{digit_lines, variable_bit, Branch, branch_lines, root_lines, and_node, plus, minus, ids_with, HaveValues}
use Rattle.eqn_completion.specs.Completions.{IsConsistent, HasOneCompletion}
use Rattle.eqn_core.specs.Dependence.{Item, bit_item, word_item}
use Rattle.eqn_core.specs.Plans.{IsKnown, input, register, given, earlier_line, IsPlanOf}
use Rattle.eqn_completion.specs.Moving.{given_table, put, Tables, moved_lines, line_at}
use Rattle.eqn_core.specs.Orderable.{IsOrderable}
use Rattle.eqn_verdict.specs.Searching.{Test, some, least}
use Rattle.eqn_verdict.specs.Solved.{no_table, first_node, first_root, node_table, first_tables, new_tables, solved_system, AreSolvedDiagrams}
use Rattle.eqn_completion.specs.Findings.{Finding}
use Rattle.eqn_verdict.specs.Verdicts.{AreFindings, AreWidths}
use Rattle.eqn_verdict.proofs.Branching.{branches-right, roots-right}
use Rattle.eqn_verdict.proofs.Branching as branching
use Rattle.eqn_completion.proofs.Completing.{completes_once, solutions_complete, same_values}
use Rattle.eqn_verdict.proofs.Digits.{memory-digits, bits-digit_lines, words-digit_lines}
use Rattle.eqn_completion.proofs.Knowing.{known-bit, known-word, cyclic-high}
use Rattle.eqn_completion.proofs.Moved.{IsRight, moved-right}
use Rattle.eqn_completion.proofs.Ordering.{length-binary, length-fits}
use Rattle.eqn_core.proofs.LinePlaces.{AreAt, at_left, at_behind_bits, at_place, completes_at}
use Rattle.eqn_completion.proofs.Plans.{item_at, defines-at}
use Rattle.eqn_completion.proofs.Reading.{nat_eq-tells, computed, IsValue, value_there}
use Rattle.eqn_verdict.proofs.Searches.{least-passes}

-- how many bits the parts define
bits-node : (ls : List _) (f : ℕ) (table : ℕ → ℕ) (more : List Line) → bit_lines (and_node ls f table ∷ more) ≡ suc (bit_lines more)
bits-node ls zero table more = omega arith
bits-node ls (suc zero) table more = omega arith
bits-node ls (suc (suc f)) table more = omega arith

words-node : (ls : List _) (f : ℕ) (table : ℕ → ℕ) (more : List Line) → word_lines (and_node ls f table ∷ more) ≡ word_lines more
words-node ls zero table more = omega arith
words-node ls (suc zero) table more = omega arith
words-node ls (suc (suc f)) table more = omega arith

pub bits-branches : (var : ℕ → ℕ) (ns : List Branch) (table : ℕ → ℕ) (b : ℕ) → bit_lines (branch_lines var ns table b) ≡ 3 * length ns
bits-branches var [] table b = refl
bits-branches var (n ∷ ns) table b =
    let low : List Line = any (plus b ∷ plus (suc b) ∷ []) ∷ branch_lines var ns (put table n.id (suc (suc b))) (suc (suc (suc b))) in
    let x = bits-node (plus (var n.variable) ∷ []) n.high table (and_node (minus (var n.variable) ∷ []) n.low table ∷ low) in
    let y = bits-node (minus (var n.variable) ∷ []) n.low table low in
    let z = bits-branches var ns (put table n.id (suc (suc b))) (suc (suc (suc b))) in
    x ∙ ap suc y ∙ omega arith

pub words-branches : (var : ℕ → ℕ) (ns : List Branch) (table : ℕ → ℕ) (b : ℕ) → word_lines (branch_lines var ns table b) ≡ 0
words-branches var [] table b = refl
words-branches var (n ∷ ns) table b =
    let low : List Line = any (plus b ∷ plus (suc b) ∷ []) ∷ branch_lines var ns (put table n.id (suc (suc b))) (suc (suc (suc b))) in
    let x = words-node (plus (var n.variable) ∷ []) n.high table (and_node (minus (var n.variable) ∷ []) n.low table ∷ low) in
    let y = words-node (minus (var n.variable) ∷ []) n.low table low in
    let z = words-branches var ns (put table n.id (suc (suc b))) (suc (suc (suc b))) in
    x ∙ y ∙ omega arith

pub bits-roots : (roots : List ℕ) (table : ℕ → ℕ) → bit_lines (root_lines roots table) ≡ length roots
bits-roots [] table = refl
bits-roots (f ∷ roots) table = bits-node [] f table (root_lines roots table) ∙ ap suc (bits-roots roots table)

pub words-roots : (roots : List ℕ) (table : ℕ → ℕ) → word_lines (root_lines roots table) ≡ 0
words-roots [] table = refl
words-roots (f ∷ roots) table = words-node [] f table (root_lines roots table) ∙ words-roots roots table

-- the table of the cyclic bits
cyclic-right : (s s' : Values) (cyclic : List ℕ) (b : ℕ) (x : SignalSet) (k : ℕ) → map (bit_of s) cyclic ≡ x → ((j : ℕ) → j < length cyclic → bit_of s' (b + j) ≡ has x j) → lists cyclic k ≡ true → bit_of s' (given_table cyclic b k) ≡ bit_of s k
cyclic-right s s' [] b x k e h l = cc
cyclic-right s s' (c ∷ cyclic) b [] k e h l = cc
cyclic-right s s' (c ∷ cyclic) b (y ∷ x) k e h l =
    let first : bit_of s c ≡ y = cc in
    let rest : map (bit_of s) cyclic ≡ x = cc in
    elim (true_or_false (nat_eq k c)) [
      | inl same ↦ rw same (ap (bit_of s') (let z : b ≡ b + 0 = omega arith in z) ∙ h 0 (omega arith) ∙ sym first ∙ ap (bit_of s) (sym (nat_eq-tells k c same)))
      | inr other ↦ rw other (cyclic-right s s' cyclic (suc b) x k rest (λ j low. ap (bit_of s') (let z : suc b + j ≡ b + suc j = omega arith in z) ∙ h (suc j) (omega arith)) (listed (nat_eq c k) (lists cyclic k) (turned k c other) l))
    ]
  where
    turned : (g k : ℕ) → nat_eq g k ≡ false → nat_eq k g ≡ false
    turned g k h = grind (arith, nat_tests)

    listed : (a b : Bool) → a ≡ false → (a || b) ≡ true → b ≡ true
    listed true b e h = cc
    listed false b e h = h

pub cyclic-other : (cyclic : List ℕ) (b k : ℕ) → lists cyclic k ≡ false → given_table cyclic b k ≡ k
cyclic-other [] b k h = refl
cyclic-other (c ∷ cyclic) b k h = elim (true_or_false (nat_eq k c)) [
  | inl same ↦ let t : nat_eq c k ≡ true = turned k c same in absurd (never (nat_eq c k) (lists cyclic k) t h)
  | inr other ↦ rw other (cyclic-other cyclic (suc b) k (rest (nat_eq c k) (lists cyclic k) h))
]
  where
    turned : (g k : ℕ) → nat_eq g k ≡ true → nat_eq k g ≡ true
    turned g k h = grind (arith, nat_tests)

    never : (a b : Bool) → a ≡ true → (a || b) ≡ false → ⊥
    never true b e h = cc
    never false b e h = cc

    rest : (a b : Bool) → (a || b) ≡ false → b ≡ false
    rest true b h = cc
    rest false b h = h

module _ (E : Equations) (order cyclic : List ℕ) (layout : List RegisterShape) (widths : List ℕ) (structural : Test) (consistent : Finding) (results : List Finding) (ns : List Branch) (roots : List ℕ) (orderable : IsOrderable E) (plan : IsPlanOf E order cyclic) (shapes : length layout ≡ registers E) (wide : AreWidths layout widths) (found : AreFindings E layout cyclic widths structural consistent results) (diagrams : AreSolvedDiagrams E.inputs (length cyclic) widths structural consistent ns roots) where
  abbrev F : Equations
  F = solved_system E order cyclic widths ns roots

  abbrev T : Tables
  T = new_tables E order cyclic widths ns

  module _ (m : List ℕ) (i : SignalSet) (fit : FitsLayout layout m) (b : length i ≡ E.inputs) (once : ReactsOnce (SystemReacts E) m i) (somewhere : some (length cyclic) (consistent (in_binary widths m ++ i)) ≡ true) where
    abbrev p : SignalSet
    p = in_binary widths m ++ i

    fits : FitsIn widths m
    fits = wide.enough m fit

    m-sized : length m ≡ registers E
    m-sized = length-fits widths m fits ∙ wide.sized ∙ shapes

    p-sized : length p ≡ digits_in widths + E.inputs
    p-sized = omega (arith, length-append (in_binary widths m) i, length-binary widths m fits)

    abbrev x : SignalSet
    x = least (length cyclic) (consistent p)

    x-sized : length x ≡ length cyclic
    x-sized = (least-passes (length cyclic) (consistent p) somewhere).0

    one : HasOneCompletion E cyclic m i x
    one = completes_once E order cyclic m i x plan m-sized b x-sized

    agrees : IsConsistent cyclic x one.values
    agrees = (found.consistent_is m i x one.values fits b x-sized one.is).0 (least-passes (length cyclic) (consistent p) somewhere).1

    -- the least solution
    solves : Solves E m i one.values
    solves = (solutions_complete E cyclic m i one.values m-sized b).1 (x, (one.is, agrees))

    line-value : (q : ℕ) → q < length E.lines → IsValue one.values (item_at E q) one.values (line_at E q)
    line-value q h =
        let d = defines-at E q h in
        let s = one.values in
        subst (λ (v : Values). IsValue v (item_at E q) s (line_at E q)) (sym (same_values s (computed i m E.lines s) solves.lines.bits solves.lines.words)) (subst (λ (z : Item). IsValue (computed i m E.lines s) z s (line_at E q)) d.is (value_there E i m s d.before (line_at E q) d.after b m-sized d.stands))

    -- a solution of the solved system
    module _ (s' : Values) (h : Solves F m i s') where
      abbrev digit_part : List Line
      digit_part = digit_lines 0 widths

      abbrev node_part : List Line
      node_part = branch_lines (variable_bit E.inputs (digits_in widths)) ns no_table (first_node E widths)

      abbrev root_part : List Line
      root_part = root_lines roots (node_table E widths ns)

      abbrev rest_part : List Line
      rest_part = moved_lines E cyclic order (first_tables E cyclic widths ns)

      all-at : AreAt s' E.inputs (registers E) (digit_part ++ (node_part ++ (root_part ++ rest_part)))
      all-at = at_place s' (length i) E.inputs (length m) (registers E) F.lines b m-sized (completes_at s' F.lines i m h.lines.bits h.lines.words)

      nodes-at : AreAt s' (first_node E widths) (registers E) (node_part ++ (root_part ++ rest_part))
      nodes-at = at_behind_bits s' E.inputs (registers E) (digits_in widths) digit_part (node_part ++ (root_part ++ rest_part)) (bits-digit_lines 0 widths) (words-digit_lines 0 widths) all-at

      roots-at : AreAt s' (first_root E widths ns) (registers E) (root_part ++ rest_part)
      roots-at = at_behind_bits s' (first_node E widths) (registers E) (3 * length ns) node_part (root_part ++ rest_part) (bits-branches (variable_bit E.inputs (digits_in widths)) ns no_table (first_node E widths)) (words-branches (variable_bit E.inputs (digits_in widths)) ns no_table (first_node E widths)) nodes-at

      rest-at : AreAt s' (first_root E widths ns + length cyclic) (registers E) rest_part
      rest-at = at_behind_bits s' (first_root E widths ns) (registers E) (length cyclic) root_part rest_part (bits-roots roots (node_table E widths ns) ∙ diagrams.sized) (words-roots roots (node_table E widths ns)) roots-at

      input-bit : (k : ℕ) → k < E.inputs → bit_of s' k ≡ slice_index_or i k false
      input-bit k low = ap (λ (l : List Bool). slice_index_or l k false) h.lines.bits ∙ get_or_append_left i _ false k (omega arith)

      register-word : (k : ℕ) → k < registers E → word_of s' k ≡ slice_index_or m k 0
      register-word k low = ap (λ (l : List ℕ). slice_index_or l k 0) h.lines.words ∙ get_or_append_left m _ 0 k (omega (arith, m-sized))

      variables : (k : ℕ) → k < digits_in widths + E.inputs → bit_of s' (variable_bit E.inputs (digits_in widths) k) ≡ has p k
      variables k low = elim (cases_lt k (digits_in widths)) [
        | inl l ↦ rw (lt k (digits_in widths) l) (
            memory-digits s' E.inputs (registers E) 0 widths m fits (λ j below. ap (word_of s') (let z : 0 + j ≡ j = omega arith in z) ∙ register-word j (omega (arith, m-sized))) (at_left s' E.inputs (registers E) digit_part (node_part ++ (root_part ++ rest_part)) all-at) k l
            ∙ sym (get_or_append_left (in_binary widths m) i false k (omega (arith, length-binary widths m fits))))
        | inr g ↦ rw (not_lt k (digits_in widths) g) (
            input-bit (k - digits_in widths) (omega arith)
            ∙ sym (get_or-append_right (in_binary widths m) i (digits_in widths) k false (length-binary widths m fits) g))
      ]
        where
          lt : (a b : ℕ) → a < b → nat_lt a b ≡ true
          lt a b h = grind (arith, nat_tests)

          not_lt : (a b : ℕ) → b ≤ a → nat_lt a b ≡ false
          not_lt a b h = grind (arith, nat_tests)

      constants : (ns : List Branch) → HaveValues p (diagrams.values p) ns → branching.Constants (diagrams.values p)
      constants [] c = c
      constants (n ∷ ns) c = constants ns c.1

      root-bit : (j : ℕ) → j < length cyclic → bit_of s' (first_root E widths ns + j) ≡ has x j
      root-bit j low =
          let value = diagrams.values p in
          let cs = constants ns (diagrams.nodes_are p p-sized) in
          let right = branches-right s' value p (variable_bit E.inputs (digits_in widths)) (digits_in widths + E.inputs) cs variables ns [] no_table (first_node E widths) (registers E) diagrams.in_turn (diagrams.nodes_are p p-sized) (at_left s' (first_node E widths) (registers E) node_part (root_part ++ rest_part) nodes-at) (λ g is. absurd (let z : false ≡ true = is in cc)) in
          roots-right s' value p (variable_bit E.inputs (digits_in widths)) (digits_in widths + E.inputs) cs variables roots (ids_with [] ns) (node_table E widths ns) (first_root E widths ns) (registers E) diagrams.references right (at_left s' (first_root E widths ns) (registers E) root_part rest_part roots-at) j (omega (arith, diagrams.sized))
          ∙ diagrams.roots_are p j p-sized low
          ∙ ap (λ (z : Bool). z && (some (length cyclic) (consistent p) && has x j)) ((found.structural_is m i fits b).1 fit)
          ∙ ap (λ (z : Bool). z && has x j) somewhere

      -- what is known at the start is right
      first-right : (y : Item) → IsKnown E [] cyclic y → IsRight one.values s' (first_tables E cyclic widths ns) y
      first-right y (input k low) = ap (bit_of s') (cyclic-other cyclic (first_root E widths ns) k (is_false (lists cyclic k) (λ t. let z = cyclic-high E order cyclic plan k t in omega arith))) ∙ input-bit k low ∙ sym (ap (λ (l : List Bool). slice_index_or l k false) solves.lines.bits ∙ get_or_append_left i _ false k (omega arith))
      first-right y (register k low) = register-word k low ∙ sym (ap (λ (l : List ℕ). slice_index_or l k 0) solves.lines.words ∙ get_or_append_left m _ 0 k (omega (arith, m-sized)))
      first-right y (given k is) = cyclic-right one.values s' cyclic (first_root E widths ns) x k agrees root-bit is
      first-right y (earlier_line z place l d is) = absurd (let z : false ≡ true = is in cc)

      right : (y : Item) → IsKnown E order cyclic y → IsRight one.values s' T y
      right = moved-right E order cyclic plan one.values s' line-value [] order (first_tables E cyclic widths ns) refl rest-at first-right

      same-bits : (ks : List ℕ) → IsTrue (all_below (bit_count E) ks) → map (bit_of s') (map T.bits ks) ≡ map (bit_of one.values) ks
      same-bits [] e = refl
      same-bits (k ∷ ks) e = ap (λ (z : Bool). z ∷ map (bit_of s') (map T.bits ks)) (right (bit_item k) (known-bit E order cyclic plan k (below k (bit_count E) (and_first _ _ e)))) ∙ ap (λ (l : List Bool). bit_of one.values k ∷ l) (same-bits ks (and_second (nat_lt k (bit_count E)) _ e))
        where
          below : (a b : ℕ) → nat_lt a b ≡ true → a < b
          below a b h = grind (arith, nat_tests)

      same-words : (ks : List ℕ) → IsTrue (all_between (registers E) (word_count E) ks) → map (word_of s') (map T.words ks) ≡ map (word_of one.values) ks
      same-words [] e = refl
      same-words (k ∷ ks) e = ap (λ (z : ℕ). z ∷ map (word_of s') (map T.words ks)) (right (word_item k) (known-word E order cyclic plan k (below k (word_count E) (and_second _ _ (and_first _ _ e))))) ∙ ap (λ (l : List ℕ). word_of one.values k ∷ l) (same-words ks (and_second (nat_le (registers E) k && nat_lt k (word_count E)) _ e))
        where
          below : (a b : ℕ) → nat_lt a b ≡ true → a < b
          below a b h = grind (arith, nat_tests)

    pub solved_reacts : (o : SignalSet) (n : List ℕ) → SystemReacts F m i o n → SystemReacts E m i o n
    solved_reacts o n r = record {
      values = one.values;
      solves = solves;
      outputs = r.outputs ∙ same-bits r.values r.solves E.outputs orderable.outputs_exist;
      next = r.next ∙ same-words r.values r.solves E.next orderable.next_exist;
    }
