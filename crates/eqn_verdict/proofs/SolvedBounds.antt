-- How many lines the solved system has, and how much they weigh.
use Rattle.std.proofs.Common.{◌≡◌, ℕ, zero, suc, ◌+◌, ◌*◌, ◌≤◌, List, [], ◌∷◌, ◌++◌, refl, ap, arith, length, length-append}
use Rattle.eqn_core.specs.Equations.{Literal, Line, Equations, line_weight, lines_weight, weight_of}
use Rattle.eqn_completion.specs.Binary.{digits_in}
use Rattle.eqn_verdict.specs.Branches.{plus, minus, digits_of, digit_lines, variable_bit, Branch, and_node, branch_lines, root_lines}
use Rattle.eqn_core.specs.Plans.{IsPlanOf}
use Rattle.eqn_completion.specs.Moving.{Table, put, moved_lines}
use Rattle.eqn_verdict.specs.Solved.{no_table, first_node, node_table, first_tables, solved_system}
use Rattle.eqn_completion.proofs.Counting.{weight-append}
use Rattle.eqn_completion.proofs.MovedBounds.{length-rest, weight-rest, weight-order}

length-digits_of : (k w : ℕ) → length (digits_of k w) ≡ w
length-digits_of k zero = refl
length-digits_of k (suc w) = ap suc (length-digits_of k w)

weight-digits_of : (k w : ℕ) → lines_weight (digits_of k w) ≡ w
weight-digits_of k zero = refl
weight-digits_of k (suc w) = omega (arith, weight-digits_of k w)

length-digits : (k : ℕ) (widths : List ℕ) → length (digit_lines k widths) ≡ digits_in widths
length-digits k [] = refl
length-digits k (w ∷ widths) = omega (arith, length-append (digits_of k w) (digit_lines (suc k) widths), length-digits_of k w, length-digits (suc k) widths)

weight-digits : (k : ℕ) (widths : List ℕ) → lines_weight (digit_lines k widths) ≡ digits_in widths
weight-digits k [] = refl
weight-digits k (w ∷ widths) = omega (arith, weight-append (digits_of k w) (digit_lines (suc k) widths), weight-digits_of k w, weight-digits (suc k) widths)

length-branches : (var : Table) (ns : List Branch) (table : Table) (b : ℕ) → length (branch_lines var ns table b) ≡ 3 * length ns
length-branches var [] table b = refl
length-branches var (n ∷ ns) table b = let r = length-branches var ns (put table n.id (suc (suc b))) (suc (suc (suc b))) in omega arith

weight-node : (ls : List Literal) (f : ℕ) (table : Table) → line_weight (and_node ls f table) ≤ 2 + length ls
weight-node ls zero table = omega arith
weight-node ls (suc zero) table = omega arith
weight-node ls (suc (suc f)) table = omega arith

weight-branches : (var : Table) (ns : List Branch) (table : Table) (b : ℕ) → lines_weight (branch_lines var ns table b) ≤ 9 * length ns
weight-branches var [] table b = omega arith
weight-branches var (n ∷ ns) table b =
    let r = weight-branches var ns (put table n.id (suc (suc b))) (suc (suc (suc b))) in
    let x = weight-node (plus (var n.variable) ∷ []) n.high table in
    let y = weight-node (minus (var n.variable) ∷ []) n.low table in
    omega arith

length-roots : (roots : List ℕ) (table : Table) → length (root_lines roots table) ≡ length roots
length-roots [] table = refl
length-roots (f ∷ roots) table = ap suc (length-roots roots table)

weight-roots : (roots : List ℕ) (table : Table) → lines_weight (root_lines roots table) ≤ 2 * length roots
weight-roots [] table = omega arith
weight-roots (f ∷ roots) table = let r = weight-roots roots table in let x = weight-node [] f table in omega arith

module _ (E : Equations) (order cyclic widths : List ℕ) (ns : List Branch) (roots : List ℕ) (plan : IsPlanOf E order cyclic) where
  abbrev digit_part : List Line
  digit_part = digit_lines 0 widths

  abbrev node_part : List Line
  node_part = branch_lines (variable_bit E.inputs (digits_in widths)) ns no_table (first_node E widths)

  abbrev root_part : List Line
  root_part = root_lines roots (node_table E widths ns)

  abbrev rest_part : List Line
  rest_part = moved_lines E cyclic order (first_tables E cyclic widths ns)

  pub few-lines : length (solved_system E order cyclic widths ns roots).lines ≤ length E.lines + 3 * length ns + (digits_in widths + length roots)
  few-lines = omega (arith, length-append digit_part (node_part ++ (root_part ++ rest_part)), length-append node_part (root_part ++ rest_part), length-append root_part rest_part, length-digits 0 widths, length-branches (variable_bit E.inputs (digits_in widths)) ns no_table (first_node E widths), length-roots roots (node_table E widths ns), length-rest E cyclic order (first_tables E cyclic widths ns), plan.sized)

  pub small-weight : weight_of (solved_system E order cyclic widths ns roots) ≤ weight_of E + 9 * length ns + (digits_in widths + 2 * length roots)
  small-weight = omega (arith, weight-append digit_part (node_part ++ (root_part ++ rest_part)), weight-append node_part (root_part ++ rest_part), weight-append root_part rest_part, weight-digits 0 widths, weight-branches (variable_bit E.inputs (digits_in widths)) ns no_table (first_node E widths), weight-roots roots (node_table E widths ns), weight-rest E cyclic order (first_tables E cyclic widths ns), weight-order E order cyclic plan)
