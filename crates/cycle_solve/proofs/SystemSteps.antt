-- The solved system, made of its parts.
use Rattle.std.proofs.Common.{◌≡◌, ℕ, suc, List, [], ◌∷◌, ◌++◌, length, map, refl, ap, ◌∙◌, append_assoc}
use Rattle.dd_core.specs.declared.nodes.NodeId.{NodeId}
use Rattle.dd_core.specs.Diagrams.{Nodes}
use Rattle.eqn_completion.specs.Binary.{digits_in}
use Rattle.eqn_completion.specs.Moving.{Tables, moved_lines, tables_after, given_numbers}
use Rattle.eqn_core.specs.Equations.{Line, Equations}
use Rattle.eqn_sort.proofs.Reactions.{made}
use Rattle.eqn_verdict.specs.Branches.{Branch, digit_lines, variable_bit, branch_lines, root_lines}
use Rattle.eqn_verdict.specs.FromArena.{branches_of}
use Rattle.eqn_verdict.specs.Solved.{no_table, first_node, first_root, node_table, first_tables, new_tables, solved_system}

pub branches-sized : (nodes : Nodes) (ids : List NodeId) → length (branches_of nodes ids) ≡ length ids
branches-sized nodes [] = refl
branches-sized nodes (g ∷ ids) = ap suc (branches-sized nodes ids)

module _ (E : Equations) (order cyclic widths : List ℕ) (ns : List Branch) (roots : List ℕ) where
  -- the lines before those that are moved
  abbrev digit-part : List Line
  digit-part = digit_lines 0 widths

  abbrev node-part : List Line
  node-part = branch_lines (variable_bit E.inputs (digits_in widths)) ns no_table (first_node E widths)

  abbrev root-part : List Line
  root-part = root_lines roots (node_table E widths ns)

  pub made_solved : (given : List ℕ) (first : ℕ) (t t' : Tables) (front lines : List Line)
      (initial outputs locals next : List ℕ) → given ≡ cyclic → first ≡ first_root E widths ns
      → t ≡ given_numbers E given first → front ≡ digit-part ++ (node-part ++ root-part)
      → lines ≡ front ++ moved_lines E cyclic order t → t' ≡ tables_after E cyclic order t
      → initial ≡ E.initial → outputs ≡ map t'.bits E.outputs → locals ≡ [] → next ≡ map t'.words E.next
      → made E.inputs initial lines outputs locals next ≡ solved_system E order cyclic widths ns roots
  made_solved given first t t' front lines initial outputs locals next cyc begins begin fronts ls after i o l n
      =
      let begun : t ≡ first_tables E cyclic widths ns = begin
      ∙ ap (λ (ks : List ℕ). given_numbers E ks first) cyc ∙ ap (given_numbers E cyclic) begins in
      let end : t' ≡ new_tables E order cyclic widths ns = after
      ∙ ap (λ (u : Tables). tables_after E cyclic order u) begun in
      let moved = moved_lines E cyclic order (first_tables E cyclic widths ns) in
      let whole : lines ≡ digit-part ++ (node-part ++ (root-part ++ moved)) =
      ls ∙ ap (λ (u : Tables). front ++ moved_lines E cyclic order u) begun ∙ ap (λ (xs : List Line). xs
      ++ moved) fronts
      ∙ append_assoc digit-part (node-part ++ root-part) moved ∙ ap (λ (xs : List Line). digit-part
      ++ xs) (append_assoc node-part root-part moved) in
      ap (λ (x : List ℕ). made E.inputs x lines outputs locals next) i
      ∙ ap (λ (x : List Line). made E.inputs E.initial x outputs locals next) whole
      ∙ ap (λ (x : List ℕ). made E.inputs E.initial (digit-part ++ (node-part ++ (root-part
      ++ moved))) x locals next) (o ∙ ap (λ (u : Tables). map u.bits E.outputs) end)
      ∙ ap (λ (x : List ℕ). made E.inputs E.initial (digit-part ++ (node-part ++ (root-part
      ++ moved))) (map (new_tables E order cyclic widths ns).bits E.outputs) x next) l
      ∙ ap (λ (x : List ℕ). made E.inputs E.initial (digit-part ++ (node-part ++ (root-part
      ++ moved))) (map (new_tables E order cyclic widths ns).bits E.outputs) [] x) (n
      ∙ ap (λ (u : Tables). map u.words E.next) end)
