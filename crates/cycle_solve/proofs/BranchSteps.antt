-- The lines of nodes, one after the other.
use Rattle.std.proofs.Common.{◌≡◌, ℕ, suc, ◌+◌, ◌<◌, List, ◌∷◌, ◌++◌, Some, Option, Bool, true, false, cond, nat_eq, length, drop, get_or, refl, sym, ap, ◌∙◌, arith, append_assoc}
use Rattle.std.specs.HashMap.{HashMap, get, Updates}
use Rattle.std.proofs.Math.Path.{fun_ext}
use Rattle.std.proofs.lemmas.Bool.Decides.{nat_tests}
use Rattle.std.proofs.lemmas.List.{drop_more}
use Rattle.dd_core.specs.declared.nodes.Node.{Node}
use Rattle.dd_core.specs.declared.nodes.NodeId.{NodeId}
use Rattle.dd_core.specs.Diagrams.{Nodes, node_at}
use Rattle.dd_ops.specs.inner.Visited.{is_same}
use Rattle.eqn_completion.specs.Moving.{Table, put}
use Rattle.eqn_core.specs.Equations.{Line}
use Rattle.eqn_verdict.specs.Branches.{Branch, branch_lines, branches_after}
use Rattle.eqn_verdict.specs.FromArena.{of_node, branches_of}
use Rattle.cycle_solve.specs.inner.Building.{or_none, table_of, node_lines}

-- ---- tables

same-test : (a b : ℕ) → nat_eq a b ≡ nat_eq b a
same-test a b = grind (arith, nat_tests)

-- a bit is entered
pub table-put : {S : Type 0} (old new : HashMap NodeId ℕ S) (f : NodeId) (n m : ℕ) → n ≡ m
    → Updates is_same old new f (Some n) → ◌≡◌ {A = Table} (table_of new) (put (table_of old) f.0 m)
table-put old new f n m same updates = fun_ext one
  where
    read : (b : Bool) (o : Option ℕ) → or_none (cond b (Some n) o) ≡ cond b m (or_none o)
    read true o = same
    read false o = refl

    one : (k : ℕ) → table_of new k ≡ put (table_of old) f.0 m k
    one k = ap or_none (updates.0 (record { 0 = k }))
        ∙ read (nat_eq f.0 k) (get is_same old (record { 0 = k }))
        ∙ ap (λ (b : Bool). cond b m (table_of old k)) (same-test f.0 k)

-- ---- nodes

module _ (var : ℕ → ℕ) (nodes : Nodes) (ids : List NodeId) (i : ℕ) (d g : NodeId) (n : Node)
    (inside : i < length ids) (here : g ≡ get_or ids i d) (at : node_at nodes g.0 ≡ Some n) where
  left : branches_of nodes (drop i ids)
      ≡ record { id = g.0; variable = n.variable; low = n.low.0; high = n.high.0 } ∷ branches_of nodes (drop
      (i + 1) ids)
  left =
      ap (branches_of nodes) (drop_more ids i d inside)
      ∙ ap (λ (f : NodeId). of_node f.0 (node_at nodes f.0) ∷ branches_of nodes (drop (i + 1) ids)) (sym here)
      ∙ ap (λ (o : Option Node). of_node g.0 o ∷ branches_of nodes (drop (i + 1) ids)) at

  pub branch_more : (done made : List Line) (table next : Table) (b c : ℕ) → c ≡ b + 3
      → ◌≡◌ {A = Table} next (put table g.0 (b + 2))
      → made ≡ done ++ node_lines (var n.variable) n.low.0 n.high.0 table b
      → made ++ branch_lines var (branches_of nodes (drop (i + 1) ids)) next c ≡ done
      ++ branch_lines var (branches_of nodes (drop i ids)) table b
  branch_more done made table next b c after entered pushed =
      let rest = branches_of nodes (drop (i + 1) ids) in
      let two : b + 2 ≡ suc (suc b) = omega arith in
      let three : c ≡ suc (suc (suc b)) = omega (arith, after) in
      ap (λ (ls : List Line). ls ++ branch_lines var rest next c) pushed
      ∙ append_assoc done (node_lines (var n.variable) n.low.0 n.high.0 table b) (branch_lines var rest next c)
      ∙ ap (λ (t : Table). done ++ (node_lines (var n.variable) n.low.0 n.high.0 table b
      ++ branch_lines var rest t c)) (entered ∙ ap (put table g.0) two)
      ∙ ap (λ (k : ℕ). done ++ (node_lines (var n.variable) n.low.0 n.high.0 table b
      ++ branch_lines var rest (put table g.0 (suc (suc b))) k)) three
      ∙ ap (λ (ns : List Branch). done ++ branch_lines var ns table b) (sym left)

  pub table_more : (table next : Table) (b c : ℕ) → c ≡ b + 3 → ◌≡◌ {A = Table} next (put table g.0 (b + 2))
      → ◌≡◌ {A = Table} (branches_after (branches_of nodes (drop (i + 1) ids)) next c) (branches_after
      (branches_of nodes (drop i ids)) table b)
  table_more table next b c after entered =
      let rest = branches_of nodes (drop (i + 1) ids) in
      let two : b + 2 ≡ suc (suc b) = omega arith in
      let three : c ≡ suc (suc (suc b)) = omega (arith, after) in
      ap (λ (t : Table). branches_after rest t c) (entered ∙ ap (put table g.0) two)
      ∙ ap (branches_after rest (put table g.0 (suc (suc b)))) three
      ∙ ap (λ (ns : List Branch). branches_after ns table b) (sym left)
