use Rattle.std.proofs.Common.{ℕ, ◌+◌, ◌++◌, map, get_or, sym, ap, ◌∙◌, arith, refl}
use Rattle.dd_core.specs.declared.nodes.NodeId.{NodeId}
use Rattle.eqn_core.specs.Views.{line_of}
use Rattle.eqn_verdict.specs.Branches.{variable_bit}
use Rattle.cycle_solve.specs.inner.Building.{node_lines, table_of}
use Rattle.cycle_solve.proofs.BranchSteps.{table-put, branch_more, table_more}
use Rattle.cycle_solve.proofs.branches.push_branches.Goals as goal

pub loop-id-preserved : goal.loop-id-preserved
loop-id-preserved c =
    let ids = c.args.ids.now in
    let i = c.loop-id.id-index in
    let start : NodeId = record { 0 = 0 } in
    let g : NodeId = get_or ids i start in
    let at = sym c.node.ensures.node ∙ c.in-Some.is in
    let b = c.loop-id.bit in
    let entered = table-put c.loop-id.bits c.insert.new.self g (b + 2)
    (b + 2) refl c.in_ok-insert.ensures.updates in
    let variable = variable_bit c.args.inputs c.args.register_bits in
    let n = c.in-Some.node in
    let pushed = c.in_ok-push_branch.ensures ∙ ap (λ (v : ℕ). map line_of c.loop-id.lines.items
    ++ node_lines v n.low.0 n.high.0 (table_of c.loop-id.bits) b) c.variable_bit-variable.ensures in
    let nodes = c.args.arena.now.nodes in
    record {
      lines = branch_more variable nodes ids i start g n c.loop-id-test.true refl at
          (map line_of c.loop-id.lines.items) (map line_of c.push_branch.new.lines.items)
          (table_of c.loop-id.bits) (table_of c.insert.new.self) b (b + 3) refl entered pushed
          ∙ c.loop-id.invariant.lines;
      table = table_more variable nodes ids i start g n c.loop-id-test.true refl at (table_of c.loop-id.bits)
          (table_of c.insert.new.self) b (b + 3) refl entered ∙ c.loop-id.invariant.table;
      bit = omega (arith, c.loop-id.invariant.bit);
    }
