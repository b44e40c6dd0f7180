use Rattle.std.proofs.Common.{◌≡◌, ◌+◌, ◌*◌, ◌++◌, map, drop}
use Rattle.eqn_completion.specs.Moving.{Table}
use Rattle.eqn_core.specs.Views.{line_of}
use Rattle.eqn_verdict.specs.Branches.{variable_bit, branch_lines, branches_after}
use Rattle.eqn_verdict.specs.FromArena.{branches_of}
use Rattle.eqn_verdict.specs.Solved.{no_table}
use Rattle.cycle_solve.specs.inner.Building.{table_of}
use Rattle.cycle_solve.proofs.branches.push_branches.Given as goal

-- what is added and what is left to add are the lines of all nodes
abbrev pub invariant-loop-id : goal.invariant-loop-id
invariant-loop-id l =
    let variable = variable_bit l.inputs l.register_bits in
    let left = branches_of l.arena.nodes (drop l.id-index l.ids) in
    let all = branches_of l.arena.nodes l.ids in
    record {
      lines : map line_of l.lines.items
          ++ branch_lines variable left (table_of l.bits) l.bit ≡ map line_of l.initial.lines.items
          ++ branch_lines variable all no_table l.first;
      table : ◌≡◌ {A = Table} (branches_after left (table_of l.bits) l.bit)
          (branches_after all no_table l.first);
      bit : l.bit ≡ l.first + 3 * l.id-index;
    }
