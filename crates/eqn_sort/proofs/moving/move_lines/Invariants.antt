use Rattle.std.proofs.Common.{◌≡◌, ◌+◌, ◌≤◌, ◌++◌, length, map, drop}
use Rattle.eqn_core.specs.Views.{line_of, equations_from}
use Rattle.eqn_completion.specs.Moving.{moved_lines, tables_after}
use Rattle.eqn_sort.specs.Numbers.{numbers_from}
use Rattle.eqn_sort.proofs.moving.move_lines.Given as goal

-- what is added and what is left to add are the lines of all places
abbrev pub invariant-loop-place : goal.invariant-loop-place
invariant-loop-place l =
    let E = equations_from l.system in
    let cyclic = l.plan.cyclic.items in
    let left = drop l.place-index l.plan.order.items in
    record {
      lines : map line_of l.lines.items ++ moved_lines E cyclic left (numbers_from l.tables) ≡ map line_of l.initial.lines.items ++ moved_lines E cyclic l.plan.order.items (numbers_from l.initial.tables);
      numbers : tables_after E cyclic left (numbers_from l.tables) ≡ tables_after E cyclic l.plan.order.items (numbers_from l.initial.tables);
      bits : length l.tables.bits.items ≡ length l.initial.tables.bits.items;
      words : length l.tables.words.items ≡ length l.initial.tables.words.items;
      count : l.tables.next_bit + l.tables.next_word ≤ l.initial.tables.next_bit + l.initial.tables.next_word + l.place-index;
    }
