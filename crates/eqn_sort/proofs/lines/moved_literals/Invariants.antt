use Rattle.std.proofs.Common.{◌≡◌, ◌++◌, map, drop}
use Rattle.eqn_core.specs.Views.{literal_of}
use Rattle.eqn_completion.specs.Moving.{moved_literal}
use Rattle.eqn_sort.specs.Numbers.{numbers_from}
use Rattle.eqn_sort.proofs.lines.moved_literals.Given as goal

abbrev pub invariant-loop-literal : goal.invariant-loop-literal
invariant-loop-literal l =
    let move = moved_literal (numbers_from l.tables).bits in
    map literal_of l.moved.items ++ map move (map literal_of (drop l.literal-index l.literals)) ≡ map move (map literal_of l.literals)
