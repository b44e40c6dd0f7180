use Rattle.std.proofs.Common.{◌≡◌, ◌++◌, map, drop}
use Rattle.eqn_core.specs.Views.{case_of}
use Rattle.eqn_completion.specs.Moving.{moved_case}
use Rattle.eqn_sort.specs.Numbers.{numbers_from}
use Rattle.eqn_sort.proofs.lines.moved_cases.Given as goal

abbrev pub invariant-loop-case : goal.invariant-loop-case
invariant-loop-case l =
    let move = moved_case (numbers_from l.tables).bits (numbers_from l.tables).words in
    map case_of l.moved.items ++ map move (map case_of (drop l.case-index l.cases)) ≡ map move (map case_of l.cases)
