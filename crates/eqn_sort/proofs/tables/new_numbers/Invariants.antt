use Rattle.std.proofs.Common.{◌≡◌, ℕ, ◌++◌, map, drop, get_or}
use Rattle.eqn_sort.proofs.tables.new_numbers.Given as goal

abbrev pub invariant-loop-number : goal.invariant-loop-number
invariant-loop-number l =
    let new = λ (k : ℕ). get_or l.table k k in
    l.new_numbers.items ++ map new (drop l.number-index l.numbers) ≡ map new l.numbers
