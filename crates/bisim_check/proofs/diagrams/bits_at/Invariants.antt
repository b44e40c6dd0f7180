use Rattle.std.proofs.Common.{◌≡◌, ◌++◌, map, drop, slice_index_or}
use Rattle.bisim_check.proofs.diagrams.bits_at.Given as goal

abbrev pub invariant-loop-number : goal.invariant-loop-number
invariant-loop-number l =
    l.found.items ++ map (λ k. slice_index_or l.bits k (record { 0 = 0 })) (drop l.number-index l.numbers)
    ≡ map (λ k. slice_index_or l.bits k (record { 0 = 0 })) l.numbers
