use Rattle.std.proofs.Common.{◌≡◌, ◌++◌, [], map, drop, slice_index_or}
use Rattle.bisim_check.proofs.diagrams.words_at.Given as goal

abbrev pub invariant-loop-number : goal.invariant-loop-number
invariant-loop-number l =
    map (λ w. w.items) l.found.items ++ map (λ k. slice_index_or (map (λ w. w.items) l.words) k []) (drop l.number-index l.numbers)
    ≡ map (λ k. slice_index_or (map (λ w. w.items) l.words) k []) l.numbers
