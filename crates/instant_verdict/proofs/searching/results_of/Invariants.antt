use Rattle.std.proofs.Common.{◌≡◌, ◌++◌, [], map, drop, flat_map, slice_index_or}
use Rattle.instant_verdict.specs.inner.Searched.{node_or_false}
use Rattle.instant_verdict.proofs.searching.results_of.Given as goal

abbrev pub invariant-loop-word : goal.invariant-loop-word
invariant-loop-word l =
    l.ids.items ++ flat_map (λ k. slice_index_or (map (λ w. w.items) l.words) k []) (drop l.word-index l.system.next.items)
    ≡ map (node_or_false l.bits) l.system.outs.items ++ flat_map (λ k. slice_index_or (map (λ w. w.items) l.words) k []) l.system.next.items
