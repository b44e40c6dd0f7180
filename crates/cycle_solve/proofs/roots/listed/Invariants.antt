use Rattle.std.proofs.Common.{◌≡◌, ◌++◌, map, drop}
use Rattle.instant_verdict.specs.inner.Searched.{node_or_false}
use Rattle.cycle_solve.proofs.roots.listed.Given as goal

abbrev pub invariant-loop-number : goal.invariant-loop-number
invariant-loop-number l = l.ids.items
    ++ map (node_or_false l.bits) (drop l.number-index l.numbers) ≡ map (node_or_false l.bits) l.numbers
