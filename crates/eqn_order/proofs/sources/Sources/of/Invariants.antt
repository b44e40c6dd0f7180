use Rattle.std.proofs.Common.{◌≡◌, ◌++◌, map, drop}
use Rattle.eqn_core.specs.Views.{line_of}
use Rattle.eqn_order.specs.inner.Sources.{bit_places, word_places}
use Rattle.eqn_order.proofs.sources.Sources.of.Given as goal

abbrev pub invariant-loop-place : goal.invariant-loop-place
invariant-loop-place l =
    let all = map line_of l.system.lines.items in
    let rest = map line_of (drop l.place l.system.lines.items) in
    (l.bits.items ++ bit_places l.place rest ≡ bit_places 0 all) × (l.words.items ++ word_places l.place rest ≡ word_places 0 all)
