use Rattle.std.proofs.Common.{◌≡◌, ◌+◌, map, drop}
use Rattle.eqn_core.specs.inner.OrderTest.{lines_in_order}
use Rattle.eqn_core.specs.Views.{line_of}
use Rattle.eqn_core.proofs.order.reads_earlier_only.Given as goal

abbrev pub invariant-loop-line : goal.invariant-loop-line
invariant-loop-line l =
    (lines_in_order l.bits l.words (map line_of (drop l.line-index l.lines)) ≡ lines_in_order l.fn.bits l.fn.words (map line_of l.lines)) × (l.bits + l.words ≡ l.fn.bits + l.fn.words + l.line-index)
