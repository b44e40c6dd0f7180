use Rattle.std.proofs.Common.{◌≡◌, ℕ, Bool, ◌++◌, drop}
use Rattle.std.specs.Prelude.{filter}
use Rattle.eqn_order.specs.inner.Cyclic.{is_on_cycle}
use Rattle.eqn_order.specs.inner.Graphs.{rows_of}
use Rattle.eqn_order.specs.inner.Sources.{line_of_bit}
use Rattle.eqn_order.specs.inner.Views.{origins_from}
use Rattle.eqn_order.proofs.plan.bits_on_cycles.Given as goal

abbrev pub invariant-loop-bit : goal.invariant-loop-bit
invariant-loop-bit l =
    let test : ℕ → Bool = λ k. is_on_cycle (rows_of l.rows) l.roots (line_of_bit (origins_from l.sources) k) in
    l.cyclic.items ++ filter test (drop l.bit-index l.bits) ≡ filter test l.bits
