use Rattle.std.proofs.Common.{arith, ◌∙◌}
use Rattle.eqn_build.proofs.LiteralLists.{from_at, emission_step}
use Rattle.eqn_build.proofs.tables.put_emissions.Goals as goal

pub overflow_sub-signal : goal.overflow_sub-signal
overflow_sub-signal c = (from_at c.args.first _ c.args.signals.now c.loop-signal.signal-index (record { 0 = 0 }) c.requires.emit c.loop-signal-test.true).0

pub put_literal-requires : goal.put_literal-requires
put_literal-requires c =
    let bounds = from_at c.args.first _ c.args.signals.now c.loop-signal.signal-index (record { 0 = 0 }) c.requires.emit c.loop-signal-test.true in record { exists = omega (arith, bounds.0, bounds.1, c.loop-signal.invariant.len) }

pub loop-signal-preserved : goal.loop-signal-preserved
loop-signal-preserved c =
    let low = (from_at c.args.first _ c.args.signals.now c.loop-signal.signal-index (record { 0 = 0 }) c.requires.emit c.loop-signal-test.true).0 in
    record {
      len = c.in_ok-put_literal.ensures.len ∙ c.loop-signal.invariant.len;
      each = λ k. emission_step _ _ _ _ c.args.bit c.args.first c.args.signals.now c.loop-signal.signal-index k (record { 0 = 0 }) c.loop-signal-test.true low c.plus.ensures (c.in_ok-put_literal.ensures.each k) (c.loop-signal.invariant.each k);
    }
