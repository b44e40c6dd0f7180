use Rattle.std.proofs.Common.{ap, map, ◌∙◌}
use Rattle.eqn_build.specs.inner.BuilderViews.{any_line}
use Rattle.eqn_build.proofs.LiteralLists.{emit_at, signals_end}
use Rattle.eqn_build.proofs.tables.signal_lines.Goals as goal

pub put_emissions-requires : goal.put_emissions-requires
put_emissions-requires c =
    record { emit = rw (c.loop-fire.invariant.len, c.deref.ensures) (emit_at c.args.first c.args.count c.args.fires.now c.loop-fire.fire-index c.fire-item.result c.requires.emit c.loop-fire-test.true c.fire-item.is) }

pub returns : goal.returns
returns c =
    c.in_ok-any_lines.ensures ∙ ap (map any_line) c.deref-2.ensures.value ∙ signals_end c.loop-fire.lists.items c.args.fires.now c.loop-fire.fire-index c.args.first c.args.count c.loop-fire-test.false c.loop-fire.invariant.len c.loop-fire.invariant.each
