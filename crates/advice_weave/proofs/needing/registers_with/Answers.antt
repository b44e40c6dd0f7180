-- Those of the two systems.
use Rattle.std.proofs.Common.{ap, arith}
use Rattle.argos_compile.specs.AspectViews.{aspect_view}
use Rattle.argos_compile.specs.WovenViews.{woven_view}
use Rattle.eqn_core.specs.Equations.{registers}
use Rattle.advice_weave.proofs.Registers.{registers-both}
use Rattle.advice_weave.proofs.needing.registers_with.Goals as goal

pub returns-clause-count : goal.returns-clause-count
returns-clause-count c =
    let w = c.args.woven.now in
    let a = c.args.aspect.now in
    let both = registers-both (woven_view w) (aspect_view a) w.ordered a.observer.ordered w.most a.observer.lines w.judged a.observer.judged c.requires in
    omega (arith, both, c.registers_of.ensures.count, c.registers_of-2.ensures.count, ap registers c.ordered.ensures)
