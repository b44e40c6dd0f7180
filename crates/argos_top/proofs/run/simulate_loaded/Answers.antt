use Rattle.std.proofs.Common.{subst, sym}
use Rattle.argos_load.specs.Calls.{call}
use Rattle.argos_top.specs.inner.Endings.{Ran}
use Rattle.argos_load.specs.Giving.{runnable_of}
use Rattle.argos_top.proofs.run.simulate_loaded.Goals as goal

pub returns-in-Program : goal.returns-in-Program
returns-in-Program g c =
    let source = call g.R.Source.left g.R.Source.faults c.args.input.now c.simulate_woven.new.input in
    let sink = call g.W.Sink.held g.W.Sink.faults c.args.out.now c.simulate_woven.new.out in
    subst (λ l. Ran (runnable_of l) source sink c.simulate_woven.result) (sym c.in-Program.is) c.simulate_woven.ensures

pub returns-in-Equations : goal.returns-in-Equations
returns-in-Equations g c =
    let source = call g.R.Source.left g.R.Source.faults c.args.input.now c.simulate.new.input in
    let sink = call g.W.Sink.held g.W.Sink.faults c.args.out.now c.simulate.new.out in
    subst (λ l. Ran (runnable_of l) source sink c.simulate.result) (sym c.in-Equations.is) c.simulate.ensures

pub returns-in-CText : goal.returns-in-CText
returns-in-CText g c =
    let source = call g.R.Source.left g.R.Source.faults c.args.input.now c.simulate_step.new.input in
    let sink = call g.W.Sink.held g.W.Sink.faults c.args.out.now c.simulate_step.new.out in
    subst (λ l. Ran (runnable_of l) source sink c.simulate_step.result) (sym c.in-CText.is) c.simulate_step.ensures
