use Rattle.std.proofs.Common.{refl}
use Rattle.argos_compile.specs.WovenViews.{woven_view}
use Rattle.line_format.specs.FileNames.{names_of}
use Rattle.argos_load.specs.Calls.{call}
use Rattle.argos_top.proofs.Emitted.{same_inputs, same_outputs}
use Rattle.argos_top.proofs.Runs.{ran_woven}
use Rattle.argos_top.proofs.run.simulate_woven.Goals as goal

pub simulate-requires-clause-inputs : goal.simulate-requires-clause-inputs
simulate-requires-clause-inputs g c = let w = c.args.woven in same_inputs (woven_view w) w.ordered w.most w.judged

pub simulate-requires-clause-outputs : goal.simulate-requires-clause-outputs
simulate-requires-clause-outputs g c = let w = c.args.woven in same_outputs (woven_view w) w.ordered w.most w.judged

pub returns : goal.returns
returns g c =
    let w = c.args.woven in
    let source = call g.R.Source.left g.R.Source.faults c.args.input.now c.simulate.new.input in
    let sink = call g.W.Sink.held g.W.Sink.faults c.args.out.now c.simulate.new.out in
    ran_woven (woven_view w) w.ordered w.most (names_of w.«module».names) source sink c.simulate.result w.judged refl c.simulate.ensures
