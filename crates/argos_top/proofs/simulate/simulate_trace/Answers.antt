use Rattle.std.proofs.Common.{length, ◌++◌, sym, subst}
use Rattle.trace_io.specs.Whole.{lines_left}
use Rattle.argos_load.specs.Calls.{call}
use Rattle.argos_load.specs.Runnables.{HasTrace}
use Rattle.argos_top.specs.Simulation.{output_lines}
use Rattle.argos_top.specs.inner.Endings.{tail_of, status_after}
use Rattle.argos_top.proofs.Reports.{Pushes-after}
use Rattle.argos_top.proofs.Runs.{halted}
use Rattle.argos_top.proofs.simulate.simulate_trace.Goals as goal

pub returns-in-Ok : goal.returns-in-Ok
returns-in-Ok g c x run =
    let held = g.W.Sink.held in
    let faults = g.W.Sink.faults in
    let names = c.args.names.now in
    let lines = lines_left names.inputs c.args.trace.now in
    let f = c.in-Ok.ensures {u = tt} in (
      f.outputs,
      run.passes lines.0 f.outputs f.passes,
      Pushes-after (output_lines names.outputs f.outputs) (tail_of lines.1 (length lines.0)) (status_after lines.1) (held c.args.out.now) (held c.go_through.new.out) (held c.report_end.new.out) (faults c.args.out.now) (faults c.go_through.new.out) (faults c.report_end.new.out) c.report_end.result f.still f.appended
          (c.report_end.ensures lines.1 (length lines.0) f.ends),
    )

pub returns-in-Err : goal.returns-in-Err
returns-in-Err g c x run =
    let names = c.args.names.now in
    let t = c.args.trace.now in
    let lines = lines_left names.inputs t in
    let h = c.in-Err.ensures {u = tt} in
    let on = run.goes_on t h.done h.rest h.outputs h.split (run.passes h.done h.outputs h.passes) in (
      h.outputs ++ on.0,
      subst (λ is. HasTrace x is (h.outputs ++ on.0)) (sym h.split) on.1,
      halted names.outputs h.outputs on.0 (tail_of lines.1 (length lines.0)) (status_after lines.1) h.part (call g.W.Sink.held g.W.Sink.faults c.args.out.now c.go_through.new.out) h.is_part h.appended h.rose,
    )
