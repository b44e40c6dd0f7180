use Rattle.std.proofs.Common.{◌≡◌, ◌≤◌, length}
use Rattle.trace_io.specs.Lines.{room_of}
use Rattle.trace_io.specs.Whole.{lines_left}
use Rattle.argos_top.proofs.Simulations.{SoFar}
use Rattle.argos_top.proofs.lines.go_through.Given as goal

abbrev pub invariant-loop-error : goal.invariant-loop-error
invariant-loop-error g l =
    let held = g.W.Sink.held in
    let faults = g.W.Sink.faults in
    let inputs = l.names.inputs in
    let outputs = l.names.outputs in
    record {
      so_far : SoFar g.T.Reactor.reacts l.initial.reactor l.reactor inputs outputs (lines_left inputs l.initial.trace) (held l.initial.out) (held l.out) l.trace;
      still : faults l.out ≡ faults l.initial.out;
      inputs_are : g.T.Reactor.inputs l.reactor ≡ length inputs;
      outputs_are : g.T.Reactor.outputs l.reactor ≡ length outputs;
      input_sized : length l.instant.input ≡ length inputs;
      output_sized : length l.instant.output ≡ length outputs;
      room : room_of outputs ≤ l.instant.writer;
    }

abbrev pub decreases-loop-error : goal.decreases-loop-error
decreases-loop-error g l = length (lines_left l.names.inputs l.trace).0
