use Rattle.std.proofs.Common.{Ok, true, ◌∙◌, ap, subst, arith}
use Rattle.trace_io.specs.Whole.{ReadsNext}
use Rattle.argos_top.proofs.Simulations.{SoFar-more, goes-halt}
use Rattle.argos_top.proofs.lines.go_through.Goals as goal

pub loop-error-preserved : goal.loop-error-preserved
loop-error-preserved g c =
    let put = c.in_default.ensures {u = tt} in
    let read = subst (ReadsNext c.args.names.now.inputs c.loop-error.trace c.next_set.new.self c.next_set.new.set) {y = Ok true} (c.in-Ok-true.is ∙ ap Ok c.in-Ok-true.field-0-test) c.next_set.ensures.read in
    record {
      so_far = SoFar-more g.T.Reactor.reacts c.args.reactor.now c.loop-error.reactor c.args.names.now.inputs c.args.names.now.outputs _ _ _ c.loop-error.trace c.next_set.new.self c.next_set.new.set c.react.new.output c.react.new.self _ c.loop-error.invariant.so_far read c.react.ensures.reaction put.whole;
      still = put.cause.kept ∙ c.loop-error.invariant.still;
      inputs_are = c.react.ensures.same_inputs ∙ c.loop-error.invariant.inputs_are;
      outputs_are = c.react.ensures.same_outputs ∙ c.loop-error.invariant.outputs_are;
      input_sized = c.next_set.ensures.sized;
      output_sized = c.react.ensures.sized ∙ c.loop-error.invariant.outputs_are;
      room = omega (arith, c.put_set.ensures.room);
    }

pub returns-in-Err-put_set : goal.returns-in-Err-put_set
returns-in-Err-put_set g c =
    let held = g.W.Sink.held in
    let faults = g.W.Sink.faults in
    let failed = c.in-Err-put_set.ensures {u = tt} in
    let read = subst (ReadsNext c.args.names.now.inputs c.loop-error.trace c.next_set.new.self c.next_set.new.set) {y = Ok true} (c.in-Ok-true.is ∙ ap Ok c.in-Ok-true.field-0-test) c.next_set.ensures.read in
    goes-halt g.T.Reactor.reacts c.args.reactor.now c.loop-error.reactor c.args.names.now.inputs c.args.names.now.outputs _ (held c.args.out.now) (held c.loop-error.out) c.loop-error.trace c.next_set.new.self c.next_set.new.set c.react.new.output c.react.new.self (held c.put_set.new.sink) failed.part.0 (faults c.args.out.now) (faults c.loop-error.out) (faults c.put_set.new.sink) c.in-Err-put_set.fault c.loop-error.invariant.so_far read c.react.ensures.reaction failed.part.1 c.loop-error.invariant.still failed.cause.failed
