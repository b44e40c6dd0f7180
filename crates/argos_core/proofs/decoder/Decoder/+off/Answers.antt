use Rattle.std.proofs.Common.{sym, ◌∙◌}
use Rattle.argos_core.proofs.ReadLists.{parts_stuck, parts_taken, states_stuck, states_taken}
use Rattle.argos_core.proofs.decoder.Decoder.+off.Goals as goal

pub parts_off-returns-then-not-process_off : goal.parts_off-returns-then-not-process_off
parts_off-returns-then-not-process_off t c =
    sym c.loop-part.invariant ∙ parts_stuck c.args.parts.now c.loop-part.part-index c.part-item.result c.loop-part.self.rest.now c.loop-part-test.true c.part-item.is c.if-not-process_off.ensures

pub parts_off-loop-part-preserved : goal.parts_off-loop-part-preserved
parts_off-loop-part-preserved t c =
    sym (parts_taken c.args.parts.now c.loop-part.part-index c.part-item.result c.loop-part.self.rest.now c.process_off.new.self.rest.now c.loop-part-test.true c.part-item.is c.if-not-process_off.ensures) ∙ c.loop-part.invariant

pub states_off-returns-then-not-body_off : goal.states_off-returns-then-not-body_off
states_off-returns-then-not-body_off t c =
    sym c.loop-state.invariant ∙ states_stuck c.args.states.now c.loop-state.state-index c.state-item.result c.loop-state.self.rest.now c.loop-state-test.true c.state-item.is c.if-not-body_off.ensures

pub states_off-loop-state-preserved : goal.states_off-loop-state-preserved
states_off-loop-state-preserved t c =
    sym (states_taken c.args.states.now c.loop-state.state-index c.state-item.result c.loop-state.self.rest.now c.body_off.new.self.rest.now c.loop-state-test.true c.state-item.is c.if-not-body_off.ensures) ∙ c.loop-state.invariant
