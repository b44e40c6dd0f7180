use Rattle.std.proofs.Common.{arith, ap, sym, ◌∙◌, ◌+◌, drop, map}
use denote.Param.Weighed.{at_most}
use Rattle.argos_core.specs.inner.Reading.{read_parts}
use Rattle.argos_core.specs.Views.{process_of, processes_of, configuration_of, inner_of}
use Rattle.argos_core.proofs.Encoding.{body_shaped}
use Rattle.argos_core.proofs.Shaping.{next_part}
use Rattle.argos_core.proofs.ReadLists.{prepended, rest_taken, read_parts_taken, parts_read, parallel_read, map-push, state_stuck_before, state_stuck_inside, state_stuck_behind, state_read}
use Rattle.argos_core.proofs.decoder.Decoder.+decode.Goals as goal

pub parallel-returns-in-Some : goal.parallel-returns-in-Some
parallel-returns-in-Some t c = parallel_read _ c.in-Some.configs c.parts.new.self.rest.now (rw c.in-Some.is at c.in_ok-configs.ensures)

pub parts-loop-part-preserved : goal.parts-loop-part-preserved
parts-loop-part-preserved t c =
    let ps = c.args.parts.now in
    let i = c.loop-part.part-index in
    let pushed = ap (map configuration_of) c.in_ok-push.ensures.items ∙ map-push c.loop-part.configs.items c.in-Some.config in
    record {
      shaped = (next_part ps i c.part-item.result c.loop-part-test.true c.loop-part.invariant.shaped).1;
      read = ap (λ l. prepended l (read_parts (processes_of (map process_of (drop (i + 1) ps))) c.process.new.self.rest.now)) pushed ∙ sym (read_parts_taken ps i c.part-item.result c.loop-part.self.rest.now c.process.new.self.rest.now (map configuration_of c.loop-part.configs.items) (configuration_of c.in-Some.config) c.loop-part-test.true c.part-item.is (rw c.in-Some.is at c.in_ok-config.ensures)) ∙ c.loop-part.invariant.read;
    }

pub parts-returns : goal.parts-returns
parts-returns t c = sym c.loop-part.invariant.read ∙ parts_read c.args.parts.now c.loop-part.part-index (map configuration_of c.loop-part.configs.items) c.loop-part.self.rest.now c.loop-part-test.false

pub state-returns-then-not-states_off : goal.state-returns-then-not-states_off
state-returns-then-not-states_off t c = state_stuck_before c.args.states.now c.args.current c.args.elapsed c.args.self.now.rest.now c.requires.exists c.if-not-states_off.ensures

pub state-body-requires : goal.state-body-requires
state-body-requires t c = (grind (arith, at_most), body_shaped c.args.states.now _ c.args.current _ c.requires.shaped c.requires.exists c.index-states-number.is)

pub state-returns-in_default : goal.state-returns-in_default
state-returns-in_default t c =
    state_stuck_inside c.args.states.now c.args.current c.args.elapsed c.index-states-number.result c.args.self.now.rest.now c.states_off.new.self.rest.now c.requires.exists c.index-states-number.is c.if-not-states_off.ensures (rw c.in_default.is at c.in_ok-body.ensures)

pub state-returns-then-not-states_off-2 : goal.state-returns-then-not-states_off-2
state-returns-then-not-states_off-2 t c =
    state_stuck_behind c.args.states.now c.args.current c.args.elapsed c.index-states-number.result c.args.self.now.rest.now c.states_off.new.self.rest.now c.body.new.self.rest.now (inner_of c.in-Some.body) c.requires.exists c.index-states-number.is c.if-not-states_off.ensures (rw c.in-Some.is at c.in_ok-body.ensures) (rw (rest_taken c.args.states.now (c.args.current + 1)) at c.if-not-states_off-2.ensures)

pub state-returns : goal.state-returns
state-returns t c =
    state_read c.args.states.now c.args.current c.args.elapsed c.index-states-number.result c.args.self.now.rest.now c.states_off.new.self.rest.now c.body.new.self.rest.now c.states_off-2.new.self.rest.now c.in-Some.body c.requires.exists c.index-states-number.is c.if-not-states_off.ensures (rw c.in-Some.is at c.in_ok-body.ensures) (rw (rest_taken c.args.states.now (c.args.current + 1)) at c.if-not-states_off-2.ensures)
