use Rattle.std.proofs.Common.{◌≤◌, length, map, arith}
use Rattle.argos_core.specs.Views.{state_of, states_of}
use Rattle.instant_check.specs.inner.Jobs.{transitions_in}
use Rattle.instant_check.proofs.EffectLists.{true_and_false}
use Rattle.instant_check.proofs.Searches.{fit_state, transitions-at, length-transitions, states_more, states_stop, states_answer}
use Rattle.instant_check.proofs.search.states_overlaps.Goals as goal

pub overlap_in-answer-requires-clause-fit : goal.overlap_in-answer-requires-clause-fit
overlap_in-answer-requires-clause-fit c =
    let ss = c.args.states.now in
    fit_state c.args.count (transitions_in (states_of (map state_of ss))) c.loop-number.number _ c.requires.fit (transitions-at ss c.loop-number.number c.index-states-number.result c.loop-number-test.true c.index-states-number.is)

pub returns-then-not-is_clear : goal.returns-then-not-is_clear
returns-then-not-is_clear c =
    let ss = c.args.states.now in
    states_stop c.args.count c.args.budget c.args.register.0 c.loop-number.number (transitions_in (states_of (map state_of ss))) _ c.loop-number.invariant
    (transitions-at ss c.loop-number.number c.index-states-number.result c.loop-number-test.true c.index-states-number.is)
    c.overlap_in-answer.ensures (λ e. true_and_false (c.is_clear.ensures.1 e) c.if-not-is_clear.true)

pub loop-number-preserved : goal.loop-number-preserved
loop-number-preserved c =
    let ss = c.args.states.now in
    states_more c.args.count c.args.budget c.args.register.0 c.loop-number.number (transitions_in (states_of (map state_of ss))) _ c.loop-number.invariant
    (transitions-at ss c.loop-number.number c.index-states-number.result c.loop-number-test.true c.index-states-number.is)
    c.overlap_in-answer.ensures (c.is_clear.ensures.0 c.if-not-is_clear.false)

pub returns : goal.returns
returns c =
    let ss = c.args.states.now in
    let all : length (transitions_in (states_of (map state_of ss))) ≤ c.loop-number.number = omega (arith, c.loop-number-test.false, length-transitions ss) in
    states_answer (transitions_in (states_of (map state_of ss))) all c.loop-number.invariant
