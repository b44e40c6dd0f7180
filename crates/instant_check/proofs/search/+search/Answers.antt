use Rattle.std.proofs.Common.{◌≡◌, ◌+◌, ◌∷◌, [], List, map, drop, refl, sym, ap, ◌∙◌, subst, rules, arith, inl, inr}
use Rattle.std.proofs.lemmas.Grind.{common_steps}
use denote.Param.Weighed.{at_most}
use Rattle.argos_core.proofs.prog.Prog.TheLaws as process_sizes
use Rattle.argos_core.proofs.prog.State.TheLaws as state_sizes
use Rattle.argos_core.specs.Views.{process_of, processes_of, state_of, states_of}
use Rattle.instant_check.specs.inner.Jobs.{Jobs, transitions_in, jobs_of, jobs_of_parts, jobs_in, jobs_within}
use Rattle.instant_check.specs.inner.Searching.{Answers}
use Rattle.instant_check.proofs.EffectLists.{true_and_false}
use Rattle.argos_core.specs.declared.prog.Prog.{Prog}
use Rattle.argos_core.specs.declared.prog.State.{State}
use Rattle.instant_check.proofs.JobViews.{jobs_of-Auto, jobs_of-Par, jobs_of-Local, jobs_of-Freeze, body_jobs}
use Rattle.instant_check.proofs.Searches.{passed_more, passed_stops, passed_answers, next_fit, next_room, parts-next, parts-end, bodies-next, bodies-end, answers_later, clear_passed, stops_front, unclear_stops, length-transitions}
use Rattle.instant_check.proofs.search.+search.Goals as goal

pub automaton_overlaps-states_overlaps-answer-requires-clause-numbered : goal.automaton_overlaps-states_overlaps-answer-requires-clause-numbered
automaton_overlaps-states_overlaps-answer-requires-clause-numbered t c = omega (arith, c.requires.fit.0, length-transitions c.args.states.now)

pub automaton_overlaps-returns-then-not-is_clear-clause-answer : goal.automaton_overlaps-returns-then-not-is_clear-clause-answer
automaton_overlaps-returns-then-not-is_clear-clause-answer t c =
    let ss = states_of (map state_of c.args.states.now) in
    inr (stops_front (transitions_in ss ∷ []) (jobs_in ss) (unclear_stops c.states_overlaps-answer.ensures (λ e. true_and_false (c.is_clear.ensures.1 e) c.if-not-is_clear.true)))

pub automaton_overlaps-returns-clause-answer : goal.automaton_overlaps-returns-clause-answer
automaton_overlaps-returns-clause-answer t c =
    let ss = states_of (map state_of c.args.states.now) in
    answers_later (transitions_in ss ∷ []) (jobs_in ss) refl (clear_passed c.states_overlaps-answer.ensures (c.is_clear.ensures.0 c.if-not-is_clear.false)) c.bodies_overlaps.ensures.answer

pub bodies_overlaps-body_overlaps-answer-requires : goal.bodies_overlaps-body_overlaps-answer-requires
bodies_overlaps-body_overlaps-answer-requires t c =
    let ss = c.args.states.now in
    let i = c.loop-state.state-index in
    let next = bodies-next ss i c.state-item.result c.loop-state-test.true c.state-item.is in
    let first = jobs_within (state_of c.state-item.result).body in
    let more = jobs_in (states_of (map state_of (drop (i + 1) ss))) in
    let deep = at_most state_sizes.the_size ss i c.state-item.result c.loop-state-test.true in
    (first_of (search (rules, deep), grind (arith, common_steps)), (c.requires.least, (c.requires.greatest, (next_fit c.args.count first more c.loop-state.invariant next c.requires.fit, next_room first more c.loop-state.invariant next c.requires.numbered))))

pub bodies_overlaps-returns-then-not-is_clear-clause-answer : goal.bodies_overlaps-returns-then-not-is_clear-clause-answer
bodies_overlaps-returns-then-not-is_clear-clause-answer t c =
    let ss = c.args.states.now in
    let i = c.loop-state.state-index in
    let next = bodies-next ss i c.state-item.result c.loop-state-test.true c.state-item.is in
    passed_stops (jobs_within (state_of c.state-item.result).body) (jobs_in (states_of (map state_of (drop (i + 1) ss)))) c.loop-state.invariant next c.body_overlaps-answer.ensures.answer (λ e. true_and_false (c.is_clear.ensures.1 e) c.if-not-is_clear.true)

pub bodies_overlaps-loop-state-preserved : goal.bodies_overlaps-loop-state-preserved
bodies_overlaps-loop-state-preserved t c =
    let ss = c.args.states.now in
    let i = c.loop-state.state-index in
    let next = bodies-next ss i c.state-item.result c.loop-state-test.true c.state-item.is in
    let clear = c.is_clear.ensures.0 c.if-not-is_clear.false in
    passed_more (jobs_within (state_of c.state-item.result).body) (jobs_in (states_of (map state_of (drop (i + 1) ss)))) c.loop-state.invariant next c.body_overlaps-answer.ensures.answer clear (c.body_overlaps-answer.ensures.moved clear)

pub bodies_overlaps-returns-clause-answer : goal.bodies_overlaps-returns-clause-answer
bodies_overlaps-returns-clause-answer t c = passed_answers c.loop-state.invariant (bodies-end c.args.states.now c.loop-state.state-index c.loop-state-test.false)

pub body_overlaps-returns-in-Some-clause-answer : goal.body_overlaps-returns-in-Some-clause-answer
body_overlaps-returns-in-Some-clause-answer t c =
    let same : jobs_of (process_of c.deref.result.now) ≡ jobs_within (state_of c.args.state.now).body = ap (λ (p : Prog). jobs_of (process_of p)) c.deref.ensures ∙ sym (body_jobs c.args.state.now c.in-Some.inside c.in-Some.is) in
    subst (λ (jobs : Jobs). Answers c.args.count c.args.budget c.args.register.now jobs c.process_overlaps.result) same c.process_overlaps.ensures.answer

pub parts_overlaps-process_overlaps-answer-requires : goal.parts_overlaps-process_overlaps-answer-requires
parts_overlaps-process_overlaps-answer-requires t c =
    let ps = c.args.parts.now in
    let i = c.loop-part.part-index in
    let next = parts-next ps i c.part-item.result c.loop-part-test.true c.part-item.is in
    let first = jobs_of (process_of c.part-item.result) in
    let more = jobs_of_parts (processes_of (map process_of (drop (i + 1) ps))) in
    let deep = at_most process_sizes.the_size ps i c.part-item.result c.loop-part-test.true in
    (first_of (search (rules, deep), grind (arith, common_steps)), (c.requires.least, (c.requires.greatest, (next_fit c.args.count first more c.loop-part.invariant next c.requires.fit, next_room first more c.loop-part.invariant next c.requires.numbered))))

pub parts_overlaps-returns-then-not-is_clear-clause-answer : goal.parts_overlaps-returns-then-not-is_clear-clause-answer
parts_overlaps-returns-then-not-is_clear-clause-answer t c =
    let ps = c.args.parts.now in
    let i = c.loop-part.part-index in
    let next = parts-next ps i c.part-item.result c.loop-part-test.true c.part-item.is in
    passed_stops (jobs_of (process_of c.part-item.result)) (jobs_of_parts (processes_of (map process_of (drop (i + 1) ps)))) c.loop-part.invariant next c.process_overlaps-answer.ensures.answer (λ e. true_and_false (c.is_clear.ensures.1 e) c.if-not-is_clear.true)

pub parts_overlaps-loop-part-preserved : goal.parts_overlaps-loop-part-preserved
parts_overlaps-loop-part-preserved t c =
    let ps = c.args.parts.now in
    let i = c.loop-part.part-index in
    let next = parts-next ps i c.part-item.result c.loop-part-test.true c.part-item.is in
    let clear = c.is_clear.ensures.0 c.if-not-is_clear.false in
    passed_more (jobs_of (process_of c.part-item.result)) (jobs_of_parts (processes_of (map process_of (drop (i + 1) ps)))) c.loop-part.invariant next c.process_overlaps-answer.ensures.answer clear (c.process_overlaps-answer.ensures.moved clear)

pub parts_overlaps-returns-clause-answer : goal.parts_overlaps-returns-clause-answer
parts_overlaps-returns-clause-answer t c = passed_answers c.loop-part.invariant (parts-end c.args.parts.now c.loop-part.part-index c.loop-part-test.false)

pub process_overlaps-returns-in-Auto-clause-answer : goal.process_overlaps-returns-in-Auto-clause-answer
process_overlaps-returns-in-Auto-clause-answer t c =
    let ss = states_of (map state_of c.deref.result.now) in
    let same : transitions_in ss ∷ jobs_in ss ≡ jobs_of (process_of c.args.prog.now) = ap (λ (l : List State). transitions_in (states_of (map state_of l)) ∷ jobs_in (states_of (map state_of l))) c.deref.ensures.value ∙ sym (jobs_of-Auto c.args.prog.now c.in-Auto.auto c.in-Auto.is) in
    subst (λ (jobs : Jobs). Answers c.args.count c.args.budget c.args.register.now jobs c.automaton_overlaps.result) same c.automaton_overlaps.ensures.answer

pub process_overlaps-returns-in-Par-clause-answer : goal.process_overlaps-returns-in-Par-clause-answer
process_overlaps-returns-in-Par-clause-answer t c =
    let same : jobs_of_parts (processes_of (map process_of c.deref-in-Par.result.now)) ≡ jobs_of (process_of c.args.prog.now) = ap (λ (l : List Prog). jobs_of_parts (processes_of (map process_of l))) c.deref-in-Par.ensures.value ∙ sym (jobs_of-Par c.args.prog.now c.in-Par.parts c.in-Par.is) in
    subst (λ (jobs : Jobs). Answers c.args.count c.args.budget c.args.register.now jobs c.parts_overlaps.result) same c.parts_overlaps.ensures.answer

pub process_overlaps-returns-in-Local-clause-answer : goal.process_overlaps-returns-in-Local-clause-answer
process_overlaps-returns-in-Local-clause-answer t c =
    let inside : jobs_of (process_of c.deref-in-Local.result.now) ≡ jobs_of (process_of c.in-Local.inside.value) = ap (λ (p : Prog). jobs_of (process_of p)) c.deref-in-Local.ensures in
    let same : jobs_of (process_of c.args.prog.now) ≡ jobs_of (process_of c.in-Local.inside.value) = elim c.in-Local.is [
      | inl w ↦ jobs_of-Local c.args.prog.now w.0 c.in-Local.inside w.1
      | inr w ↦ jobs_of-Freeze c.args.prog.now w.0 c.in-Local.inside w.1
    ] in
    subst (λ (jobs : Jobs). Answers c.args.count c.args.budget c.args.register.now jobs c.process_overlaps.result) (inside ∙ sym same) c.process_overlaps.ensures.answer
