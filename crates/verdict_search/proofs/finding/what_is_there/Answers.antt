use Rattle.std.proofs.Common.{◌+◌, ◌*◌, refl, sym, arith, length, ◌∙◌}
use Rattle.std.proofs.lemmas.Bool.{eqb-true, eqb-false}
use Rattle.eqn_dd.proofs.Denotations.{adds_in_turn}
use Rattle.verdict_search.specs.Counts.{pinning_count, taking_count, leaving_count}
use Rattle.verdict_search.proofs.Verdicts.{none_there, some_there, first_there, second_there}
use Rattle.verdict_search.proofs.finding.what_is_there.Goals as goal

pub returns-then-eq-clause-there : goal.returns-then-eq-clause-there
returns-then-eq-clause-there c = λ m K gs v k all.
    let pinned = rw c.deref.ensures.value at c.in_ok-here.ensures.pinned in
    (refl, none_there c.args.consistent.now c.args.at.items c.in_ok-here.ensures.adds.arena c.in_ok-here.ensures.adds.keeps (eqb-true c.in_ok-here.here.0 0 (sym c.eq.ensures ∙ c.if-eq.true)) pinned m K v k)

pub returns-in_err-first-clause-adds : goal.returns-in_err-first-clause-adds
returns-in_err-first-clause-adds c =
    let a = length c.args.at.items in
    let n = length c.args.consistent.now in
    let r = length c.args.results.now in
    let pinned = rw c.deref.ensures.value at c.in_ok-here.ensures.adds in
    adds_in_turn (pinning_count a n) (2 * r) (pinning_count a n + taking_count r + leaving_count r + taking_count r) (omega arith) pinned c.least_answers.ensures.adds

pub returns-in_err-others-clause-adds : goal.returns-in_err-others-clause-adds
returns-in_err-others-clause-adds c =
    let a = length c.args.at.items in
    let n = length c.args.consistent.now in
    let r = length c.args.results.now in
    let pinned = rw c.deref.ensures.value at c.in_ok-here.ensures.adds in
    adds_in_turn (pinning_count a n + 2 * r) (leaving_count r) (pinning_count a n + taking_count r + leaving_count r + taking_count r) (omega arith)
    (adds_in_turn (pinning_count a n) (2 * r) (pinning_count a n + 2 * r) (omega arith) pinned c.in_ok-first.ensures.adds) c.without_answers.ensures.adds

pub returns-in_err-second-clause-adds : goal.returns-in_err-second-clause-adds
returns-in_err-second-clause-adds c =
    let a = length c.args.at.items in
    let n = length c.args.consistent.now in
    let r = length c.args.results.now in
    let pinned = rw c.deref.ensures.value at c.in_ok-here.ensures.adds in
    adds_in_turn (pinning_count a n + 2 * r + leaving_count r) (2 * r) (pinning_count a n + taking_count r + leaving_count r + taking_count r) (omega arith)
    (adds_in_turn (pinning_count a n + 2 * r) (leaving_count r) (pinning_count a n + 2 * r + leaving_count r) (omega arith)
    (adds_in_turn (pinning_count a n) (2 * r) (pinning_count a n + 2 * r) (omega arith) pinned c.in_ok-first.ensures.adds) c.in_ok-others.ensures.adds) c.least_answers-2.ensures.adds

pub returns-clause-adds : goal.returns-clause-adds
returns-clause-adds c =
    let a = length c.args.at.items in
    let n = length c.args.consistent.now in
    let r = length c.args.results.now in
    let pinned = rw c.deref.ensures.value at c.in_ok-here.ensures.adds in
    adds_in_turn (pinning_count a n + 2 * r + leaving_count r) (2 * r) (pinning_count a n + taking_count r + leaving_count r + taking_count r) (omega arith)
    (adds_in_turn (pinning_count a n + 2 * r) (leaving_count r) (pinning_count a n + 2 * r + leaving_count r) (omega arith)
    (adds_in_turn (pinning_count a n) (2 * r) (pinning_count a n + 2 * r) (omega arith) pinned c.in_ok-first.ensures.adds) c.in_ok-others.ensures.adds) c.in_ok-second.ensures.adds

pub returns-clause-there : goal.returns-clause-there
returns-clause-there c = λ m K gs v k all.
    let z = c.args.at.items in
    let pinned = rw c.deref.ensures.value at c.in_ok-here.ensures.pinned in
    let pinning = rw c.deref.ensures.value at c.in_ok-here.ensures.adds in
    let without = rw c.deref-2.ensures.value at c.in_ok-others.ensures.without in (
      refl,
      some_there c.args.consistent.now z pinning.arena pinning.keeps c.in_ok-here.ensures.held (eqb-false c.in_ok-here.here.0 0 (sym c.eq.ensures ∙ c.if-eq.false)) pinned m K v k,
      first_there c.args.consistent.now z c.args.results.now c.in_ok-first.first.items c.in_ok-second.second.items c.requires.results pinning c.in_ok-here.ensures.held pinned c.in_ok-first.ensures.adds c.in_ok-first.ensures.least c.in_ok-others.ensures.adds without
          c.in_ok-second.ensures.least m K gs v k all,
      second_there c.args.consistent.now z c.args.results.now c.in_ok-first.first.items c.in_ok-second.second.items c.requires.results pinning c.in_ok-here.ensures.held pinned c.in_ok-first.ensures.adds c.in_ok-first.ensures.least c.in_ok-others.ensures.adds without
          c.in_ok-second.ensures.least m K gs v k all,
    )
