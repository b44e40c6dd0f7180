use Rattle.std.proofs.Common.{rules, refl, sym, ◌∙◌}
use Rattle.eqn_file.specs.inner.Words.{words_left}
use Rattle.eqn_file.specs.inner.WordReading as reading
use Rattle.eqn_file.specs.inner.Taking.{IsMisspelt}
use Rattle.eqn_file.proofs.LineSteps.{IsWord, one_case, case_shorter, cases_misspelt, pick_missing, chain_whole}
use Rattle.eqn_file.proofs.system_lines.choose.Goals as goal

pub returns-in_err-pick : goal.returns-in_err-pick
returns-in_err-pick c =
    let h = c.in_ok-kind.ensures {u = tt} in
    let w : IsWord c.loop-cases.words c.word.new.self c.in_ok-kind.kind.now = record { words = h.word; fits = h.fits; line = h.kind } in
    let t = c.in_ok-when.ensures {u = tt} in
    let m : IsMisspelt c.args.words.now.at (reading.choose_of (words_left c.args.words.now.left)) c.in_err-pick.field-0.0 =
    cases_misspelt c.args.bounds.bits c.args.bounds.words c.args.words.now c.loop-cases.words c.literal.new.self c.loop-cases.cases.items (reading.take_choice (words_left c.literal.new.self.left)) c.in_err-pick.field-0.0 c.loop-cases.invariant
    (t.line ∙ w.line) (pick_missing c.loop-cases.words c.word.new.self c.literal.new.self c.args.bounds.bits c.in_ok-kind.kind.now c.in_ok-when.when w (sym c.eq.ensures ∙ c.if-eq.true) t) (c.in_err-pick.ensures {u = tt}) in
    search rules

pub loop-cases-smaller : goal.loop-cases-smaller
loop-cases-smaller c =
    let h = c.in_ok-kind.ensures {u = tt} in
    let w : IsWord c.loop-cases.words c.word.new.self c.in_ok-kind.kind.now = record { words = h.word; fits = h.fits; line = h.kind } in
    case_shorter c.loop-cases.words c.word.new.self c.literal.new.self c.pick.new.self c.args.bounds.bits c.args.bounds.words c.in_ok-kind.kind.now c.in_ok-when.when c.in_ok-pick.pick w (c.in_ok-when.ensures {u = tt}) (c.in_ok-pick.ensures {u = tt})

pub loop-cases-preserved : goal.loop-cases-preserved
loop-cases-preserved c =
    let h = c.in_ok-kind.ensures {u = tt} in
    let w : IsWord c.loop-cases.words c.word.new.self c.in_ok-kind.kind.now = record { words = h.word; fits = h.fits; line = h.kind } in
    one_case c.args.bounds.bits c.args.bounds.words c.args.words.now c.loop-cases.words c.word.new.self c.literal.new.self c.pick.new.self c.loop-cases.cases.items c.push.new.self.items c.in_ok-kind.kind.now c.in_ok-when.when c.in_ok-pick.pick
    c.loop-cases.invariant w (sym c.eq.ensures ∙ c.if-eq.true) (c.in_ok-when.ensures {u = tt}) (c.in_ok-pick.ensures {u = tt}) (record { when = c.in_ok-when.when; pick = c.in_ok-pick.pick }) refl (c.in_ok-push.ensures {u = tt}).ok

pub returns-then-eq-2 : goal.returns-then-eq-2
returns-then-eq-2 c =
    let h = c.in_ok-kind.ensures {u = tt} in
    let w : IsWord c.loop-cases.words c.word.new.self c.in_ok-kind.kind.now = record { words = h.word; fits = h.fits; line = h.kind } in
    chain_whole c.args.bounds.bits c.args.bounds.words c.args.words.now c.loop-cases.words c.word.new.self c.pick-then-eq-2.new.self c.loop-cases.cases c.in_ok-kind.kind.now c.in_ok-other.other
    c.loop-cases.invariant w (sym c.eq-else-eq.ensures ∙ c.if-eq-2.true) (c.in_ok-other.ensures {u = tt}) (c.in_ok-end.ensures {u = tt}).end
