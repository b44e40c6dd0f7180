use Rattle.std.proofs.Common.{rules, sym, ◌∙◌}
use Rattle.eqn_file.specs.inner.Words.{words_left}
use Rattle.eqn_file.specs.inner.WordReading as reading
use Rattle.eqn_file.specs.inner.Taking.{IsMisspelt}
use Rattle.eqn_file.proofs.WordSteps.{some-words}
use Rattle.eqn_file.proofs.LineSteps.{one_literal, literals_misspelt}
use Rattle.eqn_file.proofs.system_lines.literals.Goals as goal

pub loop-literals-preserved : goal.loop-literals-preserved
loop-literals-preserved c =
    one_literal c.args.bits c.args.words.now c.loop-literals.words c.literal.new.self c.loop-literals.literals.items c.push.new.self.items c.in_ok-literal.field-0 c.loop-literals.invariant (c.in_ok-literal.ensures {u = tt}) (c.in_ok-push.ensures {u = tt}).ok

pub returns-in_err-literal : goal.returns-in_err-literal
returns-in_err-literal c =
    let m : IsMisspelt c.args.words.now.at (reading.literals (words_left c.args.words.now.left)) c.in_err-literal.field-0.0 =
    literals_misspelt c.args.bits c.args.words.now c.loop-literals.words c.loop-literals.literals.items c.in_err-literal.field-0.0 c.loop-literals.invariant
    (some-words c.loop-literals.words.left (sym c.is_some.ensures ∙ c.loop-literals-test.true)) (c.in_err-literal.ensures {u = tt}) in
    search rules
