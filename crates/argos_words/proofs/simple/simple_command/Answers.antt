use Rattle.std.proofs.Common.{◌≡◌, rules, ap, ap₂, ◌∙◌}
use Rattle.clap.specs.Walk.{rule_of}
use Rattle.clap.specs.Simple.{with_rule}
use Rattle.argos_words.specs.Simple.{option_rule}
use Rattle.argos_words.proofs.Adding.{one_more}
use Rattle.argos_words.proofs.simple.simple_command.Goals as goal

pub loop-option-preserved : goal.loop-option-preserved
loop-option-preserved c =
    let rule : rule_of c.long.result ≡ option_rule c.new-in-loop-option.result.id.now = search rules in
    c.in_ok-command-2.ensures.shape (search rules) ∙ ap₂ with_rule c.loop-option.invariant rule
    ∙ one_more c.args.name.now c.args.options.now c.loop-option.option-index _ c.new-in-loop-option.result.id.now c.loop-option-test.true (ap (λ w. w.now) c.new-in-loop-option.ensures.id)
