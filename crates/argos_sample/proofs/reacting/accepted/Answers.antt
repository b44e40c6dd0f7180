use Rattle.std.proofs.Common.{◌∙◌, subst}
use Rattle.argos_compile.specs.Accepting.{IsAccepted}
use Rattle.argos_core.specs.Process.{PlainModule}
use Rattle.argos_sample.specs.SampleModule.{sample_module}
use Rattle.argos_sample.proofs.Reactions.{text_is_short, text_means, refused_for_memory}
use Rattle.argos_sample.proofs.reacting.accepted.Goals as goal

pub resolve_text-requires : goal.resolve_text-requires
resolve_text-requires c = text_is_short c.args.count c.requires.least c.requires.most _ (c.deref.ensures.value ∙ (c.in_ok-text.ensures {u = tt}).text)

pub no_memory_to_read-requires : goal.no_memory_to_read-requires
no_memory_to_read-requires c =
    (c.in-Err.ensures {u = tt}).exact (sample_module c.args.count) (text_means c.args.count c.requires.least c.requires.most _ (c.deref.ensures.value ∙ (c.in_ok-text.ensures {u = tt}).text))

pub no_memory_to_judge-requires : goal.no_memory_to_judge-requires
no_memory_to_judge-requires c =
    let same = (c.in-Ok.ensures {u = tt}).exact (sample_module c.args.count) (text_means c.args.count c.requires.least c.requires.most _ (c.deref.ensures.value ∙ (c.in_ok-text.ensures {u = tt}).text)) in
    refused_for_memory c.args.count c.requires.least c.requires.most _ _ _ same (c.in-Err-accept.ensures {u = tt}).answer

pub returns-in-Ok-accept : goal.returns-in-Ok-accept
returns-in-Ok-accept c =
    let same = (c.in-Ok.ensures {u = tt}).exact (sample_module c.args.count) (text_means c.args.count c.requires.least c.requires.most _ (c.deref.ensures.value ∙ (c.in_ok-text.ensures {u = tt}).text)) in
    subst (λ (P : PlainModule). IsAccepted P c.in-Ok-accept.accepted.ordered c.in-Ok-accept.accepted.lines) same (c.in-Ok-accept.ensures {u = tt}).answer
