use Rattle.std.proofs.Common.{◌≡◌, ◌∙◌, ◌++◌, ap, arith}
use Rattle.std.specs.Prelude.{codes, decimal}
use Rattle.std.proofs.lemmas.Grind.{common_steps}
use Rattle.argos_base.specs.Spelling.{is_name}
use Rattle.argos_sample.proofs.SampleNames.{inner_name}
use Rattle.argos_sample.proofs.text.signal.Goals as goal

pub named-requires : goal.named-requires
named-requires c =
    let spelled : c.deref.result.now ≡ codes "c" ++ decimal c.args.number = grind (arith, common_steps) in
    ap is_name spelled ∙ inner_name c.args.number c.requires
