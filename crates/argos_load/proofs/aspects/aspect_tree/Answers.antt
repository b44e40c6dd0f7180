use Rattle.std.proofs.Common.{ap, ◌∙◌}
use Rattle.argos_grammar.specs.Views.{aspect_of}
use Rattle.argos_grammar.proofs.WellFormed.{aspect_text_formed}
use Rattle.argos_load.specs.WovenFiles.{tree}
use Rattle.argos_load.proofs.AspectStages.{says_aspect_fault}
use Rattle.argos_report.specs.Texts.{refused_file}
use Rattle.argos_load.proofs.aspects.aspect_tree.Goals as goal

pub returns-in-Ok-clause-tree : goal.returns-in-Ok-clause-tree
returns-in-Ok-clause-tree c = tree (aspect_of c.in-Ok.tree) (c.in-Ok.ensures {u = tt}).text

pub returns-in-Ok-clause-formed : goal.returns-in-Ok-clause-formed
returns-in-Ok-clause-formed c = aspect_text_formed c.args.text.now (aspect_of c.in-Ok.tree) (c.in-Ok.ensures {u = tt}).text

pub returns-in_ok-refusal-in-Err : goal.returns-in_ok-refusal-in-Err
returns-in_ok-refusal-in-Err c =
    let k = c.args.number in
    let report = c.in_ok-refusal-in-Err.field-0.items in
    let is = c.in_ok-refusal-in-Err.ensures {u = tt} ∙ ap (refused_file k) c.deref.ensures.value in
    record { tree = says_aspect_fault k c.args.text.now c.in-Err.error c.in_ok-fault_cause-in-Err.field-0 report (c.in-Err.ensures {u = tt}).fault (c.in_ok-fault_cause-in-Err.ensures {u = tt}) is; formed = tt }
