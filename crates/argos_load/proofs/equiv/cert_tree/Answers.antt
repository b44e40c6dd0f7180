use Rattle.std.proofs.Common.{ap, ◌∙◌}
use Rattle.argos_grammar.specs.Views.{cert_of}
use Rattle.argos_load.specs.EquivFiles.{tree}
use Rattle.argos_load.proofs.CertStages.{says_cert_syntax}
use Rattle.argos_report.specs.Texts.{refused_file}
use Rattle.argos_load.proofs.equiv.cert_tree.Goals as goal

pub returns-in-Ok : goal.returns-in-Ok
returns-in-Ok c = tree (cert_of c.in-Ok.tree) (c.in-Ok.ensures {u = tt}).text

pub returns-in_ok-refusal-in-Err : goal.returns-in_ok-refusal-in-Err
returns-in_ok-refusal-in-Err c =
    let k = c.args.number in
    let report = c.in_ok-refusal-in-Err.field-0.items in
    let is = c.in_ok-refusal-in-Err.ensures {u = tt} ∙ ap (refused_file k) c.deref.ensures.value in
    says_cert_syntax k c.args.text.now c.in-Err.error c.in_ok-fault_cause-in-Err.field-0 report (c.in-Err.ensures {u = tt}).fault (c.in_ok-fault_cause-in-Err.ensures {u = tt}) is
