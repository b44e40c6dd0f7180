use Rattle.std.proofs.Common.{ap, ◌∙◌}
use Rattle.argos_grammar.specs.Views.{cert_of}
use Rattle.argos_load.specs.EquivFiles.{formula}
use Rattle.argos_load.specs.Giving.{program_of}
use Rattle.argos_load.specs.Stages.{gives}
use Rattle.argos_load.proofs.CertStages.{says_cert_fault}
use Rattle.argos_report.specs.Texts.{refused_file}
use Rattle.bisim_formula.specs.Views.{formula_of}
use Rattle.argos_load.proofs.equiv.cert_over.Goals as goal

pub returns-in-Ok : goal.returns-in-Ok
returns-in-Ok c = (gives (cert_of c.in_ok-tree.tree), c.in_ok-tree.ensures {u = tt}, formula (formula_of c.in-Ok.cert) (c.in-Ok.ensures {u = tt}))

pub returns : goal.returns
returns c =
    let k = c.args.number in
    let t = cert_of c.in_ok-tree.tree in
    let report = c.in_ok-refusal-in-Err.field-0.items in
    let is = c.in_ok-refusal-in-Err.ensures {u = tt} ∙ ap (refused_file k) c.deref.ensures.value in
    (gives t, c.in_ok-tree.ensures {u = tt}, says_cert_fault k (program_of c.args.left.now) (program_of c.args.right.now) t c.in-Err.error c.in_ok-cert_cause-in-Err.field-0 report (c.in-Err.ensures {u = tt}) (c.in_ok-cert_cause-in-Err.ensures {u = tt}) is)
