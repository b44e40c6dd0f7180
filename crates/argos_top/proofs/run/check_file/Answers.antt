use Rattle.std.proofs.Common.{refl}
use Rattle.argos_core.specs.ModuleViews.{module_of}
use Rattle.argos_words.specs.Words.{check}
use Rattle.argos_top.proofs.Runs.{ending_checked, ending_unchecked, simulates_none}
use Rattle.argos_top.proofs.run.check_file.Goals as goal

pub returns-in-Ok-clause-ending : goal.returns-in-Ok-clause-ending
returns-in-Ok-clause-ending g c words source is =
    let file = c.args.file.now in
    ending_checked words _ file c.args.nodes is (module_of c.in-Ok.field-0) _ (c.in-Ok.ensures {u = tt}).program (simulates_none words (check file c.args.nodes) is refl) c.report.ensures

pub returns-clause-ending : goal.returns-clause-ending
returns-clause-ending g c words source is = ending_unchecked words _ c.args.file.now c.args.nodes is c.in-Err.stop _ (c.in-Err.ensures {u = tt}).program c.report_early.ensures
