use Rattle.argos_load.specs.Giving.{comparison_of}
use Rattle.argos_top.proofs.Equivalences.{ending_compared, ending_uncompared}
use Rattle.argos_top.proofs.equiv.equiv_files.Goals as goal

pub returns-in-Ok-clause-ending : goal.returns-in-Ok-clause-ending
returns-in-Ok-clause-ending g c words source is =
    ending_compared words _ c.args.left.now c.args.right.now c.args.cert.now c.args.nodes is (comparison_of c.in-Ok.compared) _ (c.in-Ok.ensures {u = tt}).compared c.compare.ensures

pub returns-in-Err-clause-ending : goal.returns-in-Err-clause-ending
returns-in-Err-clause-ending g c words source is = ending_uncompared words _ c.args.left.now c.args.right.now c.args.cert.now c.args.nodes is c.in-Err.stop _ (c.in-Err.ensures {u = tt}).compared c.report_early.ensures
