use Rattle.std.proofs.Common.{map, string_bytes}
use Rattle.argos_load.specs.Giving.{runnable_of}
use Rattle.argos_top.proofs.Runs.{ending_ran, ending_unsimulated}
use Rattle.argos_top.proofs.run.simulate_files.Goals as goal

pub returns-in-Ok-clause-ending : goal.returns-in-Ok-clause-ending
returns-in-Ok-clause-ending g c words is =
    ending_ran words _ c.args.file.now (map string_bytes c.args.aspects.now) c.args.nodes is (runnable_of c.in-Ok.loaded) _ (c.in-Ok.ensures {u = tt}).simulation c.simulate_loaded.ensures

pub returns-in-Err-clause-ending : goal.returns-in-Err-clause-ending
returns-in-Err-clause-ending g c words is =
    ending_unsimulated words _ c.args.file.now (map string_bytes c.args.aspects.now) c.args.nodes is c.in-Err.stop _ (c.in-Err.ensures {u = tt}).simulation c.report_early.ensures
