use Rattle.std.proofs.Common.{map, string_bytes}
use Rattle.argos_words.specs.Views.{target_of}
use Rattle.argos_compile.specs.WovenViews.{woven_view}
use Rattle.argos_top.proofs.Runs.{ending_written, ending_unwritten}
use Rattle.argos_top.proofs.run.write_files.Goals as goal

pub returns-in-Ok-clause-ending : goal.returns-in-Ok-clause-ending
returns-in-Ok-clause-ending g c words command source is writes =
    ending_written words _ command c.args.file.now (map string_bytes c.args.aspects.now) (target_of c.args.to) c.args.nodes is writes (woven_view c.in-Ok.woven) _ (c.in-Ok.ensures {u = tt}).woven c.compile.ensures

pub returns-in-Err-clause-ending : goal.returns-in-Err-clause-ending
returns-in-Err-clause-ending g c words command source is writes =
    ending_unwritten words _ command c.args.file.now (map string_bytes c.args.aspects.now) (target_of c.args.to) c.args.nodes is writes c.in-Err.stop _ (c.in-Err.ensures {u = tt}).woven c.report_early.ensures
