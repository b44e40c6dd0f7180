use Rattle.std.proofs.Common.{◌++◌}
use Rattle.std.specs.Prelude.{decimal}
use Rattle.argos_top.proofs.Reports.{Pushes-after, Pushes-front}
use Rattle.argos_top.proofs.report.report_number.Goals as goal

pub returns-in-Ok : goal.returns-in-Ok
returns-in-Ok g c =
    let held = g.W.Sink.held in
    let faults = g.W.Sink.faults in
    let out = c.args.out.now in
    let middle = c.push_all.new.sink in
    Pushes-after c.args.before.now (decimal c.args.number ++ c.args.after.now) c.args.status (held out) (held middle) (held c.report_digits.new.out) (faults out) (faults middle) (faults c.report_digits.new.out) c.report_digits.result (c.in-Ok.ensures {u = tt}).cause.kept
    (c.in-Ok.ensures {u = tt}).whole c.report_digits.ensures

pub returns-in-Err : goal.returns-in-Err
returns-in-Err g c =
    let held = g.W.Sink.held in
    let faults = g.W.Sink.faults in
    let out = c.args.out.now in
    let failed = c.in-Err.ensures {u = tt} in
    Pushes-front c.args.before.now (decimal c.args.number ++ c.args.after.now) c.args.status (held out) (held c.push_all.new.sink) (faults out) (faults c.push_all.new.sink) failed.part.0 failed.part.1 failed.cause.failed
