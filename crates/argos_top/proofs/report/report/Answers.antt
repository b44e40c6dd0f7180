use Rattle.argos_top.proofs.Reports.{Pushes-failed}
use Rattle.argos_top.proofs.report.report.Goals as goal

pub returns-in-Err : goal.returns-in-Err
returns-in-Err g c = Pushes-failed c.args.text.now c.args.status (g.W.Sink.held c.args.out.now) (g.W.Sink.held c.push_all.new.sink) (g.W.Sink.faults c.args.out.now) (g.W.Sink.faults c.push_all.new.sink) c.in-Err.ensures.part.0 c.in-Err.ensures.part.1 c.in-Err.ensures.cause.failed
