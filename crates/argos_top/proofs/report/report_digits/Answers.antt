use Rattle.std.proofs.Common.{◌≡◌, take, subst, ◌∙◌}
use Rattle.argos_base.specs.Outside.{behind}
use Rattle.argos_top.proofs.Reports.{Pushes-after, Pushes-front}
use Rattle.std.specs.Prelude.{decimal}
use Rattle.argos_top.proofs.report.report_digits.Goals as goal

pub returns-in-Ok : goal.returns-in-Ok
returns-in-Ok g c =
    let held = g.W.Sink.held in
    let faults = g.W.Sink.faults in
    let out = c.args.out.now in
    let middle = c.push_all.new.sink in
    let digits = c.as_bytes.ensures.value ∙ c.format.ensures.text in
    Pushes-after (decimal c.args.number) c.args.after.now c.args.status (held out) (held middle) (held c.report.new.out) (faults out) (faults middle) (faults c.report.new.out) c.report.result (c.in-Ok.ensures {u = tt}).cause.kept
    (subst (λ bs. held middle ≡ behind (held out) bs) digits (c.in-Ok.ensures {u = tt}).whole) c.report.ensures

pub returns-in-Err : goal.returns-in-Err
returns-in-Err g c =
    let held = g.W.Sink.held in
    let faults = g.W.Sink.faults in
    let out = c.args.out.now in
    let digits = c.as_bytes.ensures.value ∙ c.format.ensures.text in
    let failed = c.in-Err.ensures {u = tt} in
    Pushes-front (decimal c.args.number) c.args.after.now c.args.status (held out) (held c.push_all.new.sink) (faults out) (faults c.push_all.new.sink) failed.part.0
    (subst (λ bs. held c.push_all.new.sink ≡ behind (held out) (take failed.part.0 bs)) digits failed.part.1) failed.cause.failed
