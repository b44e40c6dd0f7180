use Rattle.std.proofs.Common.{subst}
use Rattle.argos_top.specs.inner.Lines.{EndsAs}
use Rattle.argos_top.proofs.Reports.{ends-error}
use Rattle.argos_top.proofs.report.report_end.Goals as goal

pub returns-in-Some : goal.returns-in-Some
returns-in-Some g c lines count ends =
    let e = subst (EndsAs lines count) c.in-Some.is ends in
    ends-error c.in-Some.error lines count _ c.report_error.result e.0 (c.report_error.ensures count e.1)
