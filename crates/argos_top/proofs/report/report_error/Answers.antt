use Rattle.std.proofs.Common.{◌+◌, [], ◌∷◌, ◌++◌, codes, append_assoc, subst, sym}
use Rattle.std.specs.Prelude.{decimal}
use Rattle.trace_io.specs.Whole.{end_of, kind_of, IsNumbered}
use Rattle.argos_load.specs.Calls.{call}
use Rattle.argos_load.specs.Said.{read_fault_line}
use Rattle.argos_top.specs.inner.Endings.{Pushes, tail_of, status_after}
use Rattle.argos_top.specs.declared.status.Status.TheVariants.{Refused, ReadFault}
use Rattle.argos_top.proofs.Reports.{line_joined}
use Rattle.argos_top.proofs.report.report_error.Goals as goal

pub returns-in-BadLine : goal.returns-in-BadLine
returns-in-BadLine g c count numbered =
    let sink = call g.W.Sink.held g.W.Sink.faults c.args.out.now c.report_number.new.out in
    let n = c.in-BadLine.number in
    let kind = kind_of c.in-BadLine.kind in
    subst (λ e. Pushes (tail_of (end_of e) count) (status_after (end_of e)) sink c.report_number.result) (sym c.in-BadLine.is)
    (subst (λ bytes. Pushes bytes Refused sink c.report_number.result) (line_joined n kind)
    (subst (λ bytes. Pushes (codes "refused: line " ++ (decimal n ++ bytes)) Refused sink c.report_number.result) c.line_cause.ensures c.report_number.ensures))

pub returns-in-ReadFault : goal.returns-in-ReadFault
returns-in-ReadFault g c count numbered =
    let sink = call g.W.Sink.held g.W.Sink.faults c.args.out.now c.report_number-in-ReadFault.new.out in
    let n = c.in-ReadFault.number in
    let next = subst (λ e. IsNumbered e (count + 1)) c.in-ReadFault.is numbered in
    subst (λ e. Pushes (tail_of (end_of e) count) (status_after (end_of e)) sink c.report_number-in-ReadFault.result) (sym c.in-ReadFault.is)
    (subst (λ k. Pushes (read_fault_line k) ReadFault sink c.report_number-in-ReadFault.result) next
    (subst (λ bytes. Pushes bytes ReadFault sink c.report_number-in-ReadFault.result) (sym (append_assoc (codes "read fault: line ") (decimal n) (10 ∷ []))) c.report_number-in-ReadFault.ensures))

pub returns-in-Long : goal.returns-in-Long
returns-in-Long g c count numbered =
    let sink = call g.W.Sink.held g.W.Sink.faults c.args.out.now c.report.new.out in
    subst (λ e. Pushes (tail_of (end_of e) count) (status_after (end_of e)) sink c.report.result) (sym c.in-Long.is) c.report.ensures
