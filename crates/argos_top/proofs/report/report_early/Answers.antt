use Rattle.std.proofs.Common.{refl, subst, sym}
use Rattle.argos_load.specs.Calls.{call}
use Rattle.argos_top.specs.inner.Endings.{Reports, Pushes}
use Rattle.argos_top.specs.declared.status.Status.TheVariants.{Refused, No, ReadFault, Budget, OutOfMemory}
use Rattle.argos_top.proofs.report.report_early.Goals as goal

pub returns-in-Refused : goal.returns-in-Refused
returns-in-Refused g c =
    let sink = call g.W.Sink.held g.W.Sink.faults c.args.out.now c.report.new.out in
    subst (λ e. Reports e sink c.report.result) (sym c.in-Refused.is) (subst (λ bs. Pushes bs Refused sink c.report.result) c.deref.ensures.value c.report.ensures)

pub returns-in-No : goal.returns-in-No
returns-in-No g c =
    let sink = call g.W.Sink.held g.W.Sink.faults c.args.out.now c.report-in-No.new.out in
    subst (λ e. Reports e sink c.report-in-No.result) (sym c.in-No.is) (subst (λ bs. Pushes bs No sink c.report-in-No.result) c.deref-in-No.ensures.value c.report-in-No.ensures)

pub returns-in-ReadFault : goal.returns-in-ReadFault
returns-in-ReadFault g c =
    let sink = call g.W.Sink.held g.W.Sink.faults c.args.out.now c.report-in-ReadFault.new.out in
    subst (λ e. Reports e sink c.report-in-ReadFault.result) (sym c.in-ReadFault.is) (subst (λ bs. Pushes bs ReadFault sink c.report-in-ReadFault.result) c.deref-in-ReadFault.ensures.value c.report-in-ReadFault.ensures)

pub returns-in-Budget : goal.returns-in-Budget
returns-in-Budget g c =
    let sink = call g.W.Sink.held g.W.Sink.faults c.args.out.now c.report-in-Budget.new.out in
    subst (λ e. Reports e sink c.report-in-Budget.result) (sym c.in-Budget.is) (subst (λ bs. Pushes bs (Budget c.in-Budget.arena) sink c.report-in-Budget.result) c.deref-in-Budget.ensures.value c.report-in-Budget.ensures)

pub returns-in-OutOfMemory : goal.returns-in-OutOfMemory
returns-in-OutOfMemory g c = subst (λ e. Reports e (call g.W.Sink.held g.W.Sink.faults c.args.out.now c.args.out.now) OutOfMemory) (sym c.in-OutOfMemory.is) (record { is = refl; held = refl; still = refl })
