use Rattle.std.proofs.Common.{List, ℕ, subst}
use Rattle.argos_load.specs.Calls.{call}
use Rattle.argos_top.specs.inner.Endings.{Pushes}
use Rattle.argos_top.specs.inner.Sampling.{wrote}
use Rattle.argos_top.specs.declared.status.Status.TheVariants as status
use Rattle.argos_top.proofs.sample.sample.Goals as goal

pub returns-in-Ok : goal.returns-in-Ok
returns-in-Ok g c = wrote _ (c.in-Ok.ensures {u = tt})
    (subst (λ (bytes : List ℕ). Pushes bytes status.Yes (call g.W.Sink.held g.W.Sink.faults c.args.out.now c.report.new.out) c.report.result) c.deref.ensures.value c.report.ensures)
