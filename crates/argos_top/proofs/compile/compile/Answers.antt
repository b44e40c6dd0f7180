use Rattle.std.proofs.Common.{refl, subst}
use Rattle.argos_load.specs.Calls.{call}
use Rattle.argos_top.specs.inner.Endings.{Pushes}
use Rattle.argos_top.specs.declared.status.Status.TheVariants.{Yes}
use Rattle.argos_top.specs.inner.Compiling.{unwritten, wrote}
use Rattle.argos_top.proofs.compile.compile.Goals as goal

pub returns-in-Ok : goal.returns-in-Ok
returns-in-Ok g c = wrote _ (c.in-Ok.ensures {u = tt}) (subst (λ bytes. Pushes bytes Yes (call g.W.Sink.held g.W.Sink.faults c.args.out.now c.report.new.out) c.report.result) c.deref.ensures.value c.report.ensures)

pub returns-in-Err : goal.returns-in-Err
returns-in-Err g c = unwritten (record { is = refl; held = refl; still = refl })
