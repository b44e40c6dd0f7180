use Rattle.std.proofs.Common.{refl}
use Rattle.argos_core.proofs.SmallPrograms.{timed_is}
use Rattle.argos_core.proofs.tests.timed.Goals as goal

pub returns : goal.returns
returns c =
    timed_is c.in_ok-vec-2.field-0 c.automaton-waiting.result c.in_ok-refined.field-0 c.in_ok-w.w c.in_ok-state.field-0 c.in_ok-vec.field-0.items _ c.in_ok-vec-2.ensures.items c.automaton-waiting.ensures c.in_ok-vec.ensures.items refl refl
    c.in_ok-w.ensures c.in_ok-state.ensures c.in_ok-refined.ensures
