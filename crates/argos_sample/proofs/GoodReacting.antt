-- A sample is a program that reacts once everywhere, and no state of it is a job.
use Rattle.std.proofs.Common.{ℕ, ◌+◌, ◌≤◌, List, [], length, refl}
use Rattle.argos_base.specs.Limits.{sample_limit}
use Rattle.argos_core.specs.Modules.{IsModule}
use Rattle.argos_core.specs.Overlaps.{IsProgram, IsGood}
use Rattle.argos_core.specs.Process.{PlainModule}
use Rattle.argos_core.specs.Reactions.{AlwaysHasOneReaction, input_count, output_count}
use Rattle.eqn_core.specs.Plans.{IsPlanOf}
use Rattle.eqn_scheme.specs.Scheme.{equations_of}
use Rattle.eqn_scheme.specs.SignalDependence.{IsCyclic}
use Rattle.eqn_scheme.proofs.CyclicBits.{cyclic_bits}
use Rattle.eqn_scheme.proofs.Cycles.{equations_are_orderable_of}
use Rattle.eqn_scheme.proofs.System.{equations_react, registers-scheme}
use Rattle.eqn_verdict.specs.Programs.{IsSystemOf}
use Rattle.eqn_verdict.proofs.OfPrograms.{acyclic_are_good}
use Rattle.argos_compile.proofs.PlanExists.{plan_exists}
use Rattle.instant_check.specs.ModuleOverlaps.{IsClear}
use Rattle.argos_sample.specs.SampleModule.{sample_module}
use Rattle.argos_sample.proofs.GoodCycles.{no_cyclic}
use Rattle.argos_scope.proofs.LocalsInOrder.{range-lists}
use Rattle.argos_sample.proofs.GoodModule.{sample_is_module}
use Rattle.argos_sample.proofs.GoodStates.{no_two, no_overlap}

-- a program in which no local depends on itself reacts once everywhere
acyclic_plan : (P : PlainModule) → IsModule P → ((k : ℕ) → ¬ (IsCyclic P k))
    → (order : List ℕ) × IsPlanOf (equations_of P) order []
acyclic_plan P m free = plan_exists (equations_of P) (equations_are_orderable_of P m) (λ k l h.
    let r = range-lists (input_count P + output_count P) (length P.locals) k l in
    free k ((cyclic_bits P m k r.0 r.1).0 h))

reacts_once : (P : PlainModule) → IsProgram P → ((k : ℕ) → ¬ (IsCyclic P k)) → AlwaysHasOneReaction P
reacts_once P program free =
    let plan = acyclic_plan P program.is free in
    let system : IsSystemOf P (equations_of P) = record {
      inputs = refl;
      reacts = λ m i o n st. equations_react P m i o n program st;
    } in
    acyclic_are_good P (equations_of P) plan.0 program.is.shaped system (registers-scheme P program.is) plan.1

pub sample_is_good : (n : ℕ) → 1 ≤ n → n ≤ sample_limit → IsGood (sample_module n)
sample_is_good n some few =
    let program : IsProgram (sample_module n) = record { is = sample_is_module n some few; no_overlap = no_overlap n some } in
    record { program = program; one = reacts_once (sample_module n) program (λ k. no_cyclic n k some) }

-- no two transitions of a state differ, since it has one
pub sample_is_clear : (n : ℕ) → 1 ≤ n → IsClear (sample_module n)
sample_is_clear n some = record {
  none = no_overlap n some;
  fits = λ r q rules s differ.
      absurd (no_two n r q differ.x differ.y rules differ.second some s differ.order differ.second_at);
}
