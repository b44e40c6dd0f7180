-- The runs of a module's system are its traces, and a module without cycles has one.
use Rattle.std.proofs.Common.{List, [], ap, arith, ◌*◌, length, map, refl, subst, sym, ℕ, ◌∙◌, ◌∷◌, ◌≡◌, ◌≤◌}
use Rattle.std.proofs.lemmas.List.{length-map}
use Rattle.argos_base.specs.Runs.{Follows}
use Rattle.argos_base.specs.SignalSets.{SignalSet}
use Rattle.argos_core.specs.Codes.{code_of, IsStructural}
use Rattle.argos_core.specs.Configurations.{IsConfiguration}
use Rattle.argos_core.specs.FirstBad.{ReactsCoded}
use Rattle.argos_core.specs.Modules.{IsModule, IsShaped}
use Rattle.argos_core.specs.Process.{Configuration, PlainModule}
use Rattle.argos_core.specs.Sizes.{size_of}
use Rattle.argos_core.specs.Reactions.{signal_count, initial_of, valuation, Reacts}
use Rattle.argos_core.proofs.CodesDiffer.{same_code, length-code_of}
use Rattle.argos_core.proofs.StepsStay.{initial_is, step_stays}
use Rattle.eqn_core.specs.Equations.{Equations, registers}
use Rattle.eqn_core.specs.Solutions.{SystemReacts}
use Rattle.eqn_scheme.specs.Scheme.{equations_of}
use Rattle.eqn_core.specs.Plans.{IsPlanOf}
use Rattle.eqn_completion.specs.Sorted.{sorted_system}
use Rattle.eqn_completion.proofs.Sorting.{sorted_are_ordered, sorted_react, sorted_are_small}
use Rattle.eqn_scheme.proofs.Bounds.{equations_are_small}
use Rattle.eqn_scheme.proofs.CyclicBits.{cyclic_bits}
use Rattle.eqn_scheme.proofs.Cycles.{equations_are_orderable_of}
use Rattle.eqn_scheme.proofs.System.{equations_react, registers-scheme}
use Rattle.argos_compile.specs.Accepting.{HasCycle, acyclic}
use Rattle.argos_compile.specs.Laws.{AcyclicHaveSystems, RunsAreTraces}
use Rattle.argos_compile.specs.Systems.{IsSystemOf}
use Rattle.argos_compile.proofs.Accepting.{local_range, some_register, own_system, same_system}
use Rattle.argos_compile.proofs.PlanExists.{plan_exists}
use Rattle.argos_compile.proofs.SmallCodes.{codes_small}

-- from a configuration and its code
module _ (P : PlainModule) (E : Equations) (shaped : IsShaped P.process) (system : IsSystemOf P E) where
  structural : (c : Configuration) → IsConfiguration P.process c → IsStructural P.process (code_of P.process c)
  structural c is = record { configuration = c; is = is; code = refl }

  runs_trace : (inputs outputs : List SignalSet) (memories : List (List ℕ)) (c : Configuration) → IsConfiguration P.process c → Follows (SystemReacts E) (code_of P.process c) inputs outputs memories
      → (cs : List Configuration) × Follows (Reacts P) c inputs outputs cs × (memories ≡ map (code_of P.process) cs)
  runs_trace [] [] [] c is h = ([], tt, refl)
  runs_trace [] [] (n ∷ memories) c is h = absurd h
  runs_trace [] (o ∷ outputs) memories c is h = absurd h
  runs_trace (i ∷ inputs) [] memories c is h = absurd h
  runs_trace (i ∷ inputs) (o ∷ outputs) [] c is h = absurd h
  runs_trace (i ∷ inputs) (o ∷ outputs) (n ∷ memories) c is h =
      let r : ReactsCoded P (code_of P.process c) i o n = (system.reacts (code_of P.process c) i o n (structural c is)).0 h.0 in
      let same : r.configuration ≡ c = same_code P.process r.configuration c r.is is r.from in
      let reacts : Reacts P c i o r.next = subst (λ (d : Configuration). Reacts P d i o r.next) same r.reacts in
      let next : IsConfiguration P.process r.next = step_stays P.process (signal_count P) c (valuation P i) reacts.emitted r.next shaped is reacts.step in
      let rest = runs_trace inputs outputs memories r.next next (subst (λ (m : List ℕ). Follows (SystemReacts E) m inputs outputs memories) (sym r.to) h.1) in
      (r.next ∷ rest.0, (reacts, rest.1), ap (λ (m : List ℕ). m ∷ memories) (sym r.to) ∙ ap (λ (ms : List (List ℕ)). code_of P.process r.next ∷ ms) rest.2)

  trace_runs : (inputs outputs : List SignalSet) (cs : List Configuration) (c : Configuration) → IsConfiguration P.process c → Follows (Reacts P) c inputs outputs cs → Follows (SystemReacts E) (code_of P.process c) inputs outputs (map (code_of P.process) cs)
  trace_runs [] [] [] c is h = tt
  trace_runs [] [] (d ∷ cs) c is h = absurd h
  trace_runs [] (o ∷ outputs) cs c is h = absurd h
  trace_runs (i ∷ inputs) [] cs c is h = absurd h
  trace_runs (i ∷ inputs) (o ∷ outputs) [] c is h = absurd h
  trace_runs (i ∷ inputs) (o ∷ outputs) (d ∷ cs) c is h =
      let coded : ReactsCoded P (code_of P.process c) i o (code_of P.process d) = record { configuration = c; is = is; from = refl; next = d; reacts = h.0; to = refl } in
      let next : IsConfiguration P.process d = step_stays P.process (signal_count P) c (valuation P i) h.0.emitted d shaped is h.0.step in
      ((system.reacts (code_of P.process c) i o (code_of P.process d) (structural c is)).1 coded, trace_runs inputs outputs cs d next h.1)

pub runs_are_traces : RunsAreTraces
runs_are_traces P E m system =
    let c = initial_of P in
    let is = initial_is P.process m.shaped in record {
      registers_are = ap length system.initial ∙ length-code_of P.process c is;
      traces = λ inputs outputs cs h. subst (λ (n : List ℕ). Follows (SystemReacts E) n inputs outputs (map (code_of P.process) cs)) (sym system.initial) (trace_runs P E m.shaped system inputs outputs cs c is h);
      runs = λ inputs outputs memories h. runs_trace P E m.shaped system inputs outputs memories c is (subst (λ (n : List ℕ). Follows (SystemReacts E) n inputs outputs memories) system.initial h);
    }

-- the equations of the scheme have a plan
acyclic_plan : (P : PlainModule) → IsModule P → ¬ (HasCycle P) → (order : List ℕ) × IsPlanOf (equations_of P) order []
acyclic_plan P m free = plan_exists (equations_of P) (equations_are_orderable_of P m) (λ k l h. let r = local_range P (equations_of P).locals k refl l in free (k, (cyclic_bits P m k r.0 r.1).0 h))

pub acyclic_have_systems : AcyclicHaveSystems
acyclic_have_systems P m a free =
    let E = equations_of P in
    let plan = acyclic_plan P m free in
    let orderable = equations_are_orderable_of P m in
    let some : 1 ≤ registers E = (let r = some_register P.process m.shaped in let e = registers-scheme P m in omega (arith, r, e)) in
    let small = codes_small P.process (initial_of P) m.shaped (initial_is P.process m.shaped) in
    let ordered = sorted_are_ordered E plan.0 orderable plan.1 some small in
    let F = sorted_system E plan.0 in
    let bound = equations_are_small P in
    let small-lines = sorted_are_small E plan.0 plan.1 in (
      F,
      8 * size_of P,
      ordered,
      record {
        acceptable = a;
        system = same_system P E F (own_system P E refl refl refl (λ n i o n' st. equations_react P n i o n' a.good.program st)) refl refl (length-map E.outputs _) (λ n i o n' st. sorted_react E plan.0 orderable plan.1 ordered n i o n');
        bound = acyclic free;
        lines = omega (arith, small-lines.0, bound.0);
        weight = omega (arith, small-lines.1, bound.1);
      },
    )
