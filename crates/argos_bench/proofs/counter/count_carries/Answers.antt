use Rattle.std.proofs.Common.{◌≡◌, length, sym, ap, ◌∙◌}
use Rattle.std.proofs.lemmas.List.{length-map}
use Rattle.argos_base.specs.SignalSets.{SignalSet}
use Rattle.eqn_core.specs.Equations.{Equations}
use Rattle.eqn_core.specs.Running.{Running, StepsTo}
use Rattle.eqn_core.specs.Solutions.{bit_of}
use Rattle.argos_bench.proofs.counter.count_carries.Goals as goal

sized : (x y : Running) (i o : SignalSet) → StepsTo x i o y → length x.equations.outputs ≡ 1 → length o ≡ 1
sized x y i o steps one = ap length steps.reacts.outputs ∙ length-map x.equations.outputs (bit_of steps.reacts.values) ∙ one

pub step-requires-clause-inputs : goal.step-requires-clause-inputs
step-requires-clause-inputs c = c.requires.inputs ∙ ap (λ (e : Equations). e.inputs) (sym c.loop-step.invariant.same)

pub step-requires-clause-outputs : goal.step-requires-clause-outputs
step-requires-clause-outputs c = c.loop-step.invariant.output ∙ sym (ap (λ (e : Equations). length e.outputs) c.loop-step.invariant.same ∙ c.requires.outputs)

pub carry-carries-requires : goal.carry-carries-requires
carry-carries-requires c = sized _ _ _ _ c.step.ensures (ap (λ (e : Equations). length e.outputs) c.loop-step.invariant.same ∙ c.requires.outputs)
