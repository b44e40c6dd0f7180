-- Aspects as plain data, and which of them fit an interface. After Larissa; the exact rules: this project.
use Rattle.std.specs.Prelude.{◌≡◌, ℕ, ◌<◌, List, [], ◌∷◌, length}
use Rattle.argos_base.specs.SignalSets.{SignalSet}
use Rattle.argos_core.specs.Overlaps.{IsGood}
use Rattle.argos_core.specs.Process.{PlainModule}
use Rattle.argos_core.specs.Reactions.{input_count, output_count}

-- an input or an output of the base, which the observer sees
pub data Seen : Type 0 where
  input : ℕ → Seen
  output : ℕ → Seen

-- where the advice's trace starts
pub data Onset : Type 0 where
  to_initial : Onset
  to_current : Onset

-- the outputs at a join point, where the trace starts, and the trace
pub record Advice : Type 0 where
  pub outs : SignalSet
  pub onset : Onset
  pub trace : List SignalSet

-- an observer, what its inputs are, and the advice
pub record Aspect : Type 0 where
  pub observer : PlainModule
  pub seen : List Seen
  pub advice : Advice

-- how many outputs the observer has: the join point alone
abbrev pub outputs_by : Onset → ℕ
outputs_by to_initial = 1
outputs_by to_current = 1

-- an input is below the number of inputs, an output below that of outputs
abbrev pub IsBelow : ℕ → ℕ → Seen → Type 0
IsBelow inputs outputs (input k) = k < inputs
IsBelow inputs outputs (output k) = k < outputs

abbrev pub AreBelow : ℕ → ℕ → List Seen → Type 0
AreBelow inputs outputs [] = Unit {0}
AreBelow inputs outputs (x ∷ seen) = IsBelow inputs outputs x × AreBelow inputs outputs seen

abbrev pub AreSized : ℕ → List SignalSet → Type 0
AreSized n [] = Unit {0}
AreSized n (v ∷ sets) = (length v ≡ n) × AreSized n sets

-- the aspect fits an interface of so many inputs and outputs
pub record Fits (A : Aspect) (inputs outputs : ℕ) : Type 0 where
  pub observer : IsGood A.observer
  pub observer_outputs : output_count A.observer ≡ outputs_by A.advice.onset
  pub seen_sized : length A.seen ≡ input_count A.observer
  pub seen_exist : AreBelow inputs outputs A.seen
  pub outs_sized : length A.advice.outs ≡ outputs
  pub trace_sized : AreSized inputs A.advice.trace

-- each of the aspects fits
abbrev pub AllFit : List Aspect → ℕ → ℕ → Type 0
AllFit [] inputs outputs = Unit {0}
AllFit (A ∷ aspects) inputs outputs = Fits A inputs outputs × AllFit aspects inputs outputs
