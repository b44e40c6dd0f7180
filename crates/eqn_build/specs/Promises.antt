-- What is promised of the equations of a module. Source: this project.
use Rattle.std.specs.Prelude.{◌↔◌, ℕ, ◌+◌, ◌<◌, ◌≤◌, List}
use Rattle.argos_base.specs.SignalSets.{SignalSet}
use Rattle.argos_core.specs.Codes.{IsStructural}
use Rattle.argos_core.specs.FirstBad.{ReactsCoded}
use Rattle.argos_core.specs.Process.{PlainModule}
use Rattle.argos_core.specs.Reactions.{input_count, output_count, signal_count}
use Rattle.eqn_completion.specs.Completions.{SystemChooses}
use Rattle.eqn_core.specs.Dependence.{IsCyclicBit}
use Rattle.eqn_core.specs.Equations.{Equations}
use Rattle.eqn_core.specs.Solutions.{SystemReacts}
use Rattle.eqn_scheme.specs.LocalSets.{AreLocals, ProgramChooses}
use Rattle.eqn_scheme.specs.SignalDependence.{IsCyclic}

-- at structural memories the solutions are exactly the reactions between codes
abbrev pub ReactsAs : PlainModule → Equations → Type 0
ReactsAs P E = (m : List ℕ) (i o : SignalSet) (m' : List ℕ) → IsStructural P.process m → (SystemReacts E m i o m') ↔ (ReactsCoded P m i o m')

-- the next words of every solution there are a structural memory
abbrev pub StaysStructural : PlainModule → Equations → Type 0
StaysStructural P E = (m : List ℕ) (i o : SignalSet) (m' : List ℕ) → IsStructural P.process m → SystemReacts E m i o m' → IsStructural P.process m'

-- the bit of a local depends on itself exactly where the local does
abbrev pub IsCyclicAs : PlainModule → Equations → Type 0
IsCyclicAs P E = (k : ℕ) → input_count P + output_count P ≤ k → k < signal_count P → (IsCyclicBit E k) ↔ (IsCyclic P k)

-- at structural memories the sets of locals that solutions have, the bit of local k being bit k, are exactly those that are present in reactions
abbrev pub ChoosesLocals : PlainModule → Equations → Type 0
ChoosesLocals P E = (ks m : List ℕ) (i chosen : SignalSet) → AreLocals P ks → IsStructural P.process m → (SystemChooses E ks m i chosen) ↔ (ProgramChooses P ks m i chosen)
