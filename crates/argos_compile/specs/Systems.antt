-- Systems of equations that stand for a module. Source: this project.
use Rattle.std.specs.Prelude.{◌≡◌, ◌↔◌, ℕ, List, length, map}
use Rattle.argos_base.specs.Runs.{Follows}
use Rattle.argos_base.specs.SignalSets.{SignalSet}
use Rattle.argos_core.specs.Automata.{register_count}
use Rattle.argos_core.specs.Codes.{code_of, IsStructural}
use Rattle.argos_core.specs.FirstBad.{ReactsCoded}
use Rattle.argos_core.specs.Process.{Configuration, PlainModule}
use Rattle.argos_core.specs.Reactions.{input_count, output_count, initial_of, Reacts}
use Rattle.eqn_core.specs.Equations.{Equations, registers}
use Rattle.eqn_core.specs.Solutions.{SystemReacts, RunsThrough}

-- It has the module's inputs and outputs, its initial codes are those of the initial configuration, and at structural memories its reactions are exactly the module's.
pub record IsSystemOf (P : PlainModule) (E : Equations) : Type 0 where
  pub inputs : E.inputs ≡ input_count P
  pub outputs : length E.outputs ≡ output_count P
  pub initial : E.initial ≡ code_of P.process (initial_of P)
  pub reacts : (m : List ℕ) (i o : SignalSet) (m' : List ℕ) → IsStructural P.process m → (SystemReacts E m i o m') ↔ (ReactsCoded P m i o m')

-- From its initial codes it has exactly the module's traces, and the memories that it goes through are the codes of the trace's configurations.
pub record RunsAs (P : PlainModule) (E : Equations) : Type 0 where
  pub registers_are : registers E ≡ register_count P.process
  pub traces : (inputs outputs : List SignalSet) (configurations : List Configuration) → Follows (Reacts P) (initial_of P) inputs outputs configurations → RunsThrough E inputs outputs (map (code_of P.process) configurations)
  pub runs : (inputs outputs : List SignalSet) (memories : List (List ℕ)) → RunsThrough E inputs outputs memories → (configurations : List Configuration) × Follows (Reacts P) (initial_of P) inputs outputs configurations × (memories ≡ map (code_of P.process) configurations)
