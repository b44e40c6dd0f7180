-- Laws of C steps. Source: this project.
use Rattle.std.specs.Prelude.{◌≡◌, ℕ, List, map, length, All}
use Rattle.argos_base.specs.Machines.{AlwaysReactsOnce}
use Rattle.argos_base.specs.Runs.{Follows}
use Rattle.argos_base.specs.SignalSets.{SignalSet}
use Rattle.c_step.specs.CStep.{CStep, IsCStep}
use Rattle.c_step.specs.CRuns.{Arrays, all_done, Holds, CReacts, CReactsTo, CRunsThrough}
use Rattle.c_step.specs.Running.{Running, start_of, StepsTo}

-- whatever the other places held: each step on arrays that hold m is the reaction, and leaves arrays that hold the next memory
abbrev pub CStepsReact : Type 0
CStepsReact = (s : CStep) (m : List ℕ) (i : SignalSet) (a : Arrays) → IsCStep s → length i ≡ length s.names.inputs → Holds s m a → CReactsTo s m i (all_done i s.statements a)

-- at each memory and input a step reacts in exactly one way
abbrev pub CStepsReactOnce : Type 0
CStepsReactOnce = (s : CStep) → IsCStep s → AlwaysReactsOnce (λ m. length m ≡ length s.initial) (length s.names.inputs) (CReacts s)

-- the inputs give these outputs through these memories, and nothing else
pub record IsOnlyRun (s : CStep) (inputs outputs : List SignalSet) (memories : List (List ℕ)) : Type 0 where
  pub runs : CRunsThrough s inputs outputs memories
  pub only : (others : List SignalSet) (through : List (List ℕ)) → CRunsThrough s inputs others through → (others ≡ outputs) × (through ≡ memories)

-- there is exactly one run on these inputs
pub record RunsOnce (s : CStep) (inputs : List SignalSet) : Type 0 where
  pub outputs : List SignalSet
  pub memories : List (List ℕ)
  pub run : IsOnlyRun s inputs outputs memories

abbrev pub CStepsRunOnce : Type 0
CStepsRunOnce = (s : CStep) (inputs : List SignalSet) → IsCStep s → All (λ i. length i ≡ length s.names.inputs) inputs → RunsOnce s inputs

-- whatever is told in a list of steps from the start is this run, and the memories are those that the run reaches
abbrev pub StepsAreRuns : Type 0
StepsAreRuns = (s : CStep) (inputs outputs : List SignalSet) (states : List Running) → IsCStep s → Follows StepsTo (start_of s) inputs outputs states → IsOnlyRun s inputs outputs (map (λ x. x.memory) states)
