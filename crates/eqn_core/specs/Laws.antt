-- Laws of ordered systems. Source: this project.
use Rattle.std.specs.Prelude.{◌≡◌, ℕ, List, [], ◌∷◌, ◌++◌, map, length, All}
use Rattle.argos_base.specs.Machines.{AlwaysReactsOnce}
use Rattle.argos_base.specs.Runs.{Follows}
use Rattle.argos_base.specs.SignalSets.{SignalSet}
use Rattle.eqn_core.specs.Equations.{Equations, registers}
use Rattle.eqn_core.specs.Ordered.{IsOrdered}
use Rattle.eqn_core.specs.Plans.{IsPlanOf}
use Rattle.eqn_core.specs.Running.{Running, start_of, StepsTo}
use Rattle.eqn_core.specs.Solutions.{Values, Solves, SystemReacts, RunsThrough, RunsTo}

-- there is exactly one solution at m and i
pub record SolvesOnce (E : Equations) (m : List ℕ) (i : SignalSet) : Type 0 where
  pub values : Values
  pub solves : Solves E m i values
  pub only : (s : Values) → Solves E m i s → s ≡ values

-- the inputs give these outputs through these memories, and nothing else
pub record IsOnlyRun (E : Equations) (inputs outputs : List SignalSet) (memories : List (List ℕ)) : Type 0 where
  pub runs : RunsThrough E inputs outputs memories
  pub only : (others : List SignalSet) (through : List (List ℕ)) → RunsThrough E inputs others through → (others ≡ outputs) × (through ≡ memories)

-- there is exactly one run on these inputs
pub record RunsOnce (E : Equations) (inputs : List SignalSet) : Type 0 where
  pub outputs : List SignalSet
  pub memories : List (List ℕ)
  pub run : IsOnlyRun E inputs outputs memories

-- at each memory and input an ordered system has exactly one solution
abbrev pub OrderedSolvesOnce : Type 0
OrderedSolvesOnce = (E : Equations) (m : List ℕ) (i : SignalSet) → IsOrdered E → length m ≡ registers E → length i ≡ E.inputs → SolvesOnce E m i

-- so it reacts in exactly one way
abbrev pub OrderedReactsOnce : Type 0
OrderedReactsOnce = (E : Equations) → IsOrdered E → AlwaysReactsOnce (λ m. length m ≡ registers E) E.inputs (SystemReacts E)

-- and on each list of inputs it has exactly one run
abbrev pub OrderedRunsOnce : Type 0
OrderedRunsOnce = (E : Equations) (inputs : List SignalSet) → IsOrdered E → All (λ i. length i ≡ E.inputs) inputs → RunsOnce E inputs

-- whatever a stepper tells in a list of steps from the start is this run, and its memories are those that the run reaches
abbrev pub StepsAreRuns : Type 0
StepsAreRuns = (E : Equations) (inputs outputs : List SignalSet) (states : List Running) → IsOrdered E → Follows StepsTo (start_of E) inputs outputs states → IsOnlyRun E inputs outputs (map (λ x. x.memory) states)

-- without inputs the memory is that of the start
abbrev pub RunsBegin : Type 0
RunsBegin = (E : Equations) → RunsTo E [] [] E.initial

-- and a run goes on by a reaction from the memory that it has reached
abbrev pub RunsGoOn : Type 0
RunsGoOn = (E : Equations) (inputs outputs : List SignalSet) (m : List ℕ) (i o : SignalSet) (n : List ℕ) → RunsTo E inputs outputs m → SystemReacts E m i o n → RunsTo E (inputs ++ i ∷ []) (outputs ++ o ∷ []) n

-- all plans of a system have the same cyclic bits
abbrev pub PlansHaveOneCyclic : Type 0
PlansHaveOneCyclic = (E : Equations) (order order' cyclic cyclic' : List ℕ) → IsPlanOf E order cyclic → IsPlanOf E order' cyclic' → cyclic ≡ cyclic'
