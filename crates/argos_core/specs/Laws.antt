-- Laws that follow from the definitions, each proved as the contract of a function of `src/laws.rt`. Source: this project.
use Rattle.std.specs.Prelude.{◌≡◌, ◌↔◌, ℕ, List, [], Some, length, slice_get}
use Rattle.argos_base.specs.Machines.{ReactsOnce}
use Rattle.argos_base.specs.SignalSets.{SignalSet}
use Rattle.argos_core.specs.Automata.{register_count}
use Rattle.argos_core.specs.Codes.{code_of, IsStructural}
use Rattle.argos_core.specs.Configurations.{IsConfiguration, initial_configuration}
use Rattle.argos_core.specs.FirstBad.{ReactsCoded}
use Rattle.argos_core.specs.Layouts.{layout_of, FitsLayout}
use Rattle.argos_core.specs.Modules.{IsShaped}
use Rattle.argos_core.specs.Overlaps.{IsProgram, IsGood}
use Rattle.argos_core.specs.Process.{Process, Configuration, PlainModule}
use Rattle.argos_core.specs.Reactions.{input_count, HasOneReaction, AlwaysHasOneReaction, HasOneTrace}
use Rattle.argos_core.specs.Step.{Step}

-- the code of a configuration has one number for each automaton
abbrev pub CodesAreSized : Type 0
CodesAreSized = (p : Process) (c : Configuration) → IsConfiguration p c → length (code_of p c) ≡ register_count p

-- no two configurations of a process have one code
abbrev pub CodesDiffer : Type 0
CodesDiffer = (p : Process) (c d : Configuration) → IsConfiguration p c → IsConfiguration p d → code_of p c ≡ code_of p d → c ≡ d

-- the memories that are codes of configurations are those that fit the layout
abbrev pub MemoriesFitLayouts : Type 0
MemoriesFitLayouts = (p : Process) (memory : List ℕ) → (FitsLayout (layout_of p) memory) ↔ (IsStructural p memory)

-- the initial configuration is a configuration
abbrev pub InitialIsOne : Type 0
InitialIsOne = (p : Process) → IsShaped p → IsConfiguration p (initial_configuration p)

-- a step from a configuration leads to a configuration
abbrev pub StepsStay : Type 0
StepsStay = (n : ℕ) (p : Process) (c : Configuration) (v o : SignalSet) (c' : Configuration) → IsShaped p → IsConfiguration p c → Step n p c v o c' → IsConfiguration p c'

-- a program without locals has exactly one reaction to each input set in each configuration
abbrev pub ProgramsReactOnceWithoutLocals : Type 0
ProgramsReactOnceWithoutLocals = (P : PlainModule) → IsProgram P → P.locals ≡ [] → AlwaysHasOneReaction P

-- a program that has exactly one reaction everywhere has exactly one trace to each list of input sets
abbrev pub GoodProgramsHaveOneTrace : Type 0
GoodProgramsHaveOneTrace = (P : PlainModule) (inputs : List SignalSet) → IsGood P → ((k : ℕ) (i : SignalSet) → slice_get inputs k ≡ Some i → length i ≡ input_count P) → HasOneTrace P inputs

-- a configuration has exactly one reaction to an input set where its code has exactly one between codes
abbrev pub ReactionsAreCoded : Type 0
ReactionsAreCoded = (P : PlainModule) (c : Configuration) (i : SignalSet) → IsShaped P.process → IsConfiguration P.process c → (HasOneReaction P c i) ↔ (ReactsOnce (ReactsCoded P) (code_of P.process c) i)
