-- The verdict on a program's equations is the verdict on the program. Source: this project.
use Rattle.std.specs.Prelude.{◌≡◌, ◌↔◌, ℕ, List, [], length}
use Rattle.argos_base.specs.Machines.{Fault, ReactsOnce, AlwaysReactsOnce, IsFirstBadOf}
use Rattle.argos_base.specs.SignalSets.{SignalSet}
use Rattle.argos_core.specs.Automata.{register_count}
use Rattle.argos_core.specs.Codes.{code_of, IsStructural}
use Rattle.argos_core.specs.FirstBad.{ReactsCoded, IsFirstBad}
use Rattle.argos_core.specs.Layouts.{layout_of, FitsLayout}
use Rattle.argos_core.specs.Modules.{IsShaped}
use Rattle.argos_core.specs.Process.{Process, PlainModule}
use Rattle.argos_core.specs.Reactions.{input_count, initial_of, AlwaysHasOneReaction, IsTrace}
use Rattle.eqn_core.specs.Equations.{Equations, registers}
use Rattle.eqn_core.specs.Plans.{IsPlanOf}
use Rattle.eqn_core.specs.Solutions.{SystemReacts, Runs}

-- at structural memories the system has exactly the program's reactions
abbrev pub ReactsAs : PlainModule → Equations → Type 0
ReactsAs P E = (m : List ℕ) (i o : SignalSet) (m' : List ℕ) → IsStructural P.process m → (SystemReacts E m i o m') ↔ (ReactsCoded P m i o m')

-- and as many inputs
pub record IsSystemOf (P : PlainModule) (E : Equations) : Type 0 where
  pub inputs : E.inputs ≡ input_count P
  pub reacts : ReactsAs P E

-- it always reacts once exactly where the program always has one reaction
abbrev pub OneIsOne : Type 0
OneIsOne = (P : PlainModule) (E : Equations) → IsShaped P.process → IsSystemOf P E → (AlwaysReactsOnce (FitsLayout (layout_of P.process)) E.inputs (SystemReacts E)) ↔ (AlwaysHasOneReaction P)

-- and its first bad case is the program's
abbrev pub FirstBadIsFirstBad : Type 0
FirstBadIsFirstBad = (P : PlainModule) (E : Equations) (m : List ℕ) (i : SignalSet) (f : Fault) → IsSystemOf P E → (IsFirstBadOf (FitsLayout (layout_of P.process)) E.inputs (SystemReacts E) m i f) ↔ (IsFirstBad P m i f)

-- a system that has at structural memories the program's reactions, and the program's initial codes, runs exactly its traces
abbrev pub RunsAreTraces : Type 0
RunsAreTraces = (P : PlainModule) (E : Equations) (inputs outputs : List SignalSet) → IsShaped P.process → ReactsAs P E → E.initial ≡ code_of P.process (initial_of P) → (Runs E inputs outputs) ↔ (IsTrace P inputs outputs)

-- a system that reacts, wherever a program's system reacts once, as that one, is the program's too if that one always reacts once
abbrev pub SolvedAreSystems : Type 0
SolvedAreSystems = (P : PlainModule) (E F : Equations) → IsSystemOf P E → F.inputs ≡ E.inputs → AlwaysReactsOnce (FitsLayout (layout_of P.process)) E.inputs (SystemReacts E)
    → ((m : List ℕ) (i : SignalSet) → FitsLayout (layout_of P.process) m → length i ≡ E.inputs → ReactsOnce (SystemReacts E) m i → (o : SignalSet) (n : List ℕ) → (SystemReacts F m i o n) ↔ (SystemReacts E m i o n))
    → IsSystemOf P F

-- a program that has a system without cyclic bits always has one reaction
abbrev pub AcyclicAreGood : Type 0
AcyclicAreGood = (P : PlainModule) (E : Equations) (order : List ℕ) → IsShaped P.process → IsSystemOf P E → registers E ≡ register_count P.process → IsPlanOf E order [] → AlwaysHasOneReaction P

-- a layout has a shape for each register
abbrev pub LayoutsAreSized : Type 0
LayoutsAreSized = (p : Process) → IsShaped p → length (layout_of p) ≡ register_count p
