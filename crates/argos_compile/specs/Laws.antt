-- Laws of accepted modules. Source: this project.
use Rattle.std.specs.Prelude.{◌≡◌, ℕ}
use Rattle.argos_core.specs.Modules.{IsModule}
use Rattle.argos_core.specs.Process.{PlainModule}
use Rattle.argos_verdict.specs.Judgements.{IsAcceptable}
use Rattle.eqn_core.specs.Equations.{Equations}
use Rattle.eqn_core.specs.Ordered.{IsOrdered}
use Rattle.argos_compile.specs.Accepting.{HasCycle, IsLineBound, IsAccepted}
use Rattle.argos_compile.specs.Systems.{IsSystemOf, RunsAs}

-- the runs of a module's system are exactly its traces, and the memories of a run are the codes of its configurations
abbrev pub RunsAreTraces : Type 0
RunsAreTraces = (P : PlainModule) (E : Equations) → IsModule P → IsSystemOf P E → RunsAs P E

-- a module that is accepted and in which no local depends on itself has ordered equations of its own
abbrev pub AcyclicHaveSystems : Type 0
AcyclicHaveSystems = (P : PlainModule) → IsModule P → IsAcceptable P → ¬ (HasCycle P) → (E : Equations) × (most : ℕ) × IsOrdered E × IsAccepted P E most

-- a module has one bound on lines at most
abbrev pub OneLineBound : Type 0
OneLineBound = (P : PlainModule) (m n : ℕ) → IsLineBound P m → IsLineBound P n → m ≡ n
