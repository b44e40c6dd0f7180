-- Laws of judgements. Source: this project.
use Rattle.std.specs.Prelude.{◌≡◌, ℕ, List}
use Rattle.argos_base.specs.Machines.{Fault}
use Rattle.argos_base.specs.SignalSets.{SignalSet}
use Rattle.argos_core.specs.Modules.{IsModule}
use Rattle.argos_core.specs.Process.{PlainModule}
use Rattle.argos_verdict.specs.Jobs.{IsTooWide}
use Rattle.argos_verdict.specs.Judgements.{IsAcceptable, IsBadCase}
use Rattle.instant_check.specs.ModuleOverlaps.{IsFound}

-- what is decided of a module, where no job runs out of nodes
pub data Decision : Type 0 where
  accepted : Decision
  overlap : ℕ → ℕ → ℕ → ℕ → SignalSet → Decision
  bad_case : List ℕ → SignalSet → Fault → Decision
  too_wide : ℕ → Decision

abbrev pub IsDecision : PlainModule → Decision → Type 0
IsDecision P accepted = IsAcceptable P
IsDecision P (overlap r q x y S) = IsFound P r q x y S
IsDecision P (bad_case m i f) = IsBadCase P m i f
IsDecision P (too_wide n) = IsTooWide P n

-- of a module one thing at most is decided
abbrev pub OneDecision : Type 0
OneDecision = (P : PlainModule) (d e : Decision) → IsModule P → IsDecision P d → IsDecision P e → d ≡ e

-- and it can't be that nothing is
abbrev pub SomeDecision : Type 0
SomeDecision = (P : PlainModule) → IsModule P → ¬ ((d : Decision) → ¬ (IsDecision P d))
