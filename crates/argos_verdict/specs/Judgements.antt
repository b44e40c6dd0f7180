-- Which modules are accepted, and why the others aren't. Source: this project.
use Rattle.std.specs.Prelude.{ℕ, List}
use Rattle.argos_base.specs.Machines.{Fault}
use Rattle.argos_base.specs.SignalSets.{SignalSet}
use Rattle.argos_core.specs.FirstBad.{IsFirstBad}
use Rattle.argos_core.specs.Overlaps.{IsProgram, IsGood}
use Rattle.argos_core.specs.Process.{PlainModule}
use Rattle.argos_verdict.specs.Jobs.{FitsReactions}
use Rattle.instant_check.specs.ModuleOverlaps.{IsClear}

-- a program each of whose configurations has one reaction to each input, and no job has too many variables
pub record IsAcceptable (P : PlainModule) : Type 0 where
  pub good : IsGood P
  pub clear : IsClear P
  pub fits : FitsReactions P

-- a program with this first case that hasn't exactly one reaction, and what there is in it; no job has too many variables
pub record IsBadCase (P : PlainModule) (m : List ℕ) (i : SignalSet) (f : Fault) : Type 0 where
  pub program : IsProgram P
  pub clear : IsClear P
  pub fits : FitsReactions P
  pub first : IsFirstBad P m i f
