-- A step function that runs: the step, and the memory that it has reached. Source: this project.
use Rattle.std.specs.Prelude.{◌≡◌, ℕ, List}
use Rattle.argos_base.specs.SignalSets.{SignalSet}
use Rattle.c_step.specs.CRuns.{CReacts}
use Rattle.c_step.specs.CStep.{CStep}

pub record Running : Type 0 where
  pub step : CStep
  pub memory : List ℕ

-- at the start the registers hold the initial codes
abbrev pub start_of : CStep → Running
start_of s = record { step = s; memory = s.initial }

-- one step from x to y: the statements react, and stay the same
pub record StepsTo (x : Running) (i o : SignalSet) (y : Running) : Type 0 where
  pub reacts : CReacts x.step x.memory i o y.memory
  pub same : y.step ≡ x.step
