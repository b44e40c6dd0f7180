-- How many reactions of a system of equations with one input emit its one output. Source: this project.
use Rattle.std.specs.Prelude.{◌≡◌, ℕ, List}
use Rattle.argos_base.specs.SignalSets.{SignalSet}
use Rattle.eqn_core.specs.Equations.{Equations}
use Rattle.eqn_core.specs.Solutions.{Runs}
use Rattle.argos_sample.specs.Emitted.{present_in, emitted_in}

-- the system has a run of so many instants, in each of which the input is present, and in so many of which the output is emitted
pub record RunEmits (E : Equations) (instants emitted : ℕ) : Type 0 where
  pub outputs : List SignalSet
  pub runs : Runs E (present_in instants) outputs
  pub counted : emitted ≡ emitted_in outputs
