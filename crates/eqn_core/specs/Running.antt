-- A system that runs: its equations, and the memory that it has reached. Source: this project.
use Rattle.std.specs.Prelude.{◌≡◌, ℕ, List}
use Rattle.argos_base.specs.SignalSets.{SignalSet}
use Rattle.eqn_core.specs.Equations.{Equations, registers, bit_count, word_count}
use Rattle.eqn_core.specs.Solutions.{SystemReacts}

pub record Running : Type 0 where
  pub equations : Equations
  pub memory : List ℕ

-- at the start the registers hold the initial codes
abbrev pub start_of : Equations → Running
start_of E = record { equations = E; memory = E.initial }

-- a step from x to y: the system reacts, and its equations stay
pub record StepsTo (x : Running) (i o : SignalSet) (y : Running) : Type 0 where
  pub reacts : SystemReacts x.equations x.memory i o y.memory
  pub same : y.equations ≡ x.equations

-- the buffers have a place for each register, bit and word
pub record HasPlaces (E : Equations) (memory bits words : ℕ) : Type 0 where
  pub memory_places : memory ≡ registers E
  pub bit_places : bits ≡ bit_count E
  pub word_places : words ≡ word_count E
