-- Which of some signals are present where a module reacts, from memory to memory. Source: this project.
use Rattle.std.specs.Prelude.{◌≡◌, ℕ, ◌+◌, ◌<◌, ◌≤◌, List, true, map}
use Rattle.argos_base.specs.Machines.{IsLeastChosen}
use Rattle.argos_base.specs.SignalSets.{SignalSet, has, lists}
use Rattle.argos_core.specs.Codes.{code_of}
use Rattle.argos_core.specs.Configurations.{IsConfiguration}
use Rattle.argos_core.specs.Process.{Configuration, PlainModule}
use Rattle.argos_core.specs.Reactions.{input_count, output_count, signal_count}
use Rattle.eqn_scheme.specs.Settled.{Settles}

-- these signals are locals
abbrev pub AreLocals : PlainModule → List ℕ → Type 0
AreLocals P ks = (k : ℕ) → lists ks k ≡ true → (input_count P + output_count P ≤ k) × (k < signal_count P)

-- in the configuration with code m, to the input set i, the module can react so that just these of the locals ks are present, one truth value for each
pub record ProgramChooses (P : PlainModule) (ks : List ℕ) (m : List ℕ) (i chosen : SignalSet) : Type 0 where
  pub configuration : Configuration
  pub is : IsConfiguration P.process configuration
  pub code : code_of P.process configuration ≡ m
  pub present : SignalSet
  pub settles : Settles P configuration i present
  pub chosen_is : chosen ≡ map (has present) ks

-- the least set of the locals ks that extends to all locals present in a reaction
abbrev pub IsLeastOf : PlainModule → List ℕ → List ℕ → SignalSet → SignalSet → Type 0
IsLeastOf P ks = IsLeastChosen (ProgramChooses P ks)
