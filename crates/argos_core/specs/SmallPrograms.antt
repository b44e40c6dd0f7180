-- What the tests' programs are. Source: this project.
use Rattle.std.specs.Prelude.{◌≡◌, ℕ, ◌≤◌, [], Option, Some, None, Box}
use Rattle.std.specs.declared.alloc.Global.{Global}
use Rattle.argos_core.specs.Automata.{register_count}
use Rattle.argos_core.specs.Modules.{IsShaped}
use Rattle.argos_core.specs.Process.{Timeout, Process, Body, no_body, body}
use Rattle.argos_core.specs.Views.{OneState, process_of}
use Rattle.argos_core.specs.declared.prog.Prog.{Prog}

-- a state without transitions
pub record IsPlain (s : OneState) (timeout : Option Timeout) (inside : Body) : Type 0 where
  pub transitions : s.rules.transitions ≡ []
  pub timeout_is : s.rules.timeout ≡ timeout
  pub body_is : s.body ≡ inside

abbrev pub body_holding : Option (Box Prog Global) → Body
body_holding None = no_body
body_holding (Some p) = body (process_of p.value)

-- it is shaped, and has so many automata at most
pub record IsSmall (most : ℕ) (p : Process) : Type 0 where
  pub shaped : IsShaped p
  pub few : register_count p ≤ most
