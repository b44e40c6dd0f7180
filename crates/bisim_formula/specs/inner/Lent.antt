-- What a certificate's text is resolved by: the states of each register, as a program lends them. Source: this project.
use Rattle.std.specs.Prelude.{◌≡◌, ◌≤◌, List, map, option_map, length, All}
use Rattle.std.specs.Borrow.{Bor}
use Rattle.argos_core.specs.Process.{PlainModule}
use Rattle.argos_core.specs.declared.prog.State.{State}
use Rattle.argos_grammar.specs.Views.{mark_of, numeral}
use Rattle.bisim_formula.specs.Certificates.{Known, Registers, registers_of, CertFault, number, unknown}
use Rattle.bisim_formula.specs.declared.faults.Fault.{Fault}
use Rattle.bisim_formula.specs.declared.faults.Fault.TheVariants.{Number, Unknown}

abbrev pub known_state : State → Known
known_state s = record { name = s.name; count = option_map (λ w. w.count) s.timed }

abbrev pub states_in : List State → List Known
states_in = map known_state

abbrev pub registers_in : List (Bor (List State)) → Registers
registers_in = map (λ states. states_in states.now)

-- no automaton has more states than codes
abbrev pub AreFew : List (Bor (List State)) → Type 0
AreFew registers = All (λ states. length states.now ≤ 65535) registers

-- the registers of a program
pub record AreLentBy (P : PlainModule) (registers : List (Bor (List State))) : Type 0 where
  pub few : AreFew registers
  pub known : registers_in registers ≡ registers_of P

abbrev pub fault_of : Fault → CertFault
fault_of (Number n at) = number (numeral n at)
fault_of (Unknown spot) = unknown (mark_of spot)
