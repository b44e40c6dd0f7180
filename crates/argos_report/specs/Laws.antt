-- Laws of what is told of memories. Source: this project.
use Rattle.std.specs.Prelude.{◌≡◌, ℕ, ◌+◌, ◌<◌, ◌++◌, Some, codes, slice_get}
use Rattle.argos_core.specs.Automata.{counts_of, first_code, rules_of}
use Rattle.argos_core.specs.Process.{Rules, States}
use Rattle.argos_report.specs.States.{elapsed_text, code_text}

-- the code of a state with an elapsed count below its count is told by the state's name, and by the count where the state is timed
abbrev pub StatesAreTold : Type 0
StatesAreTold = (ss : States) (q e : ℕ) (s : Rules) → slice_get (rules_of ss) q ≡ Some s → e < counts_of s.timeout
    → code_text ss (first_code ss q + e) ≡ s.name ++ elapsed_text s.timeout e

-- an automaton that is off is told by a dash
abbrev pub OffIsTold : Type 0
OffIsTold = (ss : States) → code_text ss 0 ≡ codes "-"
