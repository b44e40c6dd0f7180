-- What a simulation says of an input. Source: this project.
use Rattle.std.specs.Prelude.{◌≡◌, ℕ, List, [], ◌++◌, flat_map}
use Rattle.argos_base.specs.Names.{Spelled}
use Rattle.argos_base.specs.SignalSets.{SignalSet}
use Rattle.trace_io.specs.Lines.{at_end, full, pulled_whole, output_line, LineKind, End, used_up, bad_line, input_lines}
use Rattle.argos_load.specs.Runnables.{Runnable, input_names, output_names, HasTrace}
use Rattle.argos_load.specs.Said.{Yes, Refused, Said, said, bad_line_text, long_trace_text}

-- the lines of these outputs, one after the other
abbrev pub output_lines : List Spelled → List SignalSet → List ℕ
output_lines names = flat_map (λ o. output_line o names)

-- what stands after the lines, and the answer; where a pull failed, there is none
pub data EndSays : End → Said → Type 0 where
  whole : EndSays (used_up at_end) (said Yes [])
  too_long : EndSays (used_up full) (said Refused long_trace_text)
  bad : (n : ℕ) (kind : LineKind) → EndSays (bad_line n kind) (said Refused (bad_line_text n kind))

-- the outputs of its trace to the sets of the input, and what follows them
pub data Simulated (r : Runnable) (input : List ℕ) : Said → Type 0 where
  simulated : (inputs outputs : List SignalSet) (end : End) (last : Said) → input_lines (pulled_whole input) (input_names r) ≡ (inputs, end) → EndSays end last → HasTrace r inputs outputs
      → Simulated r input (said last.answer (output_lines (output_names r) outputs ++ last.bytes))
