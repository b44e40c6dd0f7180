-- The stages between the parts: so many lines of a part are left, and these were read.
use Rattle.std.specs.Prelude.{ℕ, List, [], length}
use Rattle.argos_base.specs.Names.{Spelled}
use Rattle.eqn_core.specs.Equations.{Line, Equations}
use Rattle.line_format.specs.FileNames.{FileNames}
use Rattle.eqn_file.specs.EquationFile.{inputs_due, nothing_due, input_names_left, output_names_left, codes_left, lines_left, outs_left, nexts_left, Stage, stage, no_system, no_names}

abbrev pub system : ℕ → List ℕ → List Line → List ℕ → List ℕ → Equations
system I init lines outs nexts = record { inputs = I; initial = init; lines = lines; outputs = outs; locals = []; next = nexts }

abbrev pub names : List Spelled → List Spelled → FileNames
names ins outs = record { inputs = ins; outputs = outs }

abbrev pub behind_head : Stage
behind_head = stage inputs_due no_system no_names

abbrev pub at_inputs : ℕ → ℕ → List Spelled → Stage
at_inputs I k xs = stage (input_names_left k) (system I [] [] [] []) (names xs [])

abbrev pub at_outputs : ℕ → List Spelled → ℕ → List Spelled → Stage
at_outputs I ins k xs = stage (output_names_left k) (system I [] [] [] []) (names ins xs)

abbrev pub at_codes : ℕ → FileNames → ℕ → List ℕ → Stage
at_codes I n k xs = stage (codes_left k) (system I xs [] [] []) n

abbrev pub at_lines : ℕ → FileNames → List ℕ → ℕ → List Line → Stage
at_lines I n init k xs = stage (lines_left k (length n.outputs) (length init)) (system I init xs [] []) n

abbrev pub at_outs : ℕ → FileNames → List ℕ → List Line → ℕ → List ℕ → Stage
at_outs I n init lines k xs = stage (outs_left k (length init)) (system I init lines xs []) n

abbrev pub at_nexts : ℕ → FileNames → List ℕ → List Line → List ℕ → ℕ → List ℕ → Stage
at_nexts I n init lines outs k xs = stage (nexts_left k) (system I init lines outs xs) n

abbrev pub at_end : Equations → FileNames → Stage
at_end E n = stage nothing_due E n
