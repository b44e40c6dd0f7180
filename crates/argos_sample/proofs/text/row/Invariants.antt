use Rattle.std.proofs.Common.{◌≡◌, map}
use Rattle.argos_grammar.specs.Views.{process_of}
use Rattle.argos_sample.specs.SampleForm.{row_forms}
use Rattle.argos_sample.proofs.text.row.Given as goal

abbrev pub invariant-loop-place : goal.invariant-loop-place
invariant-loop-place l = map process_of l.row.items ≡ row_forms l.count 0 l.place
