use Rattle.std.proofs.Common.{◌≡◌, length}
use Rattle.std.specs.List.{list_all}
use Rattle.argos_base.specs.Spelling.{is_name}
use Rattle.trace_io.specs.Lines.{words_of}
use Rattle.trace_io.proofs.words.are_names.Given as goal

-- the words before what is left pass
abbrev pub invariant-loop-word : goal.invariant-loop-word
invariant-loop-word l = list_all is_name (words_of l.fn.line) ≡ list_all is_name (words_of l.left)

abbrev pub decreases-loop-word : goal.decreases-loop-word
decreases-loop-word l = length l.left
