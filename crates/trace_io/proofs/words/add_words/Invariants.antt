use Rattle.std.proofs.Common.{◌≡◌, ◌++◌, ℕ, List, length}
use Rattle.trace_io.specs.Lines.{words_of, set_of}
use Rattle.trace_io.proofs.words.add_words.Given as goal

-- the words before what is left, whose names are in the set
abbrev pub invariant-loop-word : goal.invariant-loop-word
invariant-loop-word l = (seen : List (List ℕ)) × (words_of l.fn.line ≡ seen ++ words_of l.left) × (l.set ≡ set_of l.names seen)

abbrev pub decreases-loop-word : goal.decreases-loop-word
decreases-loop-word l = length l.left
