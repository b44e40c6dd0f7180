use Rattle.std.proofs.Common.{◌≡◌, ◌≤◌, length}
use Rattle.trace_io.specs.Lines.{words_of}
use Rattle.trace_io.proofs.words.next_word.Given as goal

-- no word stood before what is left
abbrev pub invariant-loop-left : goal.invariant-loop-left
invariant-loop-left l = record {
  words : words_of l.fn.line ≡ words_of l.left;
  short : length l.left ≤ length l.fn.line;
}

abbrev pub decreases-loop-left : goal.decreases-loop-left
decreases-loop-left l = length l.left
