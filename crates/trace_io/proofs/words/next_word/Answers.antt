use Rattle.std.proofs.Common.{rules, ◌∙◌}
use Rattle.trace_io.proofs.WordLists.{words-none}
use Rattle.trace_io.proofs.words.next_word.Goals as goal

pub returns-clause-word : goal.returns-clause-word
returns-clause-word c = c.loop-left.invariant.words ∙ words-none c.loop-left.left.now (search rules)
