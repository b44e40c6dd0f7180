use Rattle.std.proofs.Common.{◌≡◌, ◌++◌, take}
use Rattle.eqn_file.specs.inner.Texts.{lines_text}
use Rattle.eqn_file.proofs.writing.push_names.Given as goal

abbrev pub invariant-loop-k : goal.invariant-loop-k
invariant-loop-k l = l.text.items ≡ l.initial.text.items ++ lines_text (take l.k l.names)
