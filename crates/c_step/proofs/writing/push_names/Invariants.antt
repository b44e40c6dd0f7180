use Rattle.std.proofs.Common.{◌≡◌, ◌++◌, take}
use Rattle.c_step.specs.inner.Texts.{comments_text}
use Rattle.c_step.proofs.writing.push_names.Given as goal

abbrev pub invariant-loop-k : goal.invariant-loop-k
invariant-loop-k l = l.text.items ≡ l.initial.text.items ++ comments_text l.front (take l.k l.names)
