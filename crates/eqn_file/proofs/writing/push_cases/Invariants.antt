use Rattle.std.proofs.Common.{◌≡◌, ◌++◌, take}
use Rattle.eqn_file.specs.inner.Texts.{cases_text}
use Rattle.eqn_file.proofs.writing.push_cases.Given as goal

abbrev pub invariant-loop-case : goal.invariant-loop-case
invariant-loop-case l = l.text.items ≡ l.initial.text.items ++ cases_text (take l.case-index l.cases)
