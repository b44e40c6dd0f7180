use Rattle.std.proofs.Common.{◌≡◌, ◌++◌, drop, map}
use Rattle.eqn_core.specs.Views.{case_of}
use Rattle.c_step.specs.inner.Texts.{further_text}
use Rattle.c_step.proofs.writing.push_choose.Given as goal

abbrev pub invariant-loop-case : goal.invariant-loop-case
invariant-loop-case l = l.text.items ++ further_text l.to (map case_of (drop l.case-index l.further)) ≡ l.initial.text.items ++ further_text l.to (map case_of l.further)
