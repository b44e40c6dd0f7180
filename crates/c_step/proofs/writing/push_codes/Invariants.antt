use Rattle.std.proofs.Common.{◌≡◌, ◌++◌, drop}
use Rattle.c_step.specs.inner.Texts.{codes_text}
use Rattle.c_step.proofs.writing.push_codes.Given as goal

abbrev pub invariant-loop-register : goal.invariant-loop-register
invariant-loop-register l = l.text.items ++ codes_text l.register (drop l.register l.codes) ≡ l.initial.text.items ++ codes_text 0 l.codes
