use Rattle.std.proofs.Common.{◌≡◌, ◌++◌, map, take}
use Rattle.eqn_core.specs.Views.{literal_of}
use Rattle.eqn_file.specs.EquationFile.{literal_text}
use Rattle.eqn_file.specs.inner.Words.{behind_spaces}
use Rattle.eqn_file.proofs.writing.push_literals.Given as goal

abbrev pub invariant-loop-literal : goal.invariant-loop-literal
invariant-loop-literal l = l.text.items ≡ l.initial.text.items ++ behind_spaces (map (λ x. literal_text (literal_of x)) (take l.literal-index l.literals))
