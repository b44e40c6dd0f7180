use Rattle.std.proofs.Common.{map, drop}
use Rattle.eqn_core.specs.Views.{line_of}
use Rattle.eqn_core.proofs.Evaluation.{Evaluates}
use Rattle.eqn_core.proofs.values.evaluate.Given as goal

abbrev pub invariant-loop-line : goal.invariant-loop-line
invariant-loop-line l = Evaluates (map line_of l.lines) l.initial.bit l.initial.word l.initial.bits l.initial.words (map line_of (drop l.line-index l.lines)) l.bit l.word l.bits l.words
