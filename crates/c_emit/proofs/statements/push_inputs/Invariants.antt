use Rattle.std.proofs.Common.{◌≡◌, ◌-◌, ◌++◌, map}
use Rattle.c_emit.specs.COf.{input_statements}
use Rattle.c_step.specs.Views.{statement_of}
use Rattle.c_emit.proofs.statements.push_inputs.Given as goal

abbrev pub invariant-loop-input : goal.invariant-loop-input
invariant-loop-input l = map statement_of l.statements.items ++ input_statements l.input (l.inputs - l.input) ≡ map statement_of l.initial.statements.items ++ input_statements 0 l.inputs
