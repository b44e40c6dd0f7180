use Rattle.std.proofs.Common.{◌≡◌, ◌++◌, map, drop}
use Rattle.c_emit.specs.COf.{out_statements}
use Rattle.c_step.specs.Views.{statement_of}
use Rattle.c_emit.proofs.statements.push_outs.Given as goal

abbrev pub invariant-loop-to : goal.invariant-loop-to
invariant-loop-to l = map statement_of l.statements.items ++ out_statements l.to (drop l.to l.outs) ≡ map statement_of l.initial.statements.items ++ out_statements 0 l.outs
