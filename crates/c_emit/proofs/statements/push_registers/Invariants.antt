use Rattle.std.proofs.Common.{◌≡◌, ◌++◌, map, drop}
use Rattle.c_emit.specs.COf.{register_statements}
use Rattle.c_step.specs.Views.{statement_of}
use Rattle.c_emit.proofs.statements.push_registers.Given as goal

abbrev pub invariant-loop-to : goal.invariant-loop-to
invariant-loop-to l = map statement_of l.statements.items ++ register_statements l.to (drop l.to l.next) ≡ map statement_of l.initial.statements.items ++ register_statements 0 l.next
