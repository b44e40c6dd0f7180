use Rattle.std.proofs.Common.{◌≡◌, length}
use Rattle.c_step.specs.inner.Scopes.{scope_of}
use Rattle.c_step.proofs.LiteralSteps.{IsPartRead}
use Rattle.c_step.proofs.statement_lines.more_literals.Given as goal

abbrev pub invariant-loop-line : goal.invariant-loop-line
invariant-loop-line l = record { at : l.line.at ≡ l.initial.line.at; read : IsPartRead l.sign (scope_of l.scope) l.initial.line.rest.now l.line.rest.now l.initial.literals.items l.literals.items }

abbrev pub decreases-loop-line : goal.decreases-loop-line
decreases-loop-line l = length l.line.rest.now
