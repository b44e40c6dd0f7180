use Rattle.std.proofs.Common.{refl, sym, ◌∙◌}
use Rattle.eqn_core.specs.Views.{literal_of}
use Rattle.c_step.specs.inner.Pieces.{taken}
use Rattle.c_step.specs.inner.Scopes.{scope_of}
use Rattle.c_step.proofs.LiteralSteps.{shorter, nothing_read, one_more_read}
use Rattle.c_step.proofs.statement_lines.more_literals.Goals as goal

pub loop-line-init : goal.loop-line-init
loop-line-init c = record { at = refl; read = nothing_read c.args.sign.now (scope_of c.args.scope) c.args.line.rest.now c.args.literals.now.items }

pub loop-line-smaller : goal.loop-line-smaller
loop-line-smaller c =
    shorter c.args.sign.now (scope_of c.args.scope) c.loop-line.line.rest.now c.text.new.self.rest.now (taken (literal_of c.in_ok-literal.literal) c.literal.new.line.rest.now) (c.in_ok-text.ensures {u = tt}).0 (c.in_ok-literal.ensures {u = tt}).0

pub loop-line-preserved : goal.loop-line-preserved
loop-line-preserved c = record {
  at = (c.in_ok-literal.ensures {u = tt}).1 ∙ (c.in_ok-text.ensures {u = tt}).1 ∙ c.loop-line.invariant.at;
  read = one_more_read c.args.sign.now (scope_of c.args.scope) c.args.line.rest.now c.loop-line.line.rest.now c.text.new.self.rest.now c.literal.new.line.rest.now c.args.literals.now.items c.loop-line.literals.items c.push.new.self.items c.in_ok-literal.literal c.loop-line.invariant.read (sym c.loop-line-test.ensures)
      (c.in_ok-text.ensures {u = tt}).0 (c.in_ok-literal.ensures {u = tt}).0 (c.in_ok-push.ensures {u = tt}).items;
}
