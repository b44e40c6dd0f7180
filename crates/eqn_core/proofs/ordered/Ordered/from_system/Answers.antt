use Rattle.std.proofs.Common.{refl, sym, ◌∙◌}
use Rattle.eqn_core.specs.Views.{equations_from}
use Rattle.eqn_core.proofs.InOrder.{IsOrdered-from_test, test-from_IsOrdered}
use Rattle.eqn_core.proofs.ordered.Ordered.from_system.Goals as goal

pub invariant_of-result : goal.invariant_of-result
invariant_of-result c = IsOrdered-from_test (equations_from c.args.system) c.if-is_ordered.ensures.codes (sym c.if-is_ordered.ensures.test)

pub returns-then-is_ordered-clause-ordered : goal.returns-then-is_ordered-clause-ordered
returns-then-is_ordered-clause-ordered c = (λ _. invariant_of-result c, λ _. refl)

pub returns-else-is_ordered-clause-ordered : goal.returns-else-is_ordered-clause-ordered
returns-else-is_ordered-clause-ordered c = (λ e. cc, λ h. c.if-is_ordered.ensures.test ∙ test-from_IsOrdered (equations_from c.args.system) h)
