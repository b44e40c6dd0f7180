use Rattle.std.proofs.Common.{◌≡◌, ◌++◌, drop, map}
use Rattle.argos_core.specs.Views as core
use Rattle.argos_grammar.specs.Views as tree
use Rattle.argos_expansion.specs.Expansion.{guard_of}
use Rattle.argos_expansion.proofs.rules.+guard.Given as goal

-- the guards so far, and the operands that are left
abbrev pub invariant-guards-loop-form : goal.invariant-guards-loop-form
invariant-guards-loop-form l = map core.guard_of l.guards.items ++ map (λ form. guard_of l.scope (tree.guard_of form)) (drop l.form-index l.forms) ≡ map (λ form. guard_of l.scope (tree.guard_of form)) l.forms
