use Rattle.std.proofs.Common.{◌≡◌, map, drop}
use Rattle.argos_grammar.specs.Views as tree
use Rattle.argos_grammar.specs.Views.{formulas_of}
use Rattle.bisim_formula.specs.Certificates.{formulas_faults, least_after}
use Rattle.bisim_formula.specs.inner.Lent.{registers_in}
use Rattle.bisim_formula.proofs.checking.+check.Given as goal

-- the least fault so far, and the operands that are left
abbrev pub invariant-check_all-loop-node : goal.invariant-check_all-loop-node
invariant-check_all-loop-node l = least_after l.least (formulas_faults (registers_in l.left) (registers_in l.right) (formulas_of (map tree.formula_of (drop l.node-index l.nodes)))) ≡ least_after l.initial.least (formulas_faults (registers_in l.left) (registers_in l.right) (formulas_of (map tree.formula_of l.nodes)))
