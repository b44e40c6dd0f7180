use Rattle.std.proofs.Common.{◌≡◌, ◌++◌, map, drop}
use Rattle.argos_grammar.specs.Views as tree
use Rattle.bisim_formula.specs.Certificates.{resolved}
use Rattle.bisim_formula.specs.inner.Lent.{registers_in}
use Rattle.bisim_formula.specs.Views as cert
use Rattle.bisim_formula.proofs.building.+build.Given as goal

-- the formulas so far, and the operands that are left
abbrev pub invariant-build_all-loop-node : goal.invariant-build_all-loop-node
invariant-build_all-loop-node l = map cert.formula_of l.certs.items ++ map (λ node. resolved (registers_in l.left) (registers_in l.right) (tree.formula_of node)) (drop l.node-index l.nodes) ≡ map (λ node. resolved (registers_in l.left) (registers_in l.right) (tree.formula_of node)) l.nodes
