use Rattle.std.proofs.Common.{◌≡◌, map, drop}
use Rattle.argos_core.specs.Views.{shapes_of}
use Rattle.bisim_formula.specs.Formulas.{all_related, any_related}
use Rattle.bisim_formula.specs.Views.{formula_of, formulas_of}
use Rattle.bisim_formula.proofs.holding.+formula.Given as goal

-- the formulas that are left decide
abbrev pub invariant-all_hold-loop-cert : goal.invariant-all_hold-loop-cert
invariant-all_hold-loop-cert l = all_related (shapes_of l.left) (shapes_of l.right) (formulas_of (map formula_of (drop l.cert-index l.certs))) l.m l.n ≡ all_related (shapes_of l.left) (shapes_of l.right) (formulas_of (map formula_of l.certs)) l.m l.n

abbrev pub invariant-any_holds-loop-cert : goal.invariant-any_holds-loop-cert
invariant-any_holds-loop-cert l = any_related (shapes_of l.left) (shapes_of l.right) (formulas_of (map formula_of (drop l.cert-index l.certs))) l.m l.n ≡ any_related (shapes_of l.left) (shapes_of l.right) (formulas_of (map formula_of l.certs)) l.m l.n
