-- Operands of a certificate's text, one after the other.
use Rattle.std.proofs.Common.{◌≡◌, ℕ, ◌+◌, ◌<◌, ◌≤◌, List, length, get_or, drop, map, ◌∙◌, Option}
use Rattle.std.proofs.lemmas.Grind.{common_steps}
use Rattle.std.proofs.lemmas.List.{at_drop_more, at_drop_all}
use Rattle.argos_grammar.specs.Views as tree
use Rattle.argos_grammar.specs.Views.{formulas_of}
use Rattle.argos_grammar.specs.declared.trees.CertNode.{CertNode}
use Rattle.bisim_formula.specs.Certificates.{Registers, CertFault, formula_faults, formulas_faults, least_after}
use Rattle.bisim_formula.proofs.Certifying.{least_after-append}

-- the least fault, once the operands from the i-th on are looked at
pub faults-drop : (o : Option CertFault) (ls rs : Registers) (nodes : List CertNode) (i : ℕ) (d : CertNode) → i < length nodes → least_after o (formulas_faults ls rs (formulas_of (map tree.formula_of (drop i nodes)))) ≡ least_after (least_after o (formula_faults ls rs (tree.formula_of (get_or nodes i d)))) (formulas_faults ls rs (formulas_of (map tree.formula_of (drop (i + 1) nodes))))
faults-drop o ls rs nodes i d h =
    at_drop_more (λ more. least_after o (formulas_faults ls rs (formulas_of (map tree.formula_of more)))) nodes i d h
    ∙ least_after-append (formula_faults ls rs (tree.formula_of (get_or nodes i d))) (formulas_faults ls rs (formulas_of (map tree.formula_of (drop (i + 1) nodes)))) o

pub faults-end : (o : Option CertFault) (ls rs : Registers) (nodes : List CertNode) (i : ℕ) → length nodes ≤ i → least_after o (formulas_faults ls rs (formulas_of (map tree.formula_of (drop i nodes)))) ≡ o
faults-end o ls rs nodes i h = at_drop_all (λ more. least_after o (formulas_faults ls rs (formulas_of (map tree.formula_of more)))) nodes i h

pub ruleset cert_lists = (common_steps, least_after-append, faults-drop, faults-end)
