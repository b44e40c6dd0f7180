-- What stands for a certificate that the code makes.
use Rattle.std.proofs.Common.{◌≡◌, ℕ, List, [], ◌∷◌, map, refl, sym, ap, ◌∙◌, Box, Vec}
use Rattle.std.specs.declared.alloc.Global.{Global}
use Rattle.std.proofs.lemmas.Grind.{common_steps}
use Rattle.argos_base.specs.declared.signals.RegId.{RegId}
use Rattle.argos_grammar.specs.Views as tree
use Rattle.argos_grammar.specs.declared.trees.CertNode.{CertNode}
use Rattle.bisim_formula.specs.Certificates.{Registers, resolved, all_resolved}
use Rattle.bisim_formula.specs.Formulas as plain
use Rattle.bisim_formula.specs.Views.{which_of, formulas_of, formula_layer, formula_of}
use Rattle.bisim_formula.specs.declared.cert.Side.{Side}
use Rattle.bisim_formula.specs.declared.cert.Cert.{Cert}
use Rattle.bisim_formula.specs.declared.cert.Cert.TheOpen.{Cert-F}
use Rattle.bisim_formula.specs.declared.cert.Cert.TheFolds.{fold-roll-Cert}
use Rattle.bisim_formula.specs.declared.cert.Cert.TheVariants as variant

pub formula_of-InState : (s : Side) (r : RegId) (q : ℕ) → formula_of (variant.InState s r q) ≡ plain.in_state (which_of s) r.0 q
formula_of-InState s r q = ap formula_of (sym (variant.rolls-InState s r q)) ∙ fold-roll-Cert plain.Formula formula_layer (Cert-F.InState s r q)

pub formula_of-AtElapsed : (s : Side) (r : RegId) (q e : ℕ) → formula_of (variant.AtElapsed s r q e) ≡ plain.at_elapsed (which_of s) r.0 q e
formula_of-AtElapsed s r q e = ap formula_of (sym (variant.rolls-AtElapsed s r q e)) ∙ fold-roll-Cert plain.Formula formula_layer (Cert-F.AtElapsed s r q e)

pub formula_of-Inactive : (s : Side) (r : RegId) → formula_of (variant.Inactive s r) ≡ plain.inactive (which_of s) r.0
formula_of-Inactive s r = ap formula_of (sym (variant.rolls-Inactive s r)) ∙ fold-roll-Cert plain.Formula formula_layer (Cert-F.Inactive s r)

pub formula_of-SameCode : (r s : RegId) → formula_of (variant.SameCode r s) ≡ plain.same_code r.0 s.0
formula_of-SameCode r s = ap formula_of (sym (variant.rolls-SameCode r s)) ∙ fold-roll-Cert plain.Formula formula_layer (Cert-F.SameCode r s)

pub formula_of-True : formula_of variant.True ≡ plain.always
formula_of-True = ap formula_of (sym variant.rolls-True) ∙ fold-roll-Cert plain.Formula formula_layer Cert-F.True

pub formula_of-False : formula_of variant.False ≡ plain.never
formula_of-False = ap formula_of (sym variant.rolls-False) ∙ fold-roll-Cert plain.Formula formula_layer Cert-F.False

pub formula_of-Not : (c : Box Cert Global) → formula_of (variant.Not c) ≡ plain.negation (formula_of c.value)
formula_of-Not c = ap formula_of (sym (variant.rolls-Not c)) ∙ fold-roll-Cert plain.Formula formula_layer (Cert-F.Not c)

pub formula_of-All : (cs : Vec Cert Global) → formula_of (variant.All cs) ≡ plain.all (formulas_of (map formula_of cs.items))
formula_of-All cs = ap formula_of (sym (variant.rolls-All cs)) ∙ fold-roll-Cert plain.Formula formula_layer (Cert-F.All cs)

pub formula_of-Any : (cs : Vec Cert Global) → formula_of (variant.Any cs) ≡ plain.any (formulas_of (map formula_of cs.items))
formula_of-Any cs = ap formula_of (sym (variant.rolls-Any cs)) ∙ fold-roll-Cert plain.Formula formula_layer (Cert-F.Any cs)

-- operands, one by one
operands : (ls rs : Registers) (nodes : List CertNode) → formulas_of (map (λ node. resolved ls rs (tree.formula_of node)) nodes) ≡ all_resolved ls rs (tree.formulas_of (map tree.formula_of nodes))
operands ls rs [] = refl
operands ls rs (node ∷ nodes) = ap (λ fs. plain.formula (resolved ls rs (tree.formula_of node)) fs) (operands ls rs nodes)

pub operands_made : (cs : List Cert) (ls rs : Registers) (nodes : List CertNode) → map formula_of cs ≡ map (λ node. resolved ls rs (tree.formula_of node)) nodes → formulas_of (map formula_of cs) ≡ all_resolved ls rs (tree.formulas_of (map tree.formula_of nodes))
operands_made cs ls rs nodes e = ap formulas_of e ∙ operands ls rs nodes

pub ruleset cert_making = (common_steps, formula_of-InState, formula_of-AtElapsed, formula_of-Inactive, formula_of-SameCode, formula_of-True, formula_of-False, formula_of-Not, formula_of-All, formula_of-Any, operands_made)
