-- What stands for a formula that the code takes apart.
use Rattle.std.proofs.Common.{◌≡◌, map, ap, sym, ◌∙◌, Box, Vec}
use Rattle.std.specs.declared.alloc.Global.{Global}
use Rattle.bisim_formula.specs.Formulas as plain
use Rattle.bisim_formula.specs.Views.{formula_of, formulas_of, formula_layer}
use Rattle.bisim_formula.specs.declared.cert.Cert.{Cert}
use Rattle.bisim_formula.specs.declared.cert.Cert.TheVariants as variant
use Rattle.bisim_formula.specs.declared.cert.Cert.TheOpen.{Cert-F}
use Rattle.bisim_formula.specs.declared.cert.Cert.TheFolds.{fold-roll-Cert}

pub formula_of-True : formula_of variant.True ≡ plain.always
formula_of-True = ap formula_of (sym variant.rolls-True) ∙ fold-roll-Cert plain.Formula formula_layer Cert-F.True

pub formula_of-False : formula_of variant.False ≡ plain.never
formula_of-False = ap formula_of (sym variant.rolls-False) ∙ fold-roll-Cert plain.Formula formula_layer Cert-F.False

pub formula_of-Not : (f : Box Cert Global) → formula_of (variant.Not f) ≡ plain.negation (formula_of f.value)
formula_of-Not f = ap formula_of (sym (variant.rolls-Not f)) ∙ fold-roll-Cert plain.Formula formula_layer (Cert-F.Not f)

pub formula_of-All : (fs : Vec Cert Global) → formula_of (variant.All fs) ≡ plain.all (formulas_of (map formula_of fs.items))
formula_of-All fs = ap formula_of (sym (variant.rolls-All fs)) ∙ fold-roll-Cert plain.Formula formula_layer (Cert-F.All fs)

pub formula_of-Any : (fs : Vec Cert Global) → formula_of (variant.Any fs) ≡ plain.any (formulas_of (map formula_of fs.items))
formula_of-Any fs = ap formula_of (sym (variant.rolls-Any fs)) ∙ fold-roll-Cert plain.Formula formula_layer (Cert-F.Any fs)
