-- What a certificate of the code stands for. Source: this project.
use Rattle.std.specs.Prelude.{List, [], ◌∷◌}
use Rattle.bisim_formula.specs.Formulas.{Which, left, right, Formula, in_state, at_elapsed, inactive, same_code, always, never, negation, all, any, Formulas, no_formulas, formula}
use Rattle.bisim_formula.specs.declared.cert.Side.{Side}
use Rattle.bisim_formula.specs.declared.cert.Side.TheVariants.{Left, Right}
use Rattle.bisim_formula.specs.declared.cert.Cert.{Cert, fold-Cert}
use Rattle.bisim_formula.specs.declared.cert.Cert.TheOpen.{Cert-F}

abbrev pub which_of : Side → Which
which_of Left = left
which_of Right = right

abbrev pub formulas_of : List Formula → Formulas
formulas_of [] = no_formulas
formulas_of (f ∷ fs) = formula f (formulas_of fs)

abbrev pub formula_layer : Cert-F Formula → Formula
formula_layer (Cert-F.InState s r q) = in_state (which_of s) r.0 q
formula_layer (Cert-F.AtElapsed s r q e) = at_elapsed (which_of s) r.0 q e
formula_layer (Cert-F.Inactive s r) = inactive (which_of s) r.0
formula_layer (Cert-F.SameCode r s) = same_code r.0 s.0
formula_layer Cert-F.True = always
formula_layer Cert-F.False = never
formula_layer (Cert-F.Not f) = negation f.value
formula_layer (Cert-F.All fs) = all (formulas_of fs.items)
formula_layer (Cert-F.Any fs) = any (formulas_of fs.items)

-- a formula
abbrev pub formula_of : Cert → Formula
formula_of = fold-Cert Formula formula_layer
