use Rattle.bisim_formula.specs.Certificates.{formula_faults}
use Rattle.bisim_formula.proofs.Certifying.{first_is_first, no_first, names_exist}
use Rattle.bisim_formula.proofs.laws.certificates_resolve.Goals as goal

pub returns : goal.returns
returns c = λ P Q f. (λ x h. first_is_first (formula_faults P Q f) x h, λ h. (no_first (formula_faults P Q f) h, names_exist P Q f (no_first (formula_faults P Q f) h)))
