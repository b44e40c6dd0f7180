-- Laws of certificates. Source: this project.
use Rattle.std.specs.Prelude.{◌≡◌, Some, None, []}
use Rattle.argos_grammar.specs.Forms as text
use Rattle.bisim_formula.specs.Certificates.{Registers, CertFault, formula_faults, first_fault, resolved, NamesExist, IsFirstFault}

-- what a certificate is refused for is a fault at the least place, and without faults it isn't refused and its formula names what exists
abbrev pub CertificatesResolve : Type 0
CertificatesResolve = (P Q : Registers) (f : text.Formula text.Atom)
    → ((x : CertFault) → first_fault (formula_faults P Q f) ≡ Some x → IsFirstFault (formula_faults P Q f) x)
    × (first_fault (formula_faults P Q f) ≡ None → (formula_faults P Q f ≡ []) × NamesExist P Q (resolved P Q f))
