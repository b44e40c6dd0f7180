-- What the answers of resolving a certificate stand for. Source: this project.
use Rattle.std.specs.Prelude.{◌≡◌, Result, Ok, Err}
use Rattle.argos_grammar.specs.Views.{numeral}
use Rattle.bisim_formula.specs.Certificates.{number, unknown, CertAnswer, says, refused}
use Rattle.bisim_formula.specs.Views.{formula_of}
use Rattle.bisim_formula.specs.declared.cert.Cert.{Cert}
use Rattle.bisim_formula.specs.declared.resolving.CertError.{CertError}
use Rattle.bisim_formula.specs.declared.resolving.CertError.TheVariants as error

-- the answer of the code says this
abbrev pub Answers : CertAnswer → Result Cert CertError → Type 0
Answers a (Ok c) = a ≡ says (formula_of c)
Answers a (Err (error.Number n at)) = a ≡ refused (number (numeral n at))
Answers a (Err (error.Unknown name at)) = a ≡ refused (unknown (record { name = name; at = at }))
Answers a (Err error.OutOfMemory) = Unit {0}
