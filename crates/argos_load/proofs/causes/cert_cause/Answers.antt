use Rattle.std.proofs.Common.{◌++◌, codes, ap, refl}
use Rattle.std.specs.Prelude.{decimal}
use Rattle.argos_grammar.specs.Views.{numeral}
use Rattle.argos_load.specs.inner.Causes.{cert_fault_in}
use Rattle.argos_load.proofs.CertStages.{cert_told}
use Rattle.bisim_formula.specs.Certificates.{number, unknown}
use Rattle.argos_load.proofs.causes.cert_cause.Goals as goal

pub returns-in-Number : goal.returns-in-Number
returns-in-Number c =
    let n = c.in-Number.number in
    let at = c.in-Number.at in
    cert_told c.args.error.now c.no_number.result ((codes "no number " ++ decimal n) ++ codes " at " ++ decimal at) (number (numeral n at)) (ap cert_fault_in c.in-Number.is) refl c.no_number.ensures

pub returns-in-Unknown : goal.returns-in-Unknown
returns-in-Unknown c =
    let name = c.in-Unknown.name in
    let at = c.in-Unknown.at in
    cert_told c.args.error.now c.broken.result ((codes "unknown: " ++ name) ++ codes " at " ++ decimal at) (unknown (record { name = name; at = at })) (ap cert_fault_in c.in-Unknown.is) refl c.broken.ensures
