use Rattle.std.proofs.Common.{subst}
use Rattle.argos_load.specs.Calls.{call}
use Rattle.argos_load.specs.EquivFiles.{CertTreeOf, CertOver}
use Rattle.argos_load.specs.Giving.{program_of, IsStage}
use Rattle.argos_load.specs.Programs.{TextOf}
use Rattle.argos_load.specs.Stages.{◌then◌}
use Rattle.argos_load.proofs.Loads.{IsFileStage-next, IsFileStage-ends, IsStage-any, bytes_in}
use Rattle.bisim_formula.specs.Views.{formula_of}
use Rattle.argos_load.proofs.equiv.load_cert.Goals as goal

pub returns-in-Ok-clause-cert : goal.returns-in-Ok-clause-cert
returns-in-Ok-clause-cert g c = λ nodes.
    let k = c.args.number in
    let P = program_of c.args.left.now in
    let Q = program_of c.args.right.now in
    let shelf = call g.H.Shelf.told g.H.Shelf.faults c.args.shelf.now c.load_text.new.shelf in
    let text = c.in-Ok.text.items in
    IsFileStage-next formula_of k nodes c.args.name.now shelf (λ text. CertTreeOf k text then CertOver k P Q) (λ _ _. ⊥) c.cert_over.result text ((c.in-Ok.ensures {u = tt}).text nodes)
    (IsStage-any formula_of nodes (CertTreeOf k text then CertOver k P Q) (λ _. ⊥) c.cert_over.result (subst (λ t. IsStage formula_of c.cert_over.result 0 (CertTreeOf k t then CertOver k P Q) (λ _. ⊥)) c.deref.ensures.value c.cert_over.ensures))

pub returns-in-Err-clause-cert : goal.returns-in-Err-clause-cert
returns-in-Err-clause-cert g c = λ nodes.
    let k = c.args.number in
    let shelf = call g.H.Shelf.told g.H.Shelf.faults c.args.shelf.now c.load_text.new.shelf in
    IsFileStage-ends formula_of bytes_in k nodes c.args.name.now shelf (TextOf k) (λ text. CertTreeOf k text then CertOver k (program_of c.args.left.now) (program_of c.args.right.now)) (λ _ _. ⊥) c.in-Err.stop ((c.in-Err.ensures {u = tt}).text nodes)
