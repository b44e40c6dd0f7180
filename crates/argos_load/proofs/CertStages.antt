-- The stages of a certificate's file: its tree, and the formula that it says of two programs.
use Rattle.std.proofs.Common.{Err, Ok, List, Some, Vec, ap, subst, sym, ℕ, ◌∙◌, ◌≡◌}
use Rattle.std.specs.Prelude.{IfOk, Result}
use Rattle.std.specs.declared.alloc.Global.{Global}
use Rattle.argos_base.specs.declared.out_of_memory.OutOfMemory.{OutOfMemory}
use Rattle.argos_core.specs.Process.{PlainModule}
use Rattle.argos_grammar.specs.DueSymbols as symbols
use Rattle.argos_grammar.specs.Forms.{CertForm}
use Rattle.argos_grammar.specs.Refusals.{Tells}
use Rattle.argos_grammar.specs.Views.{numeral}
use Rattle.argos_grammar.specs.declared.errors.ParseError.{ParseError}
use Rattle.argos_load.specs.EquivFiles.{CertTreeOf, CertOver}
use Rattle.argos_load.specs.EquivFiles as equiv
use Rattle.argos_load.specs.Reports.{cert_cause}
use Rattle.argos_load.specs.Said.{Refused, said}
use Rattle.argos_load.specs.Stages.{says}
use Rattle.argos_load.specs.inner.Causes.{IsFaultCause, IsCertCause, cert_fault_in}
use Rattle.argos_load.proofs.CauseTexts.{told_at}
use Rattle.argos_report.specs.Texts.{refused_file}
use Rattle.bisim_formula.specs.Certificates.{CertFault, number, unknown, CertAnswer, refused, cert_answer}
use Rattle.bisim_formula.specs.ResolveViews.{Answers}
use Rattle.bisim_formula.specs.declared.resolving.CertError.{CertError}
use Rattle.bisim_formula.specs.declared.resolving.CertError.TheVariants as error

-- the report of the first fault of a certificate's text
pub says_cert_syntax : (k : ℕ) (text : List ℕ) (e : ParseError) (cause : Vec ℕ Global) (report : List ℕ) → Tells symbols.cert text e → IsFaultCause e cause → report ≡ refused_file k cause.items → CertTreeOf k text (says (said Refused report))
says_cert_syntax k text e cause report tells c is =
    subst (λ r. CertTreeOf k text (says (said Refused r))) (sym (is ∙ ap (refused_file k) c.3)) (equiv.fault c.0 c.1 (told_at symbols.cert text e c.0 c.1 tells c.2))

-- the fault that the error tells
answers_fault : (a : CertAnswer) (e : CertError) (f : CertFault) → Answers a (Err e) → cert_fault_in e ≡ Some f → a ≡ refused f
answers_fault a (error.Number n at) f h is = let same : number (numeral n at) ≡ f = cc in h ∙ ap refused same
answers_fault a (error.Unknown name at) f h is = let same : unknown (record { name = name; at = at }) ≡ f = cc in h ∙ ap refused same
answers_fault a error.OutOfMemory f h is = cc

-- the report of a number that isn't there, or of a state's name
pub says_cert_fault : (k : ℕ) (P Q : PlainModule) (t : CertForm) (e : CertError) (cause : Vec ℕ Global) (report : List ℕ) → Answers (cert_answer P Q t) (Err e) → IsCertCause e cause → report ≡ refused_file k cause.items → CertOver k P Q t (says (said Refused report))
says_cert_fault k P Q t e cause report h c is =
    subst (λ r. CertOver k P Q t (says (said Refused r))) (sym (is ∙ ap (refused_file k) c.2)) (equiv.fault c.0 (answers_fault (cert_answer P Q t) e c.0 h c.1))

-- the cause of such a fault, from its text
pub cert_told : (e : CertError) (r : Result (Vec ℕ Global) OutOfMemory) (cause : List ℕ) (f : CertFault) → cert_fault_in e ≡ Some f → cause ≡ cert_cause f → IfOk r (λ p. p.items ≡ cause) → IfOk r (IsCertCause e)
cert_told e (Ok p) cause f is same h = (f, is, h ∙ same)
cert_told e (Err x) cause f is same h = tt
