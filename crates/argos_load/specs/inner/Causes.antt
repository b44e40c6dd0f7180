-- The causes of refusals, as code makes them.
use Rattle.std.specs.Prelude.{◌≡◌, ℕ, List, Option, Some, None, Vec, codes}
use Rattle.std.specs.declared.alloc.Global.{Global}
use Rattle.argos_expansion.specs.declared.errors.Which.{Which}
use Rattle.argos_expansion.specs.declared.errors.Which.TheVariants as which
use Rattle.argos_grammar.specs.Faults as faults
use Rattle.argos_grammar.specs.Faults.{Kind}
use Rattle.argos_grammar.specs.Refusals.{kind_of}
use Rattle.argos_grammar.specs.declared.errors.ParseError.{ParseError}
use Rattle.argos_grammar.specs.declared.errors.ParseError.TheVariants as errors
use Rattle.argos_grammar.specs.declared.errors.SyntaxKind.{SyntaxKind}
use Rattle.argos_grammar.specs.declared.errors.SyntaxKind.TheVariants as kinds
use Rattle.argos_grammar.specs.Views.{numeral}
use Rattle.argos_load.specs.Reports.{cert_cause, fault_cause, scope_cause}
use Rattle.argos_scope.specs.Faults.{fault_of}
use Rattle.argos_scope.specs.Meaning.{ScopeFault}
use Rattle.argos_scope.specs.declared.errors.ScopeError.{ScopeError}
use Rattle.bisim_formula.specs.Certificates.{CertFault, number, unknown}
use Rattle.bisim_formula.specs.declared.resolving.CertError.{CertError}
use Rattle.bisim_formula.specs.declared.resolving.CertError.TheVariants as error

-- the fault that an error tells
abbrev pub fault_in : ParseError → Option (ℕ × Kind)
fault_in (errors.NotUtf8 at) = Some (at, faults.NotUtf8)
fault_in (errors.Syntax at kind) = Some (at, kind_of kind)
fault_in (errors.TooDeep at) = Some (at, faults.TooDeep)
fault_in errors.OutOfMemory = None

-- the bytes are the cause of the fault that the error tells
abbrev pub IsFaultCause : ParseError → Vec ℕ Global → Type 0
IsFaultCause e text = (at : ℕ) × (kind : Kind) × (fault_in e ≡ Some (at, kind)) × (text.items ≡ fault_cause at kind)

abbrev pub IsScopeCause : ScopeError → Vec ℕ Global → Type 0
IsScopeCause e text = (f : ScopeFault) × (fault_of e ≡ Some f) × (text.items ≡ scope_cause f)

-- the fault of a certificate that an error tells
abbrev pub cert_fault_in : CertError → Option CertFault
cert_fault_in (error.Number n at) = Some (number (numeral n at))
cert_fault_in (error.Unknown name at) = Some (unknown (record { name = name; at = at }))
cert_fault_in error.OutOfMemory = None

abbrev pub IsCertCause : CertError → Vec ℕ Global → Type 0
IsCertCause e text = (f : CertFault) × (cert_fault_in e ≡ Some f) × (text.items ≡ cert_cause f)

abbrev pub kind_word : SyntaxKind → List ℕ
kind_word kinds.Byte = codes "byte"
kind_word kinds.Token = codes "token"
kind_word kinds.End = codes "end"
kind_word kinds.Number = codes "number"
kind_word kinds.LongName = codes "long name"
kind_word kinds.Version = codes "version"

abbrev pub which_word : Which → List ℕ
which_word which.Signals = codes "signals"
which_word which.Automata = codes "automata"
which_word which.Codes = codes "codes"
which_word which.Depth = codes "depth"
which_word which.Size = codes "size"
which_word which.Trace = codes "trace"
