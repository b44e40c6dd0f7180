-- From the errors of a text to what is said of it.
use Rattle.std.proofs.Common.{◌≡◌, ℕ, Option, List, ◌++◌, Some, None, Vec, codes, refl, sym, ap, subst, ◌∙◌}
use Rattle.std.specs.Prelude.{decimal}
use Rattle.std.specs.declared.alloc.Global.{Global}
use Rattle.argos_grammar.specs.DueSymbols.{Rule, program}
use Rattle.argos_grammar.specs.Faults.{Kind, FirstFault}
use Rattle.argos_grammar.specs.declared.errors.ParseError.{ParseError}
use Rattle.argos_grammar.specs.declared.errors.ParseError.TheVariants as errors
use Rattle.argos_scope.specs.Faults.{fault_of}
use Rattle.argos_scope.specs.TextFaults.{TellsFirstFault, TellsScopeFault}
use Rattle.argos_scope.specs.Meaning.{ScopeFault, limit, IsScopeFault}
use Rattle.argos_scope.specs.declared.errors.ScopeError.{ScopeError}
use Rattle.std.specs.Prelude.{Result, Ok, Err, IfOk, IsSomeAnd}
use Rattle.argos_base.specs.declared.out_of_memory.OutOfMemory.{OutOfMemory}
use Rattle.argos_expansion.specs.Refusals.{which_of}
use Rattle.argos_grammar.specs.Refusals.{Tells, kind_of}
use Rattle.argos_grammar.specs.declared.errors.SyntaxKind.{SyntaxKind}
use Rattle.argos_grammar.specs.declared.errors.SyntaxKind.TheVariants as kinds
use Rattle.argos_expansion.specs.declared.errors.Which.{Which}
use Rattle.argos_expansion.specs.declared.errors.Which.TheVariants as which
use Rattle.argos_load.specs.Programs.{ModuleOf, fault, scope}
use Rattle.argos_load.specs.Reports.{fault_cause, scope_cause}
use Rattle.argos_report.specs.Texts.{refused_file}
use Rattle.argos_load.specs.Said.{Refused, said}
use Rattle.argos_load.specs.Stages.{says}
use Rattle.argos_load.specs.inner.Causes.{fault_in, IsFaultCause, IsScopeCause, kind_word, which_word}

-- the place and the kind that stand there
abbrev place_in : Option (ℕ × Kind) → ℕ → ℕ
place_in None n = n
place_in (Some f) n = f.0

abbrev kind_in : Option (ℕ × Kind) → Kind → Kind
kind_in None k = k
kind_in (Some f) k = f.1

moved : (start : Rule) (text : List ℕ) (n at : ℕ) (k kind : Kind) → ◌≡◌ {A = Option (ℕ × Kind)} (Some (n, k)) (Some (at, kind)) → FirstFault start text n k → FirstFault start text at kind
moved start text n at k kind e h = subst (λ m. FirstFault start text m kind) (ap (λ o. place_in o n) e) (subst (λ l. FirstFault start text n l) (ap (λ o. kind_in o k) e) h)

abbrev IsPlaced : Option (ℕ × Kind) → Type 0
IsPlaced None = ⊥
IsPlaced (Some f) = Unit {0}

-- the fault that an error tells, which isn't want of memory
pub told_at : (start : Rule) (text : List ℕ) (e : ParseError) (at : ℕ) (kind : Kind) → Tells start text e → fault_in e ≡ Some (at, kind) → FirstFault start text at kind
told_at start text (errors.NotUtf8 n) at kind h e = moved start text n at _ kind e h
told_at start text (errors.Syntax n k) at kind h e = moved start text n at _ kind e h
told_at start text (errors.TooDeep n) at kind h e = moved start text n at _ kind e h
told_at start text errors.OutOfMemory at kind h e = absurd (subst IsPlaced (sym e) tt)

tells : (text : List ℕ) (e : ParseError) → TellsFirstFault text e → Tells program text e
tells text (errors.NotUtf8 n) h = h
tells text (errors.Syntax n k) h = h
tells text (errors.TooDeep n) h = h
tells text errors.OutOfMemory h = tt

-- the report of the first fault
pub says_fault : (k : ℕ) (text : List ℕ) (e : ParseError) (cause : Vec ℕ Global) (report : List ℕ) → TellsFirstFault text e → IsFaultCause e cause → report ≡ refused_file k cause.items → ModuleOf k text (says (said Refused report))
says_fault k text e cause report why c is =
    subst (λ r. ModuleOf k text (says (said Refused r))) (sym (is ∙ ap (refused_file k) c.3)) (fault c.0 c.1 (told_at program text e c.0 c.1 (tells text e why) c.2))

pub some_fault : (e : ScopeError) (f : ScopeFault) (P : ScopeFault → Type 0) → fault_of e ≡ Some f → IsSomeAnd (fault_of e) P → P f
some_fault e f P is h = let g : IsSomeAnd (Some f) P = subst (λ o. IsSomeAnd o P) is h in g

-- the report of the fault of its tree
pub says_scope : (k : ℕ) (text : List ℕ) (e : ScopeError) (cause : Vec ℕ Global) (report : List ℕ) → TellsScopeFault text e → IsScopeCause e cause → report ≡ refused_file k cause.items → ModuleOf k text (says (said Refused report))
says_scope k text e cause report tells c is =
    subst (λ r. ModuleOf k text (says (said Refused r))) (sym (is ∙ ap (refused_file k) c.2)) (scope tells.0 c.0 tells.1 (some_fault e c.0 (IsScopeFault tells.0.components) c.1 tells.2))

-- the cause of a fault, from its text
pub fault_told : (e : ParseError) (r : Result (Vec ℕ Global) OutOfMemory) (cause : List ℕ) (at : ℕ) (kind : Kind) → fault_in e ≡ Some (at, kind) → cause ≡ fault_cause at kind → IfOk r (λ p. p.items ≡ cause) → IfOk r (IsFaultCause e)
fault_told e (Ok p) cause at kind is same h = (at, kind, is, h ∙ same)
fault_told e (Err x) cause at kind is same h = tt

pub syntax_told : (at : ℕ) (kind : SyntaxKind) → (codes "syntax" ++ codes " at " ++ decimal at) ++ codes ": " ++ kind_word kind ≡ fault_cause at (kind_of kind)
syntax_told at kinds.Byte = refl
syntax_told at kinds.Token = refl
syntax_told at kinds.End = refl
syntax_told at kinds.Number = refl
syntax_told at kinds.LongName = refl
syntax_told at kinds.Version = refl

-- the cause of a fault of a tree, from its text
pub scope_told : (e : ScopeError) (r : Result (Vec ℕ Global) OutOfMemory) (cause : List ℕ) (f : ScopeFault) → fault_of e ≡ Some f → cause ≡ scope_cause f → IfOk r (λ p. p.items ≡ cause) → IfOk r (IsScopeCause e)
scope_told e (Ok p) cause f is same h = (f, is, h ∙ same)
scope_told e (Err x) cause f is same h = tt

pub limit_told : (which : Which) (count : ℕ) → ((codes "limit " ++ which_word which) ++ codes ": ") ++ decimal count ≡ scope_cause (limit (which_of which) count)
limit_told which.Signals count = refl
limit_told which.Automata count = refl
limit_told which.Codes count = refl
limit_told which.Depth count = refl
limit_told which.Size count = refl
limit_told which.Trace count = refl
