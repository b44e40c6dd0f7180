-- The reports of texts that are refused. Source: this project.
use Rattle.std.specs.Prelude.{ℕ, List, ◌++◌, codes, decimal}
use Rattle.argos_grammar.specs.Faults as faults
use Rattle.argos_names.specs.Scope as names
use Rattle.argos_expansion.specs.Limits as limits
use Rattle.argos_scope.specs.Meaning.{ScopeFault, broken, limit}
use Rattle.argos_report.specs.Texts.{refused_file}
use Rattle.bisim_formula.specs.Certificates.{CertFault, number, unknown}
use Rattle.pointcuts.specs.Pointcuts.{AspectFault, scope, outputs}

abbrev pub syntax_cause : ℕ → List ℕ → List ℕ
syntax_cause at kind = codes "syntax at " ++ decimal at ++ codes ": " ++ kind

-- the first fault of a text, and its place
abbrev pub fault_cause : ℕ → faults.Kind → List ℕ
fault_cause at faults.NotUtf8 = codes "not utf-8 at " ++ decimal at
fault_cause at faults.Byte = syntax_cause at (codes "byte")
fault_cause at faults.OtherToken = syntax_cause at (codes "token")
fault_cause at faults.End = syntax_cause at (codes "end")
fault_cause at faults.Number = syntax_cause at (codes "number")
fault_cause at faults.LongName = syntax_cause at (codes "long name")
fault_cause at faults.Version = syntax_cause at (codes "version")
fault_cause at faults.TooDeep = codes "too deep at " ++ decimal at

abbrev pub fault_text : ℕ → ℕ → faults.Kind → List ℕ
fault_text k at kind = refused_file k (fault_cause at kind)

abbrev pub rule_words : names.Rule → List ℕ
rule_words names.Unknown = codes "unknown"
rule_words names.Duplicate = codes "duplicate"
rule_words names.NotReadable = codes "not readable"
rule_words names.NotEmittable = codes "not emittable"
rule_words names.Arity = codes "arity"
rule_words names.NotEarlier = codes "not earlier"
rule_words names.NoInitial = codes "no initial"

abbrev pub limit_word : limits.Which → List ℕ
limit_word limits.Signals = codes "signals"
limit_word limits.Automata = codes "automata"
limit_word limits.Codes = codes "codes"
limit_word limits.Depth = codes "depth"
limit_word limits.Size = codes "size"
limit_word limits.Trace = codes "trace"

-- a broken name rule, or a limit that is passed
abbrev pub scope_cause : ScopeFault → List ℕ
scope_cause (broken b) = rule_words b.rule ++ codes ": " ++ b.mark.name ++ codes " at " ++ decimal b.mark.at
scope_cause (limit which count) = codes "limit " ++ limit_word which ++ codes ": " ++ decimal count

abbrev pub scope_text : ℕ → ScopeFault → List ℕ
scope_text k f = refused_file k (scope_cause f)

-- why the tree of file k is no aspect over the program
abbrev pub aspect_cause : AspectFault → List ℕ
aspect_cause (scope f) = scope_cause f
aspect_cause (outputs n) = codes "observer has " ++ decimal n ++ codes " outputs"

abbrev pub aspect_fault_text : ℕ → AspectFault → List ℕ
aspect_fault_text k f = refused_file k (aspect_cause f)

-- the woven program needs so many lines
abbrev pub lines_cause : ℕ → List ℕ
lines_cause need = codes "limit lines: " ++ decimal need

abbrev pub lines_text : ℕ → ℕ → List ℕ
lines_text k need = refused_file k (lines_cause need)

-- a number of the certificate that isn't there, or a state's name that isn't
abbrev pub cert_cause : CertFault → List ℕ
cert_cause (number n) = codes "no number " ++ decimal n.number ++ codes " at " ++ decimal n.at
cert_cause (unknown m) = codes "unknown: " ++ m.name ++ codes " at " ++ decimal m.at

abbrev pub cert_fault_text : ℕ → CertFault → List ℕ
cert_fault_text k f = refused_file k (cert_cause f)
