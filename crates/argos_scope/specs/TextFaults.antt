-- What a refusal says of a text.
use Rattle.std.specs.Prelude.{ℕ, List, IsSomeAnd}
use Rattle.argos_grammar.specs.DueSymbols.{program}
use Rattle.argos_grammar.specs.Forms.{ProgramForm}
use Rattle.argos_grammar.specs.Refusals.{Tells}
use Rattle.argos_grammar.specs.Text.{IsText}
use Rattle.argos_grammar.specs.declared.errors.ParseError.{ParseError}
use Rattle.argos_grammar.specs.declared.errors.ParseError.TheVariants as parses
use Rattle.argos_scope.specs.Faults.{fault_of}
use Rattle.argos_scope.specs.Meaning.{IsScopeFault}
use Rattle.argos_scope.specs.declared.errors.ScopeError.{ScopeError}
use Rattle.argos_scope.specs.declared.text.TextError.{TextError}
use Rattle.argos_scope.specs.declared.text.TextError.TheVariants as errors

-- the first fault of the text by the grammar; want of memory is none
abbrev pub TellsFirstFault : List ℕ → ParseError → Type 0
TellsFirstFault bs parses.OutOfMemory = ⊥
TellsFirstFault bs (parses.NotUtf8 at) = Tells program bs (parses.NotUtf8 at)
TellsFirstFault bs (parses.Syntax at kind) = Tells program bs (parses.Syntax at kind)
TellsFirstFault bs (parses.TooDeep at) = Tells program bs (parses.TooDeep at)

-- the text has a tree, and this is its scope fault; want of memory is none
abbrev pub TellsScopeFault : List ℕ → ScopeError → Type 0
TellsScopeFault bs e = (t : ProgramForm) × IsText bs t × IsSomeAnd (fault_of e) (IsScopeFault t.components)

-- why the text means nothing; want of memory says nothing
abbrev pub TellsWhy : List ℕ → TextError → Type 0
TellsWhy bs (errors.Parse e) = TellsFirstFault bs e
TellsWhy bs (errors.Scope e) = TellsScopeFault bs e
TellsWhy bs errors.OutOfMemory = Unit {0}
