-- What a refusal says of a text.
use Rattle.std.specs.Prelude.{ℕ, List}
use Rattle.argos_grammar.specs.DueSymbols.{Rule}
use Rattle.argos_grammar.specs.Faults as faults
use Rattle.argos_grammar.specs.Faults.{Kind, FirstFault}
use Rattle.argos_grammar.specs.declared.errors.ParseError.{ParseError}
use Rattle.argos_grammar.specs.declared.errors.ParseError.TheVariants as errors
use Rattle.argos_grammar.specs.declared.errors.SyntaxKind.{SyntaxKind}
use Rattle.argos_grammar.specs.declared.errors.SyntaxKind.TheVariants as kinds

abbrev pub kind_of : SyntaxKind → Kind
kind_of kinds.Byte = faults.Byte
kind_of kinds.Token = faults.OtherToken
kind_of kinds.End = faults.End
kind_of kinds.Number = faults.Number
kind_of kinds.LongName = faults.LongName
kind_of kinds.Version = faults.Version

-- the first fault of the text; want of memory says nothing
abbrev pub Tells : Rule → List ℕ → ParseError → Type 0
Tells start bs (errors.NotUtf8 at) = FirstFault start bs at faults.NotUtf8
Tells start bs (errors.Syntax at kind) = FirstFault start bs at (kind_of kind)
Tells start bs (errors.TooDeep at) = FirstFault start bs at faults.TooDeep
Tells start bs errors.OutOfMemory = Unit {0}
