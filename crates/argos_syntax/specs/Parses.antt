-- What the answer on the tokens becomes as an answer on the text.
use Rattle.std.specs.Prelude.{ℕ, Option, Some, None, Result, Ok, Err}
use Rattle.argos_grammar.specs.declared.errors.ParseError.{ParseError}
use Rattle.argos_grammar.specs.declared.errors.ParseError.TheVariants as errors
use Rattle.argos_grammar.specs.declared.errors.SyntaxKind.TheVariants as kinds
use Rattle.argos_parser.specs.declared.parser.Stop.{Stop}
use Rattle.argos_parser.specs.declared.parser.Stop.TheVariants as stops

-- a refusal in a text of so many bytes, whose tokens end there or before a byte at this place that begins none
abbrev pub report_of : ℕ → Option ℕ → Stop → ParseError
report_of len None stops.Ended = errors.Syntax len kinds.End
report_of len (Some at) stops.Ended = errors.Syntax at kinds.Byte
report_of len stuck (stops.Wrong at kind) = errors.Syntax at kind
report_of len stuck (stops.TooDeep at) = errors.TooDeep at
report_of len stuck stops.OutOfMemory = errors.OutOfMemory

-- a tree counts only where no byte stands that begins no token
abbrev pub judged : {T : Type 0} → ℕ → Option ℕ → Result T Stop → Result T ParseError
judged len None (Ok tree) = Ok tree
judged len (Some at) (Ok tree) = Err (errors.Syntax at kinds.Byte)
judged len stuck (Err stop) = Err (report_of len stuck stop)
