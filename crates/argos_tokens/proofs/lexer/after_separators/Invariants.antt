use Rattle.std.proofs.Common.{◌≡◌, ◌≤◌, length, false}
use Rattle.argos_tokens.specs.Tokens.{begins_blank}
use Rattle.argos_tokens.specs.Lexing.{SkipsTo}
use Rattle.argos_tokens.proofs.lexer.after_separators.Given as goal

abbrev pub invariant-loop-comment : goal.invariant-loop-comment
invariant-loop-comment l = record {
  skipped : SkipsTo l.bytes l.rest;
  within : length l.rest ≤ length l.bytes;
  no_blank : begins_blank l.rest ≡ false;
}

abbrev pub decreases-loop-comment : goal.decreases-loop-comment
decreases-loop-comment l = length l.rest
