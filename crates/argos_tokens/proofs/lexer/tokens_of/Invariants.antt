use Rattle.std.proofs.Common.{length}
use Rattle.argos_tokens.specs.TokenViews.{tokens_of}
use Rattle.argos_tokens.specs.Lexing.{IsSolid}
use Rattle.argos_tokens.proofs.Readings.{HasRead}
use Rattle.argos_tokens.proofs.lexer.tokens_of.Given as goal

abbrev pub invariant-loop-rest : goal.invariant-loop-rest
invariant-loop-rest l = record {
  read : HasRead l.text (tokens_of l.tokens.items) l.rest;
  solid : IsSolid l.rest;
}

abbrev pub decreases-loop-rest : goal.decreases-loop-rest
decreases-loop-rest l = length l.rest
