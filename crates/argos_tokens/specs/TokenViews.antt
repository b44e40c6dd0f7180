-- What the tokens of the code stand for.
use Rattle.std.specs.Prelude.{ℕ, List, map, Option, Some, None}
use Rattle.argos_tokens.specs.Tokens as plain
use Rattle.argos_tokens.specs.Tokens.{Reads, Skips, IsTokens, IsStuck}
use Rattle.argos_tokens.specs.declared.token.Token.{Token}

abbrev pub token_of : Token → plain.Token
token_of t = record { text = t.text.now; at = t.at }

abbrev pub tokens_of : List Token → List plain.Token
tokens_of = map token_of

-- these are all tokens of the text, or those before a byte at this place that begins none
abbrev pub AreTokens : List ℕ → List plain.Token → Option ℕ → Type 0
AreTokens bs ts None = IsTokens bs ts
AreTokens bs ts (Some at) = (n : ℕ) × (last rest : List ℕ) × Reads 0 bs ts n last × Skips n last at rest × IsStuck rest
