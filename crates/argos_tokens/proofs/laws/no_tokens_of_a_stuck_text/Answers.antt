use Rattle.argos_tokens.proofs.TokensOnce.{no_tokens_where_stuck}
use Rattle.argos_tokens.proofs.laws.no_tokens_of_a_stuck_text.Goals as goal

pub returns : goal.returns
returns c = no_tokens_where_stuck
