use Rattle.argos_tokens.proofs.TokensOnce.{tokens_once}
use Rattle.argos_tokens.proofs.laws.one_list_of_tokens.Goals as goal

pub returns : goal.returns
returns c = tokens_once
