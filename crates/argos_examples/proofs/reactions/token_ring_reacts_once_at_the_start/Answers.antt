use Rattle.argos_examples.proofs.TokenRingCases.{ring_reacts_once}
use Rattle.argos_examples.proofs.reactions.token_ring_reacts_once_at_the_start.Goals as goal

pub returns : goal.returns
returns c = ring_reacts_once
