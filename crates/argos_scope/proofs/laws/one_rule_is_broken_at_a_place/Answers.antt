use Rattle.argos_scope.proofs.OneMeaning.{one_breach}
use Rattle.argos_scope.proofs.laws.one_rule_is_broken_at_a_place.Goals as goal

pub returns : goal.returns
returns c = one_breach
