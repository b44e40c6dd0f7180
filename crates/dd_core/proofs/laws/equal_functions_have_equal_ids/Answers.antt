use Rattle.dd_core.proofs.Canonical.{canonical}
use Rattle.dd_core.proofs.laws.equal_functions_have_equal_ids.Goals as goal

pub returns : goal.returns
returns c = λ arena f g valid held_f held_g equal. canonical arena.variables arena.nodes valid.reduced f g held_f held_g equal
