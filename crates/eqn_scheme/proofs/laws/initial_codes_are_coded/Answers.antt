use Rattle.std.proofs.Common.{refl}
use Rattle.eqn_scheme.proofs.System.{registers-scheme}
use Rattle.eqn_scheme.proofs.laws.initial_codes_are_coded.Goals as goal

pub returns : goal.returns
returns c = λ P is. (refl, registers-scheme P is)
