use Rattle.eqn_scheme.proofs.CyclicBits.{cyclic_bits}
use Rattle.eqn_scheme.proofs.laws.cyclic_bits_are_cyclic_locals.Goals as goal

pub returns : goal.returns
returns c = λ P k is. cyclic_bits P is k
