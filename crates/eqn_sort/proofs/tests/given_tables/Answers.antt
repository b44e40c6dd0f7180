use Rattle.std.proofs.Common.{ℕ, ◌<◌, [], ◌∷◌, zero, suc, sym, subst, arith}
use Rattle.std.specs.Prelude.{All}
use Rattle.eqn_core.specs.Equations.{Equations, bit_count}
use Rattle.eqn_core.specs.Orderable.{IsOrderable}
use Rattle.eqn_sort.specs.inner.Samples.{chain}
use Rattle.eqn_sort.proofs.Samples.{chain_is_sample}
use Rattle.eqn_sort.proofs.tests.given_tables.Goals as goal

one : All (λ (k : ℕ). k < bit_count chain) (1 ∷ [])
one zero d h = omega arith
one (suc k) d h = absurd (omega arith)

pub with_given-requires-clause-orderable : goal.with_given-requires-clause-orderable
with_given-requires-clause-orderable c = subst IsOrderable (sym c.in_ok-system.ensures) chain_is_sample.orderable

pub with_given-requires-clause-given : goal.with_given-requires-clause-given
with_given-requires-clause-given c = subst (λ (E : Equations). All (λ (k : ℕ). k < bit_count E) (1 ∷ [])) (sym c.in_ok-system.ensures) one
