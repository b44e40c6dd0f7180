use Rattle.std.proofs.Common.{◌≡◌, ℕ, ◌<◌, false}
use Rattle.std.specs.Prelude.{slice_index_or}
use Rattle.eqn_dd.specs.Denoting.{values_at}
use Rattle.bisim_check.proofs.comparing.first_differing.Given as goal

abbrev pub invariant-loop-place : goal.invariant-loop-place
invariant-loop-place l = (k : ℕ) → k < l.place → slice_index_or (values_at l.arena l.lefts l.values) k false ≡ slice_index_or (values_at l.arena l.rights l.values) k false
