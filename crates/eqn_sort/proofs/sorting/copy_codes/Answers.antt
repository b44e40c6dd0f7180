use Rattle.std.proofs.Common.{◌≡◌, ℕ, List, true, sym, subst}
use Rattle.eqn_core.specs.Ordered.{all_below}
use Rattle.eqn_core.proofs.Walks.{all_below-from_fits}
use Rattle.eqn_sort.proofs.sorting.copy_codes.Goals as goal

pub returns-clause-codes : goal.returns-clause-codes
returns-clause-codes c = subst (λ (xs : List ℕ). all_below 65536 xs ≡ true) (sym c.in_ok-from_slice.ensures.items) (all_below-from_fits c.args.codes.now c.type_inv.codes)
