use Rattle.std.proofs.Common.{◌≡◌, drop, length}
use Rattle.argos_congruence.specs.Congruence.{is_shared}
use Rattle.argos_core.specs.ModuleViews.{module_of}
use Rattle.bisim_check.specs.inner.Sharing.{first_unshared}
use Rattle.bisim_check.proofs.interfaces.first_unshared.Given as goal

abbrev pub invariant-loop-k : goal.invariant-loop-k
invariant-loop-k l =
    (l.k-end ≡ length l.names)
    × (let shared = is_shared (module_of l.left) (module_of l.right) in first_unshared shared (drop l.k l.names) ≡ first_unshared shared l.names)
