use Rattle.std.proofs.Common.{◌≡◌}
use Rattle.argos_congruence.specs.Congruence.{all_names}
use Rattle.argos_core.specs.ModuleViews.{module_of}
use Rattle.bisim_check.proofs.Sharing.{found_in, joined, none_is_same, some_is_foreign}
use Rattle.bisim_check.proofs.interfaces.first_foreign.Goals as goal

-- what the calls find is what is found in all names
found : (c : goal.After-or-3) → let P = module_of c.args.left.now in let Q = module_of c.args.right.now in c.or-3.result ≡ found_in P Q (all_names P Q)
found c =
    joined (module_of c.args.left.now) (module_of c.args.right.now)
    c.first_unshared.ensures c.first_unshared-2.ensures c.or.ensures c.first_unshared-3.ensures c.or-2.ensures c.first_unshared-4.ensures c.or-3.ensures

pub returns-clause-same : goal.returns-clause-same
returns-clause-same c = none_is_same (module_of c.args.left.now) (module_of c.args.right.now) c.or-3.result (found c)

pub returns-clause-foreign : goal.returns-clause-foreign
returns-clause-foreign c = some_is_foreign (module_of c.args.left.now) (module_of c.args.right.now) c.or-3.result (found c)
