use Rattle.std.proofs.Common.{◌≡◌, ◌+◌, ◌++◌, map, drop}
use Rattle.argos_base.specs.Names.{place_of}
use Rattle.argos_congruence.specs.NamedSets.{number_or_zero}
use Rattle.bisim_check.proofs.placing.variables_by_name.Given as goal

abbrev pub invariant-loop-k : goal.invariant-loop-k
invariant-loop-k l =
    l.variables.items ++ map (λ name. l.first + number_or_zero (place_of l.names name)) (drop l.k l.others)
    ≡ map (λ name. l.first + number_or_zero (place_of l.names name)) l.others
