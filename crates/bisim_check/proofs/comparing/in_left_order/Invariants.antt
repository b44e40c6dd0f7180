use Rattle.std.proofs.Common.{◌≡◌, ◌-◌, ◌≤◌, length, map, take}
use Rattle.std.specs.Prelude.{slice_index_or}
use Rattle.argos_base.specs.Names.{place_of}
use Rattle.argos_congruence.specs.NamedSets.{number_or_zero}
use Rattle.bisim_check.proofs.comparing.in_left_order.Given as goal

abbrev pub invariant-loop-name : goal.invariant-loop-name
invariant-loop-name l = record { within : l.place ≤ length l.left; ordered : l.ordered.items ≡ map (λ name. slice_index_or l.nodes (number_or_zero (place_of l.right name)) (record { 0 = 0 })) (take l.place l.left) }

abbrev pub decreases-loop-name : goal.decreases-loop-name
decreases-loop-name l = length l.left - l.place
