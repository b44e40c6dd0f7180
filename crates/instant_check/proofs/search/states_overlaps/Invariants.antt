use Rattle.std.proofs.Common.{map}
use Rattle.argos_core.specs.Views.{state_of, states_of}
use Rattle.instant_check.specs.inner.Jobs.{transitions_in}
use Rattle.instant_check.proofs.Searches.{PassedStates}
use Rattle.instant_check.proofs.search.states_overlaps.Given as goal

abbrev pub invariant-loop-number : goal.invariant-loop-number
invariant-loop-number l = PassedStates l.count (transitions_in (states_of (map state_of l.states))) l.number
