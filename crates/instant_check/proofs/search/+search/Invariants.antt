use Rattle.std.proofs.Common.{map, drop}
use Rattle.argos_core.specs.Views.{process_of, processes_of, state_of, states_of}
use Rattle.instant_check.specs.inner.Jobs.{jobs_of_parts, jobs_in}
use Rattle.instant_check.proofs.Searches.{Passed}
use Rattle.instant_check.proofs.search.+search.Given as goal

abbrev pub invariant-parts_overlaps-loop-part : goal.invariant-parts_overlaps-loop-part
invariant-parts_overlaps-loop-part l = Passed l.count l.fn.register (jobs_of_parts (processes_of (map process_of l.parts))) (jobs_of_parts (processes_of (map process_of (drop l.part-index l.parts)))) l.register

abbrev pub invariant-bodies_overlaps-loop-state : goal.invariant-bodies_overlaps-loop-state
invariant-bodies_overlaps-loop-state l = Passed l.count l.fn.register (jobs_in (states_of (map state_of l.states))) (jobs_in (states_of (map state_of (drop l.state-index l.states)))) l.register
