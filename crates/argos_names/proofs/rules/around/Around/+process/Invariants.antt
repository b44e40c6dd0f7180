use Rattle.std.proofs.Common.{◌≡◌, [], drop}
use Rattle.argos_names.specs.inner.AroundViews.{around_of}
use Rattle.argos_names.proofs.Breaches.{after_each}
use Rattle.argos_names.proofs.Processes.{process_each, after_states}
use Rattle.argos_names.proofs.rules.around.Around.+process.Given as goal

-- the scope is as it was; the least so far, and the processes that are left
abbrev pub invariant-block-loop-process : goal.invariant-block-loop-process
invariant-block-loop-process l = (l.scope ≡ l.initial.scope)
    × (after_each (process_each (around_of l.self) l.initial.scope) l.least (drop l.process-index l.block) ≡ after_each (process_each (around_of l.self) l.initial.scope) l.initial.least l.block)

-- the same, and the states that are left
abbrev pub invariant-states-loop-state : goal.invariant-states-loop-state
invariant-states-loop-state l = (l.scope ≡ l.initial.scope)
    × (after_states (around_of l.self) l.initial.scope l.names.keys l.seen.keys l.least (drop l.state-index l.states) ≡ after_states (around_of l.self) l.initial.scope l.names.keys [] l.initial.least l.states)
