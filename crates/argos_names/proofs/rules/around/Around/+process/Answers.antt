use Rattle.std.proofs.Common.{[], sym, ap, ◌∙◌}
use Rattle.argos_grammar.specs.Views.{mark_of}
use Rattle.argos_names.specs.Scope.{breach_unless, Duplicate}
use Rattle.argos_names.specs.inner.Least.{least_after}
use Rattle.argos_names.specs.inner.AroundViews.{around_of}
use Rattle.argos_names.proofs.Processes.{after_state, after_states, state_each}
use Rattle.argos_names.proofs.rules.around.Around.+process.Goals as goal

pub states-loop-state-preserved : goal.states-loop-state-preserved
states-loop-state-preserved t c = (
  c.in_ok-state.ensures.scope ∙ c.loop-state.invariant.0,
  after_state (around_of c.args.self.now) c.args.scope.now c.args.names.now.keys c.loop-state.seen.keys c.insert.new.self.keys c.loop-state.least c.broken_unless.new.self c.state.new.least (after_states (around_of c.args.self.now) c.args.scope.now c.args.names.now.keys [] c.args.least.now c.args.states.now)
      c.args.states.now c.loop-state.state-index c.state-item.result (mark_of c.name_of-name.result)
      c.loop-state-test.true (sym c.state-item.is) c.name_of-name.ensures c.loop-state.invariant.1 c.in_ok-fresh.ensures.keys
      (c.broken_unless.ensures ∙ ap (λ fresh. least_after c.loop-state.least (breach_unless fresh Duplicate (mark_of c.name_of-name.result))) c.in_ok-fresh.ensures.added)
      (c.in_ok-state.ensures.least ∙ ap (λ s. least_after c.broken_unless.new.self (state_each (around_of c.args.self.now) s c.args.names.now.keys c.state-item.result)) c.loop-state.invariant.0),
)
