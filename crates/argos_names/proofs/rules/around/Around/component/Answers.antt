use Rattle.std.proofs.Common.{ap}
use Rattle.argos_grammar.specs.Views.{component_of, marks_of, block_of}
use Rattle.argos_names.specs.inner.AroundViews.{around_of}
use Rattle.argos_names.proofs.Components.{after_component}
use Rattle.argos_names.proofs.rules.around.Around.component.Goals as goal

pub returns : goal.returns
returns c =
    after_component (around_of c.args.self.now) (component_of c.args.component.now) (marks_of c.deref.result.now) (marks_of c.deref-2.result.now) (block_of c.deref-3.result.now) c.is_earlier-fresh.result
    c.new-scope.result c.declare_all.new.scope c.declare_all-2.new.scope c.args.least.now c.broken_unless.new.self c.declare_all.new.least c.declare_all-2.new.least c.block.new.least
    (ap marks_of c.deref.ensures.value) (ap marks_of c.deref-2.ensures.value) (ap block_of c.deref-3.ensures.value)
    c.is_earlier-fresh.ensures c.broken_unless.ensures c.new-scope.ensures
    c.in_ok-declare_all.ensures.scope c.in_ok-declare_all.ensures.least c.in_ok-declare_all-2.ensures.scope c.in_ok-declare_all-2.ensures.least c.in_ok-block.ensures.least
