use Rattle.argos_names.specs.inner.AroundViews.{around_of}
use Rattle.argos_names.proofs.Components.{named_earlier}
use Rattle.argos_names.proofs.rules.around.Around.is_earlier.Goals as goal

pub returns : goal.returns
returns c = named_earlier c.args.name.now (around_of c.args.self.now).earlier c.named.result c.is_some.result c.named.ensures c.is_some.ensures
