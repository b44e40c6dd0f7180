use Rattle.argos_core.specs.Views.{numbers}
use Rattle.instant_check.proofs.EffectLists.{one_set, listed_from, true_and_false}
use Rattle.instant_check.proofs.effects.are_one_set.Goals as goal
use Rattle.std.proofs.Common.{sym}

pub returns-then-all_listed : goal.returns-then-all_listed
returns-then-all_listed c = (
  λ e. one_set c.args.count (numbers c.args.first.now) (numbers c.args.second.now) (c.all_listed.ensures.0 c.if-all_listed.true) (c.all_listed-then-all_listed.ensures.0 e),
  λ same. c.all_listed-then-all_listed.ensures.1 (listed_from c.args.count (numbers c.args.second.now) (numbers c.args.first.now) (sym same)),
)

pub returns-else-all_listed : goal.returns-else-all_listed
returns-else-all_listed c = (
  λ e. absurd (true_and_false e c.if-all_listed.false),
  λ same. c.all_listed.ensures.1 (listed_from c.args.count (numbers c.args.first.now) (numbers c.args.second.now) same),
)
