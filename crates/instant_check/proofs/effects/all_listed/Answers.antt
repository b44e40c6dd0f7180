use Rattle.std.proofs.Common.{get_or, sym, refl}
use Rattle.instant_check.proofs.EffectLists.{listed_all, lists_at, true_and_false}
use Rattle.instant_check.proofs.effects.all_listed.Goals as goal

pub returns-then-not-lists : goal.returns-then-not-lists
returns-then-not-lists c = (
  λ e. absurd (true_and_false e refl),
  λ all.
      absurd (true_and_false (all (get_or c.args.signals.now c.loop-signal.signal-index (record { 0 = 0 })).0 c.if-signal-count.true (lists_at c.args.signals.now c.loop-signal.signal-index (record { 0 = 0 }) c.loop-signal-test.true)) (sym c.if-not-lists.ensures)),
)

pub returns : goal.returns
returns c = (λ e. listed_all c.args.count c.loop-signal.signal-index c.args.signals.now c.args.others.now c.loop-signal-test.false c.loop-signal.invariant, λ all. refl)
