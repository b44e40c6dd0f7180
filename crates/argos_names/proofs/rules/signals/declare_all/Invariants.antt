use Rattle.std.proofs.Common.{◌≡◌, drop}
use Rattle.argos_names.specs.inner.SortViews.{sort_of}
use Rattle.argos_names.proofs.Signals.{names_after, least_declaring}
use Rattle.argos_names.proofs.rules.signals.declare_all.Given as goal

-- the scope and the least so far, and the signals that are left
abbrev pub invariant-loop-signal : goal.invariant-loop-signal
invariant-loop-signal l = (names_after (sort_of l.sort) (drop l.signal-index l.signals) l.scope ≡ names_after (sort_of l.sort) l.signals l.initial.scope)
    × (least_declaring (sort_of l.sort) l.scope l.least (drop l.signal-index l.signals) ≡ least_declaring (sort_of l.sort) l.initial.scope l.initial.least l.signals)
