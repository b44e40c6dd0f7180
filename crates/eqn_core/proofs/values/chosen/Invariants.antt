use Rattle.std.proofs.Common.{◌≡◌, map, drop}
use Rattle.eqn_core.specs.inner.LineValues.{known}
use Rattle.eqn_core.specs.Solutions.{chosen_value}
use Rattle.eqn_core.specs.Views.{choice_of, case_of}
use Rattle.eqn_core.proofs.values.chosen.Given as goal

abbrev pub invariant-loop-case : goal.invariant-loop-case
invariant-loop-case l = chosen_value (known l.bits l.words) (map case_of (drop l.case-index l.cases)) (choice_of l.other) ≡ chosen_value (known l.bits l.words) (map case_of l.cases) (choice_of l.other)
