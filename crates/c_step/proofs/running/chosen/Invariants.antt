use Rattle.std.proofs.Common.{◌≡◌, map, drop, []}
use Rattle.eqn_core.specs.Views.{choice_of, case_of}
use Rattle.c_step.specs.CRuns.{chain_value}
use Rattle.c_step.specs.inner.Ranges.{arrays}
use Rattle.c_step.proofs.running.chosen.Given as goal

abbrev pub invariant-loop-case : goal.invariant-loop-case
invariant-loop-case l = chain_value (arrays l.words l.bits []) (map case_of (drop l.case-index l.cases)) (choice_of l.other) ≡ chain_value (arrays l.words l.bits []) (map case_of l.cases) (choice_of l.other)
