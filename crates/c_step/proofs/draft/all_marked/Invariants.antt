use Rattle.std.proofs.Common.{◌≡◌, true}
use Rattle.std.specs.Prelude.{nat_eq}
use Rattle.std.specs.HashSet.{contains}
use Rattle.c_step.specs.inner.Drafts.{all_marked}
use Rattle.c_step.proofs.draft.all_marked.Given as goal

abbrev pub invariant-loop-number : goal.invariant-loop-number
invariant-loop-number l = all_marked l.number-counter (contains nat_eq l.marks) ≡ true
