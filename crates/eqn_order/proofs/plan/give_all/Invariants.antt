use Rattle.std.proofs.Common.{◌≡◌, drop}
use Rattle.eqn_order.specs.inner.Sources.{all_given}
use Rattle.eqn_order.specs.inner.Views.{origins_from}
use Rattle.eqn_order.proofs.plan.give_all.Given as goal

abbrev pub invariant-loop-bit : goal.invariant-loop-bit
invariant-loop-bit l = all_given (origins_from l.sources) (drop l.bit-index l.bits) ≡ all_given (origins_from l.initial.sources) l.bits
