use Rattle.std.proofs.Common.{List, ℕ, ◌+◌, ◌<◌, slice_index_or, length, sym, subst}
use Rattle.eqn_dd.specs.Placed.{Register}
use Rattle.eqn_dd.proofs.RegisterSteps.{register_exists}
use Rattle.bisim_check.proofs.decoding.memory_of.Goals as goal

pub code_of-requires-clause-exist : goal.code_of-requires-clause-exist
code_of-requires-clause-exist c =
    let i = c.loop-first.first-index in
    let there = λ (inside : i < length c.args.places.now.regs.items). register_exists (length c.args.values.now) c.args.places.now.regs.items i (0, 0) inside c.requires.exist in
    subst (λ (regs : List Register). i < length regs → (k : ℕ) → k < (slice_index_or regs i (0, 0)).1 → (slice_index_or regs i (0, 0)).0 + k < length c.args.values.now)
    (sym c.deref-first-items.ensures.value) there c.loop-first-test.true
