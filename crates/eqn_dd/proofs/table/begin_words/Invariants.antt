use Rattle.std.proofs.Common.{◌-◌, map, length, vec_len}
use Rattle.eqn_dd.specs.Placed.{register_at}
use Rattle.eqn_dd.proofs.Beginning.{WordsSoFar}
use Rattle.eqn_dd.proofs.table.begin_words.Given as goal

abbrev pub invariant-fill : goal.invariant-fill
invariant-fill l = WordsSoFar l.initial.arena (λ x. map (register_at x) l.regs) (length l.regs) l.count (map (λ w. w.items) l.words.items)

abbrev pub decreases-fill : goal.decreases-fill
decreases-fill l = l.count - vec_len l.words
