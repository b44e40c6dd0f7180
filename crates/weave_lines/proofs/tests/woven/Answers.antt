use Rattle.std.proofs.Common.{arith}
use Rattle.weave_lines.proofs.SmallSystems.{small-system, has_room, is_short}
use Rattle.weave_lines.proofs.tests.woven.Goals as goal

pub join_advice-requires-clause-room : goal.join_advice-requires-clause-room
join_advice-requires-clause-room g c =
    has_room _ _ _ _ (small-system c.system-first.result.now c.expect-base.result c.system-first.ensures.system (omega arith) (omega arith) (omega arith) (omega arith))
    (small-system c.system-second.result.now c.expect-observer.result c.system-second.ensures.system (omega arith) (omega arith) (omega arith) (omega arith)) c.requires.count

pub join_advice-requires-clause-short : goal.join_advice-requires-clause-short
join_advice-requires-clause-short g c =
    is_short _ _ _ _ (small-system c.system-first.result.now c.expect-base.result c.system-first.ensures.system (omega arith) (omega arith) (omega arith) (omega arith))
    (small-system c.system-second.result.now c.expect-observer.result c.system-second.ensures.system (omega arith) (omega arith) (omega arith) (omega arith)) c.requires.count
