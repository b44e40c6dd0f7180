use Rattle.std.proofs.Common.{arith}
use Rattle.std.proofs.lemmas.Grind.{common_steps}
use Rattle.argos_base.proofs.Pieces.{taken_front}
use Rattle.argos_base.proofs.fakes.Rest.take.Goals as goal

pub returns-clause-taken : goal.returns-clause-taken
returns-clause-taken c =
    taken_front c.args.self.now.bytes.items c.copy_from_slice.new.self _ c.args.self.now.at c.min-count.result (grind (arith, common_steps, c.copy_from_slice.ensures.after)) (grind (arith, common_steps))
