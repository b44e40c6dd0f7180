use Rattle.std.proofs.Common.{◌+◌, ◌*◌, ℕ, length, map, arith}
use Rattle.argos_core.specs.Sizes.{transitions_size}
use Rattle.argos_core.specs.Views.{transition_of}
use Rattle.instant_check.proofs.Adding.{adds_in_turn}
use Rattle.instant_check.proofs.job.find_meeting.Goals as goal

pub returns-clause-adds : goal.returns-clause-adds
returns-clause-adds c =
    let guards : ℕ = 2 * transitions_size (map transition_of c.args.transitions.now) in
    let pairs : ℕ = length c.args.transitions.now * (length c.args.transitions.now + 2) in
    adds_in_turn guards pairs (guards + pairs) (omega arith) c.guard_diagrams.ensures.adds c.first_meeting.ensures.adds
