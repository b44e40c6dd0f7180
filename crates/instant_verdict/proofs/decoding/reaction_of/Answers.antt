use Rattle.std.proofs.Common.{length, arith, ap, ◌∙◌}
use Rattle.std.proofs.lemmas.List.{length-drop}
use Rattle.eqn_completion.specs.Binary.{digits_in}
use Rattle.instant_verdict.proofs.DigitsRead.{digits-sixteen}
use Rattle.instant_verdict.proofs.decoding.reaction_of.Goals as goal

pub codes_of-requires-clause-sized : goal.codes_of-requires-clause-sized
codes_of-requires-clause-sized c =
    let count = length c.args.digits.now in
    let all = ap digits_in c.requires.digits ∙ digits-sixteen count in
    let behind = ap length c.split_at.ensures.back ∙ length-drop c.args.outputs c.args.bits.now in
    omega (arith, all, behind, c.requires.sized)
