-- What a diagram of the bad values tells.
use Rattle.std.proofs.Common.{◌+◌, length, take}
use Rattle.eqn_completion.specs.Binary.{digits_in}
use Rattle.eqn_verdict.specs.Laws.{InstantFinds}
use Rattle.eqn_verdict.specs.Verdicts.{is_bad}
use Rattle.eqn_verdict.proofs.Steps.{least_is_first, none_is_false}
use Rattle.eqn_verdict.proofs.Verdict.{verdict_is_one, verdict_is_first_bad}

pub instant_finds : InstantFinds
instant_finds E order cyclic layout widths structural consistent results h orderable plan shapes wide found splits =
    let a = digits_in widths + E.inputs in
    let c = length cyclic in (
      λ none. (verdict_is_one E order cyclic layout widths structural consistent results orderable plan shapes wide found).0 (λ y ys. none_is_false a c h (is_bad c structural consistent results) splits none y ys),
      λ z is. verdict_is_first_bad E order cyclic layout widths structural consistent results orderable plan shapes wide found (take a z) (least_is_first a c h (is_bad c structural consistent results) z splits is),
    )
