use Rattle.std.proofs.Common.{◌++◌, length, drop, replicate, ap, ◌∙◌}
use Rattle.std.proofs.lemmas.List.{drop-replicate}
use Rattle.argos_base.proofs.name.padded.Goals as goal

pub returns : goal.returns
returns c =
    let bytes = c.args.bytes.now in
    ap (λ z. z ++ drop (length bytes) (replicate 64 0)) c.copy_from_slice.ensures.after ∙ ap (λ z. bytes ++ z) (drop-replicate (length bytes) 64 0)
