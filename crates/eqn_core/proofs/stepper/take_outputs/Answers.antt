use Rattle.std.proofs.Common.{◌<◌, ◌≡◌, [], false, length, map, get_or, set, sym, ap, ◌∙◌, arith}
use Rattle.std.proofs.lemmas.List.{length-map, get_or-map}
use Rattle.eqn_core.specs.inner.LineValues.{known}
use Rattle.eqn_core.specs.Solutions.{bit_of}
use Rattle.eqn_core.proofs.Walks.{write_more}
use Rattle.eqn_core.proofs.stepper.take_outputs.Goals as goal

pub loop-k-preserved : goal.loop-k-preserved
loop-k-preserved c =
    let k = c.loop-k.k in
    let f = bit_of (known c.args.bits.now []) in
    let outs = c.args.outs.now in
    let size : length (map f outs) ≡ length outs = length-map outs f in
    let here : k < length outs = omega arith in
    c.set.ensures ∙ ap (λ z. set z k (f (get_or outs k 0))) c.loop-k.invariant ∙ write_more (map f outs) c.args.output.now k (f (get_or outs k 0)) false (omega arith) (omega arith) (sym (get_or-map f outs k 0 false here))
