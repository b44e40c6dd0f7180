use Rattle.std.proofs.Common.{◌<◌, ◌≡◌, [], length, map, get_or, set, sym, ap, ◌∙◌, arith}
use Rattle.std.proofs.lemmas.List.{length-map, get_or-map}
use Rattle.eqn_core.specs.inner.LineValues.{known}
use Rattle.eqn_core.specs.Solutions.{word_of}
use Rattle.eqn_core.proofs.Walks.{write_more}
use Rattle.eqn_core.proofs.stepper.take_words.Goals as goal

pub loop-k-preserved : goal.loop-k-preserved
loop-k-preserved c =
    let k = c.loop-k.k in
    let f = word_of (known [] c.args.words.now) in
    let next = c.args.next.now in
    let size : length (map f next) ≡ length next = length-map next f in
    let here : k < length next = omega arith in
    ap (λ z. set z k (f (get_or next k 0))) c.loop-k.invariant ∙ write_more (map f next) c.args.memory.now k (f (get_or next k 0)) 0 (omega arith) (omega arith) (sym (get_or-map f next k 0 0 here))
