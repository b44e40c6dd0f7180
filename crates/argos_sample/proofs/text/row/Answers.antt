use Rattle.std.proofs.Common.{◌≡◌, ◌∙◌, ◌+◌, ap, map, arith}
use Rattle.argos_grammar.specs.Views.{process_of}
use Rattle.argos_sample.specs.SampleForm.{halving_form}
use Rattle.argos_sample.proofs.Building.{one_more_made}
use Rattle.argos_sample.proofs.text.row.Goals as goal

pub loop-place-preserved : goal.loop-place-preserved
loop-place-preserved c =
    let from_start : c.loop-place.place ≡ 0 + c.loop-place.place = omega arith in
    ap (map process_of) (c.in_ok-push.ensures {u = tt}).items
    ∙ one_more_made process_of (halving_form c.args.count) c.loop-place.row.items c.in_ok-halving.field-0 0 c.loop-place.place c.loop-place.invariant
    (c.in_ok-halving.ensures {u = tt} ∙ ap (halving_form c.args.count) from_start)
