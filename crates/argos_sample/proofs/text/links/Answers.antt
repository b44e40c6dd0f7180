use Rattle.std.proofs.Common.{◌≡◌, ◌∙◌, ◌+◌, ◌-◌, ap, map, arith, ℕ}
use Rattle.std.specs.List.{range_with_len}
use Rattle.argos_grammar.specs.Forms.{Mark}
use Rattle.argos_grammar.specs.Views.{mark_of}
use Rattle.argos_sample.specs.SampleForm.{mark, inner_name}
use Rattle.argos_sample.proofs.Building.{one_more_made}
use Rattle.argos_sample.proofs.text.links.Goals as goal

abbrev made : ℕ → Mark
made i = mark (inner_name i)

pub loop-place-preserved : goal.loop-place-preserved
loop-place-preserved c =
    let first = c.loop-place.auto.place in
    let from_start : c.loop-place.place ≡ 1 + (c.loop-place.place - 1) = omega (arith, first) in
    let next : c.loop-place.place - 1 + 1 ≡ c.loop-place.place + 1 - 1 = omega (arith, first) in
    ap (map mark_of) (c.in_ok-push.ensures {u = tt}).items
    ∙ one_more_made mark_of made c.loop-place.links.items c.in_ok-signal.field-0 1 (c.loop-place.place - 1) c.loop-place.invariant (c.in_ok-signal.ensures {u = tt} ∙ ap made from_start)
    ∙ ap (λ (k : ℕ). map made (range_with_len 1 k)) next

pub returns : goal.returns
returns c =
    let last : c.loop-place.place - 1 ≡ c.args.count - 1 = omega (arith, c.loop-place-test.false, c.loop-place.auto.place-end c.requires.least) in
    c.loop-place.invariant ∙ ap (λ (k : ℕ). map made (range_with_len 1 k)) last
