use Rattle.bisim_check.proofs.Differing.{same_more, first_found, same_all}
use Rattle.bisim_check.proofs.comparing.first_differing.Goals as goal

pub loop-place-preserved : goal.loop-place-preserved
loop-place-preserved c =
    same_more c.args.arena.now c.args.lefts.now c.args.rights.now c.args.values.now c.loop-place.place (record { 0 = 0 }) c.requires.same c.loop-place-test.true
    c.eval.result c.eval-in-loop-place.result c.eval.ensures.value c.eval-in-loop-place.ensures.value c.loop-place.invariant c.if-eval.false

pub returns-then-eval : goal.returns-then-eval
returns-then-eval c =
    first_found c.args.arena.now c.args.lefts.now c.args.rights.now c.args.values.now c.loop-place.place (record { 0 = 0 }) c.requires.same
    c.loop-place-test.true c.eval.result c.eval-in-loop-place.result c.eval.ensures.value c.eval-in-loop-place.ensures.value c.loop-place.invariant
    c.if-eval.true

pub returns : goal.returns
returns c =
    same_all c.args.arena.now c.args.lefts.now c.args.rights.now c.args.values.now c.loop-place.place c.requires.same c.loop-place-test.false
    c.loop-place.invariant
