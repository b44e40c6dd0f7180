use Rattle.std.proofs.Common.{◌-◌, map, ap, ◌∙◌, arith}
use Rattle.std.proofs.lemmas.List.{map-append}
use Rattle.eqn_core.specs.Views.{line_of}
use Rattle.cycle_solve.proofs.DigitSteps.{digit_more}
use Rattle.cycle_solve.proofs.digits.push_register.Goals as goal

pub loop-place-preserved : goal.loop-place-preserved
loop-place-preserved c =
    let pushed = ap (map line_of) c.in_ok-push.ensures.items ∙ map-append line_of c.loop-place.lines.items _ in
    digit_more c.args.register c.loop-place.place (c.loop-place.place - 1)
    (map line_of c.loop-place.lines.items) (map line_of c.push.new.self.items) (omega
    (arith, c.loop-place-test.true)) pushed ∙ c.loop-place.invariant
