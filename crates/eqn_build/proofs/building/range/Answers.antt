use Rattle.std.proofs.Common.{ℕ, List, ◌∷◌, [], ◌++◌, ◌+◌, ◌-◌, ◌∙◌, ap, sym, append_assoc}
use Rattle.std.specs.List.{range_with_len}
use Rattle.eqn_build.proofs.ModuleRoom.{range-next}
use Rattle.eqn_build.proofs.building.range.Goals as goal

pub loop-number-preserved : goal.loop-number-preserved
loop-number-preserved c =
    let done = c.loop-number.numbers.items in
    let number = c.loop-number.number in
    let end = c.args.first + c.args.count in
    let rest = range_with_len (number + 1) (end - (number + 1)) in
    ap (λ (l : List ℕ). l ++ rest) c.in_ok-push.ensures.items ∙ append_assoc done (number ∷ []) rest ∙ ap (λ (l : List ℕ). done ++ l) (sym (range-next number end c.loop-number-test.true)) ∙ c.loop-number.invariant
