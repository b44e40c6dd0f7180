use Rattle.std.proofs.Common.{◌+◌, ◌++◌, ◌∷◌, [], List, Bool, ℕ, slice_index_or, drop, sym, ap, ◌∙◌, subst}
use Rattle.eqn_completion.specs.Binary.{number}
use Rattle.instant_verdict.proofs.DigitsRead.{AreCodesSoFar, codes_more}
use Rattle.instant_verdict.proofs.decoding.codes_of.Goals as goal

pub loop-width-preserved : goal.loop-width-preserved
loop-width-preserved c =
    let i = c.loop-width.width-index in
    let w = slice_index_or c.args.widths.now i 0 in
    let rest = c.loop-width.rest.now in
    let code = c.code_of.ensures ∙ ap number c.split_at.ensures.front in
    let codes = c.in_ok-push.ensures.items ∙ ap (λ n. c.loop-width.codes.items ++ n ∷ []) code in
    subst (λ (behind : List Bool). AreCodesSoFar c.args.widths.now c.args.bits.now (i + 1) c.push.new.self.items behind) (sym c.split_at.ensures.back)
    (subst (λ (read : List ℕ). AreCodesSoFar c.args.widths.now c.args.bits.now (i + 1) read (drop w rest)) (sym codes)
    (codes_more c.args.widths.now c.args.bits.now i c.loop-width.codes.items rest c.loop-width-test.true c.loop-width.invariant))
