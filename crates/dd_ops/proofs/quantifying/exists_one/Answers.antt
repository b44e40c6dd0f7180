use Rattle.std.proofs.lemmas.Result.{err_from_is_err_and}
use Rattle.dd_ops.proofs.Quantifiers.{one_fails, one_done}
use Rattle.dd_ops.proofs.quantifying.exists_one.Goals as goal

pub returns-in_err-with : goal.returns-in_err-with
returns-in_err-with c =
    let p = err_from_is_err_and c.from_residual-in_err-with.result c.from_residual-in_err-with.ensures.1 in
    rw (p.1, p.2) (one_fails c.requires.variable c.in_ok-without.ensures.made c.in_ok-without.ensures.fewer c.in_err-with.ensures.made c.in_err-with.ensures.fewer)

pub returns : goal.returns
returns c =
    one_done c.requires.variable c.requires.held c.in_ok-without.ensures.made c.in_ok-without.ensures.fewer c.in_ok-with.ensures.made c.in_ok-with.ensures.fewer c.or.ensures.made c.or.ensures.fewer
