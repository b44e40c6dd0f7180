use Rattle.std.proofs.Common.{ℕ, Ok, sym, ◌∙◌, subst, arith}
use Rattle.std.proofs.lemmas.Result.{err_from_is_err_and}
use Rattle.dd_core.specs.Arenas.{ArenaView}
use Rattle.dd_ops.specs.inner.Restricting.{MakesRestriction}
use Rattle.dd_ops.proofs.Restrictions.{TestsEarlier, makes_constant, makes_later, makes_child, makes_result, low_held, low_smaller, after_low_fails, high_held, high_smaller, still_below, after_high_fails, low_later, high_later, after_node_fails, node_is_result, after_node}
use Rattle.dd_ops.proofs.restricting.+restrict.Goals as goal
use Rattle.dd_ops.proofs.restricting.+restrict.Goals.{restrict_node-After-restrict_from}

pub restrict_from-returns-in_default : goal.restrict_from-returns-in_default
restrict_from-returns-in_default t c =
    makes_constant c.args.arena.now c.args.asked c.node.ensures.arena c.requires.held (sym c.node.ensures.node ∙ c.in_default.is) c.requires.variable

pub restrict_from-returns-then-node-asked : goal.restrict_from-returns-then-node-asked
restrict_from-returns-then-node-asked t c =
    makes_later c.args.arena.now c.args.asked c.in-Some.node c.node.ensures.arena (sym c.node.ensures.node ∙ c.in-Some.is) (omega arith)

pub restrict_from-returns-then-node-asked-2 : goal.restrict_from-returns-then-node-asked-2
restrict_from-returns-then-node-asked-2 t c =
    makes_child c.args.arena.now c.args.asked c.child.result c.in-Some.node c.node.ensures.arena (sym c.node.ensures.node ∙ c.in-Some.is) c.if-node-asked-2.true c.child.ensures

pub restrict_from-returns-in-Some-cached : goal.restrict_from-returns-in-Some-cached
restrict_from-returns-in-Some-cached t c = makes_result c.args.arena.now c.args.asked c.in-Some-cached.g c.node.ensures.arena c.in-Some-cached.ensures

pub restrict_node-restrict_from-requires : goal.restrict_node-restrict_from-requires
restrict_node-restrict_from-requires t c =
    let here : TestsEarlier c.args.asked.variable c.args.arena.now c.args.asked.f c.args.node = record { valid = c.requires.valid; is = c.requires.node; earlier = c.requires.earlier } in
    (omega (arith, low_smaller c.args.asked.value here), (low_held c.args.asked.value here, c.requires.variable))

earlier : (t : ℕ) (c : restrict_node-After-restrict_from t) → TestsEarlier c.args.asked.variable c.args.arena.now c.args.asked.f c.args.node
earlier t c = record { valid = c.requires.valid; is = c.requires.node; earlier = c.requires.earlier }

pub restrict_node-returns-in_err-low : goal.restrict_node-returns-in_err-low
restrict_node-returns-in_err-low t c =
    let p = err_from_is_err_and c.from_residual.result c.from_residual.ensures.1 in
    let here = earlier t (goal.at.restrict_node-returns-in_err-low t c).After-restrict_from in
    rw (p.1, p.2) (after_low_fails c.args.asked.value here c.in_err-low.ensures)

pub restrict_node-restrict_from-requires-2 : goal.restrict_node-restrict_from-requires-2
restrict_node-restrict_from-requires-2 t c =
    let here = earlier t (goal.at.restrict_node-restrict_from-requires-2 t c).After-restrict_from in
    let b = c.args.asked.value in let first = c.in_ok-low.ensures in
    (omega (arith, high_smaller b here first), (high_held b here first, still_below b here first c.requires.variable))

pub restrict_node-returns-in_err-high : goal.restrict_node-returns-in_err-high
restrict_node-returns-in_err-high t c =
    let p = err_from_is_err_and c.from_residual-in_err-high.result c.from_residual-in_err-high.ensures.1 in
    let here = earlier t (goal.at.restrict_node-returns-in_err-high t c).After-restrict_from in
    rw (p.1, p.2) (after_high_fails c.args.asked.value here c.in_ok-low.ensures c.in_err-high.ensures)

pub restrict_node-mk-requires-clause-low_later : goal.restrict_node-mk-requires-clause-low_later
restrict_node-mk-requires-clause-low_later t c =
    low_later c.args.asked.value (earlier t (goal.at.restrict_node-mk-requires-clause-low_later t c).After-restrict_from) c.in_ok-low.ensures c.in_ok-high.ensures

pub restrict_node-mk-requires-clause-high_later : goal.restrict_node-mk-requires-clause-high_later
restrict_node-mk-requires-clause-high_later t c =
    high_later c.args.asked.value (earlier t (goal.at.restrict_node-mk-requires-clause-high_later t c).After-restrict_from) c.in_ok-low.ensures c.in_ok-high.ensures

pub restrict_node-returns-in_err-g : goal.restrict_node-returns-in_err-g
restrict_node-returns-in_err-g t c =
    let p = err_from_is_err_and c.from_residual-in_err-g.result c.from_residual-in_err-g.ensures.1 in
    let here = earlier t (goal.at.restrict_node-returns-in_err-g t c).After-restrict_from in
    rw (p.1, p.2) (after_node_fails c.args.asked.value here c.in_ok-low.ensures c.in_ok-high.ensures c.in_err-g.ensures.made)

pub restrict_node-cache_result-requires : goal.restrict_node-cache_result-requires
restrict_node-cache_result-requires t c =
    node_is_result c.args.asked.value (earlier t (goal.at.restrict_node-cache_result-requires t c).After-restrict_from) c.in_ok-low.ensures c.in_ok-high.ensures c.in_ok-g.ensures.made c.in_ok-g.ensures.later

pub restrict_node-returns : goal.restrict_node-returns
restrict_node-returns t c =
    subst (λ (d : ArenaView). MakesRestriction c.args.arena.now d c.args.asked (Ok c.in_ok-g.g)) (sym c.cache_result.ensures)
    (after_node c.args.asked.value (earlier t (goal.at.restrict_node-returns t c).After-restrict_from) c.in_ok-low.ensures c.in_ok-high.ensures c.in_ok-g.ensures.made c.in_ok-g.ensures.later)
