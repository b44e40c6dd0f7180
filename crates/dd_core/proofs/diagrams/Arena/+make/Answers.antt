use Rattle.std.proofs.Common.{ℕ, Ok, sym, subst, arith}
use Rattle.std.proofs.lemmas.Result.{err_from_is_err_and}
use Rattle.dd_core.specs.Arenas.{ArenaView}
use Rattle.dd_core.specs.inner.Choices.{MakesChoice}
use Rattle.dd_core.proofs.MakingChoices.{AreBranches, makes_settled, makes_result, low_held, low_smaller, after_low_fails, high_held, high_smaller, after_high_fails, variable_below, low_later, high_later, after_node_fails, node_is_result, after_node}
use Rattle.dd_core.proofs.diagrams.Arena.+make.Goals as goal
use Rattle.dd_core.proofs.diagrams.Arena.+make.Goals.{make_node-After-choice_child-with}

pub make-returns-in-Some : goal.make-returns-in-Some
make-returns-in-Some t c = makes_settled c.args.self.now c.args.choice c.in-Some.f c.requires.valid c.requires.held c.in-Some.ensures.some

pub make-returns-in-Some-cached : goal.make-returns-in-Some-cached
make-returns-in-Some-cached t c = makes_result c.args.self.now c.args.choice c.in-Some-cached.f c.requires.valid c.in-Some-cached.ensures

branches : (t : ℕ) (c : make_node-After-choice_child-with t) → AreBranches c.args.self.now c.args.choice c.first_variable-variable.result c.choice_child-without.result c.choice_child-with.result
branches t c = record {
  valid = c.requires.valid;
  held = c.requires.held;
  undecided = c.requires.undecided;
  variable = c.first_variable-variable.ensures;
  without = c.choice_child-without.ensures;
  with = c.choice_child-with.ensures;
}

pub make_node-make-requires : goal.make_node-make-requires
make_node-make-requires t c =
    let here = branches t (goal.at.make_node-make-requires t c).After-choice_child-with in
    (omega (arith, low_smaller here), (c.requires.valid, low_held here))

pub make_node-returns-in_err-low : goal.make_node-returns-in_err-low
make_node-returns-in_err-low t c =
    let here = branches t (goal.at.make_node-returns-in_err-low t c).After-choice_child-with in
    let p = err_from_is_err_and c.from_residual.result c.from_residual.ensures.1 in
    rw (p.1, p.2) (after_low_fails here c.in_err-low.ensures)

pub make_node-make-requires-2 : goal.make_node-make-requires-2
make_node-make-requires-2 t c =
    let here = branches t (goal.at.make_node-make-requires-2 t c).After-choice_child-with in
    let first = c.in_ok-low.ensures in
    (omega (arith, high_smaller here first), (first.made.arena, high_held here first))

pub make_node-returns-in_err-high : goal.make_node-returns-in_err-high
make_node-returns-in_err-high t c =
    let here = branches t (goal.at.make_node-returns-in_err-high t c).After-choice_child-with in
    let p = err_from_is_err_and c.from_residual-in_err-high.result c.from_residual-in_err-high.ensures.1 in
    rw (p.1, p.2) (after_high_fails here c.in_ok-low.ensures c.in_err-high.ensures)

pub make_node-mk-requires-clause-variable : goal.make_node-mk-requires-clause-variable
make_node-mk-requires-clause-variable t c =
    variable_below (branches t (goal.at.make_node-mk-requires-clause-variable t c).After-choice_child-with) c.in_ok-low.ensures c.in_ok-high.ensures

pub make_node-mk-requires-clause-low_later : goal.make_node-mk-requires-clause-low_later
make_node-mk-requires-clause-low_later t c =
    low_later (branches t (goal.at.make_node-mk-requires-clause-low_later t c).After-choice_child-with) c.in_ok-low.ensures c.in_ok-high.ensures

pub make_node-mk-requires-clause-high_later : goal.make_node-mk-requires-clause-high_later
make_node-mk-requires-clause-high_later t c =
    high_later (branches t (goal.at.make_node-mk-requires-clause-high_later t c).After-choice_child-with) c.in_ok-low.ensures c.in_ok-high.ensures

pub make_node-returns-in_err-f : goal.make_node-returns-in_err-f
make_node-returns-in_err-f t c =
    let here = branches t (goal.at.make_node-returns-in_err-f t c).After-choice_child-with in
    let p = err_from_is_err_and c.from_residual-in_err-f.result c.from_residual-in_err-f.ensures.1 in
    rw (p.1, p.2) (after_node_fails here c.in_ok-low.ensures c.in_ok-high.ensures c.in_err-f.ensures.made)

pub make_node-cache_result-requires : goal.make_node-cache_result-requires
make_node-cache_result-requires t c =
    node_is_result (branches t (goal.at.make_node-cache_result-requires t c).After-choice_child-with) c.in_ok-low.ensures c.in_ok-high.ensures c.in_ok-f.ensures.made c.in_ok-f.ensures.later

pub make_node-returns : goal.make_node-returns
make_node-returns t c =
    subst (λ (d : ArenaView). MakesChoice c.args.self.now d c.args.choice (Ok c.in_ok-f.f)) (sym c.cache_result.ensures)
    (after_node (branches t (goal.at.make_node-returns t c).After-choice_child-with) c.in_ok-low.ensures c.in_ok-high.ensures c.in_ok-f.ensures.made c.in_ok-f.ensures.later)
