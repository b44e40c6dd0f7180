use Rattle.std.proofs.Common.{sym, arith, ◌∙◌}
use Rattle.std.proofs.lemmas.Bool.{eqb-true, eqb-false}
use Rattle.eqn_dd.proofs.Denotations.{adds_one, adds_in_turn}
use Rattle.verdict_search.proofs.TakingSteps.{taken_false, taken_true}
use Rattle.verdict_search.proofs.taking.take_one.Goals as goal

pub returns-in_err-rest-clause-adds : goal.returns-in_err-rest-clause-adds
returns-in_err-rest-clause-adds c = adds_in_turn 1 1 2 (omega arith) (adds_one c.in_ok-without.ensures.made) (adds_one c.and.ensures.made)

pub returns-then-eq-clause-adds : goal.returns-then-eq-clause-adds
returns-then-eq-clause-adds c = adds_in_turn 1 1 2 (omega arith) (adds_one c.in_ok-without.ensures.made) (adds_one c.in_ok-rest.ensures.made)

pub returns-then-eq-clause-taken : goal.returns-then-eq-clause-taken
returns-then-eq-clause-taken c = taken_true c.requires.held_q c.requires.held_g c.in_ok-without.ensures.made c.in_ok-rest.ensures.made (eqb-true c.in_ok-rest.rest.0 0 (sym c.eq.ensures ∙ c.if-eq.true))

pub returns-else-eq-clause-adds : goal.returns-else-eq-clause-adds
returns-else-eq-clause-adds c = adds_in_turn 1 1 2 (omega arith) (adds_one c.in_ok-without.ensures.made) (adds_one c.in_ok-rest.ensures.made)

pub returns-else-eq-clause-taken : goal.returns-else-eq-clause-taken
returns-else-eq-clause-taken c = taken_false c.requires.held_q c.requires.held_g c.in_ok-without.ensures.made c.in_ok-rest.ensures.made (eqb-false c.in_ok-rest.rest.0 0 (sym c.eq.ensures ∙ c.if-eq.false))
