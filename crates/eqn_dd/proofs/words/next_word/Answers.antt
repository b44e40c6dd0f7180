use Rattle.std.proofs.Common.{List, ap, sym, subst, arith}
use Rattle.dd_core.specs.declared.nodes.NodeId.{NodeId}
use Rattle.eqn_dd.proofs.Denotations.{adds_in_turn}
use Rattle.eqn_dd.proofs.WordSteps.{NextSoFar, next_none, next_more, next_all}
use Rattle.eqn_dd.proofs.words.next_word.Goals as goal

pub loop-place-init : goal.loop-place-init
loop-place-init c = subst (λ (l : List NodeId). NextSoFar c.args.arena.now c.args.word.now 0 c.args.arena.now l 1) (sym c.in_ok-next.ensures.items) (next_none c.args.arena.now c.args.word.now c.variables.ensures.arena c.requires)

pub returns-in_err-sum-clause-adds : goal.returns-in_err-sum-clause-adds
returns-in_err-sum-clause-adds c = let adds = c.loop-place.invariant.adds in adds_in_turn _ 3 48 (omega arith) adds c.add_carry.ensures.adds

pub loop-place-preserved : goal.loop-place-preserved
loop-place-preserved c =
    next_more c.index-digit.result.now c.loop-place-test.true c.requires (ap (λ (f : NodeId). f.0) c.index-digit.ensures) c.loop-place.invariant
    c.in_ok-sum.ensures.adds c.in_ok-sum.ensures.sum c.in_ok-sum.ensures.over

pub returns-clause-denotes : goal.returns-clause-denotes
returns-clause-denotes c = next_all (omega arith) c.requires c.loop-place.invariant
