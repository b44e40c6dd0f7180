use Rattle.std.proofs.Common.{map, arith}
use Rattle.argos_core.specs.Views.{register_shape_of}
use Rattle.eqn_dd.proofs.Denotations.{adds_one, adds_in_turn}
use Rattle.dd_core.proofs.Composing.{Keeps-trans}
use Rattle.eqn_dd.proofs.StructureSteps.{register_made, all_words_later}
use Rattle.eqn_dd.proofs.structure.register_fits.Goals as goal

pub returns-in_err-is_above-clause-adds : goal.returns-in_err-is_above-clause-adds
returns-in_err-is_above-clause-adds c = adds_in_turn 40 40 123 (omega arith) c.in_ok-is_low.ensures.adds c.within-2.ensures.adds

pub parent_is_on-requires : goal.parent_is_on-requires
parent_is_on-requires c =
    all_words_later (map (λ w. w.items) c.args.words.now)
    (Keeps-trans c.args.arena.now c.within.new.arena c.within-2.new.arena c.in_ok-is_low.ensures.adds.keeps c.in_ok-is_above.ensures.adds.keeps) c.requires.words

pub returns-in_err-on-clause-adds : goal.returns-in_err-on-clause-adds
returns-in_err-on-clause-adds c = adds_in_turn 80 40 123 (omega arith) (adds_in_turn 40 40 80 (omega arith) c.in_ok-is_low.ensures.adds c.in_ok-is_above.ensures.adds) c.parent_is_on.ensures.adds

pub returns-in_err-off-clause-adds : goal.returns-in_err-off-clause-adds
returns-in_err-off-clause-adds c =
    adds_in_turn 120 1 123 (omega arith)
    (adds_in_turn 80 40 120 (omega arith) (adds_in_turn 40 40 80 (omega arith) c.in_ok-is_low.ensures.adds c.in_ok-is_above.ensures.adds) c.in_ok-on.ensures.adds)
    (adds_one c.not.ensures.made)

pub returns-in_err-agrees-clause-adds : goal.returns-in_err-agrees-clause-adds
returns-in_err-agrees-clause-adds c =
    adds_in_turn 121 1 123 (omega arith)
    (adds_in_turn 120 1 121 (omega arith)
    (adds_in_turn 80 40 120 (omega arith) (adds_in_turn 40 40 80 (omega arith) c.in_ok-is_low.ensures.adds c.in_ok-is_above.ensures.adds) c.in_ok-on.ensures.adds)
    (adds_one c.in_ok-off.ensures.made))
    (adds_one c.ite.ensures.made)

pub returns-clause-adds : goal.returns-clause-adds
returns-clause-adds c =
    adds_in_turn 122 1 123 (omega arith)
    (adds_in_turn 121 1 122 (omega arith)
    (adds_in_turn 120 1 121 (omega arith)
    (adds_in_turn 80 40 120 (omega arith) (adds_in_turn 40 40 80 (omega arith) c.in_ok-is_low.ensures.adds c.in_ok-is_above.ensures.adds) c.in_ok-on.ensures.adds)
    (adds_one c.in_ok-off.ensures.made))
    (adds_one c.in_ok-agrees.ensures.made))
    (adds_one c.and.ensures.made)

pub returns-clause-denotes : goal.returns-clause-denotes
returns-clause-denotes c =
    register_made (map (λ w. w.items) c.args.words.now) (register_shape_of c.args.shape.now) c.requires.words c.requires.word
    c.in_ok-is_low.ensures.adds c.in_ok-is_low.ensures.denotes c.in_ok-is_above.ensures.adds c.in_ok-is_above.ensures.denotes c.in_ok-on.ensures.adds c.in_ok-on.ensures.denotes c.in_ok-off.ensures.made c.in_ok-agrees.ensures.made
    c.and.ensures.made
