use Rattle.std.proofs.Common.{◌+◌, ◌*◌, map, sym, subst, refl, arith, length}
use Rattle.std.proofs.lemmas.List.{length-map}
use Rattle.argos_core.specs.Views.{register_shape_of}
use Rattle.eqn_dd.specs.Denoting.{IsWord}
use Rattle.eqn_dd.proofs.Denotations.{adds_one, adds_in_turn, is_word_later}
use Rattle.eqn_dd.proofs.StructureSteps.{all_words_later, item_there, fitting_none, fitting_more, fitting_all}
use Rattle.eqn_dd.proofs.structure.memory_fits.Goals as goal

pub loop-register-init : goal.loop-register-init
loop-register-init c = fitting_none c.args.arena.now (map (λ w. w.items) c.args.words.now) (map register_shape_of c.args.shapes.now) c.variables.ensures.arena

pub register_fits-requires-clause-words : goal.register_fits-requires-clause-words
register_fits-requires-clause-words c = all_words_later (map (λ w. w.items) c.args.words.now) c.loop-register.invariant.adds.keeps c.requires.words

pub register_fits-requires-clause-word : goal.register_fits-requires-clause-word
register_fits-requires-clause-word c =
    let at = item_there _ c.args.words.now c.loop-register.register c.index-words-register.result c.deref.result.now (omega (arith, c.requires.sized)) c.index-words-register.is c.deref.ensures.value in
    is_word_later c.loop-register.invariant.adds.keeps (subst (IsWord c.args.arena.now) (sym at) (c.requires.words c.loop-register.register c.deref.result.now (omega (arith, c.requires.sized, length-map c.args.words.now (λ w. w.items)))))

pub loop-register-preserved : goal.loop-register-preserved
loop-register-preserved c =
    let at = item_there _ c.args.words.now c.loop-register.register c.index-words-register.result c.deref.result.now (omega (arith, c.requires.sized)) c.index-words-register.is c.deref.ensures.value in
    let shape_at = item_there register_shape_of c.args.shapes.now c.loop-register.register c.index-shapes-register.result (register_shape_of c.index-shapes-register.result) c.loop-register-test.true c.index-shapes-register.is refl in
    fitting_more (omega (arith, length-map c.args.shapes.now register_shape_of)) (omega (arith, c.requires.sized, length-map c.args.shapes.now register_shape_of, length-map c.args.words.now (λ w. w.items))) c.requires.words shape_at at c.loop-register.invariant
    c.in_ok-fit.ensures.adds c.in_ok-fit.ensures.denotes c.in_ok-fits.ensures.made

pub returns-clause-denotes : goal.returns-clause-denotes
returns-clause-denotes c =
    fitting_all (omega (arith, length-map c.args.shapes.now register_shape_of)) (omega (arith, c.requires.sized, length-map c.args.shapes.now register_shape_of, length-map c.args.words.now (λ w. w.items))) c.loop-register.invariant

pub returns-in_err-fit-clause-adds : goal.returns-in_err-fit-clause-adds
returns-in_err-fit-clause-adds c = adds_in_turn (124 * c.loop-register.register) 123 (124 * length c.args.shapes.now) (omega arith) c.loop-register.invariant.adds c.register_fits.ensures.adds

pub returns-in_err-fits-clause-adds : goal.returns-in_err-fits-clause-adds
returns-in_err-fits-clause-adds c =
    adds_in_turn (124 * c.loop-register.register + 123) 1 (124 * length c.args.shapes.now) (omega arith)
    (adds_in_turn (124 * c.loop-register.register) 123 (124 * c.loop-register.register + 123) (omega arith) c.loop-register.invariant.adds c.in_ok-fit.ensures.adds) (adds_one c.and.ensures.made)
