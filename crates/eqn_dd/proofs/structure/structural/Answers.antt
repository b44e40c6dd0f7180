use Rattle.std.proofs.Common.{◌+◌, ◌*◌, List, length, ap, arith}
use Rattle.argos_core.specs.Views.{shapes_of}
use Rattle.eqn_dd.specs.Placed.{Register, register_variables}
use Rattle.eqn_dd.proofs.Denotations.{adds_fewer, adds_in_turn}
use Rattle.eqn_dd.proofs.StructureSteps.{all_words, layout_made}
use Rattle.eqn_dd.proofs.Variables.{registers_few_variables}
use Rattle.eqn_dd.proofs.structure.structural.Goals as goal

pub returns-in_err-words-clause-adds : goal.returns-in_err-words-clause-adds
returns-in_err-words-clause-adds c =
    let same = ap (λ (l : List Register). length (register_variables l)) c.deref.ensures.value in
    adds_fewer _ (128 * length c.args.layout.now.regs.items + c.args.arena.now.variables) (omega (arith, same, registers_few_variables c.args.arena.now.variables c.args.places.now.regs.items c.requires.places)) c.register_words.ensures.adds

pub memory_fits-requires-clause-words : goal.memory_fits-requires-clause-words
memory_fits-requires-clause-words c = rw c.deref-2.ensures.value (all_words c.in_ok-words.ensures.denote)

pub returns-clause-adds : goal.returns-clause-adds
returns-clause-adds c =
    let same = ap (λ (l : List Register). length (register_variables l)) c.deref.ensures.value in
    adds_in_turn _ _ (128 * length c.args.layout.now.regs.items + c.args.arena.now.variables)
    (omega (arith, same, ap length c.deref-3.ensures.value, registers_few_variables c.args.arena.now.variables c.args.places.now.regs.items c.requires.places)) c.in_ok-words.ensures.adds c.memory_fits.ensures.adds

pub returns-clause-denotes : goal.returns-clause-denotes
returns-clause-denotes c =
    layout_made c.args.places.now (shapes_of c.args.layout.now) c.memory_fits.result c.memory_fits.ensures.adds.keeps
    (rw c.deref.ensures.value at c.in_ok-words.ensures.denote)
    (rw (c.deref-2.ensures.value, c.deref-3.ensures.value) at c.memory_fits.ensures.denotes)
