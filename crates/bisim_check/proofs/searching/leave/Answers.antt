use Rattle.std.proofs.Common.{◌+◌, ◌*◌, ap, arith}
use Rattle.argos_core.specs.Views.{shapes_of}
use Rattle.bisim_formula.specs.Formulas.{formula_size}
use Rattle.bisim_formula.specs.Views.{formula_of}
use Rattle.eqn_dd.proofs.Denotations.{adds_in_turn, adds_one}
use Rattle.bisim_check.proofs.SearchSteps.{denotes_by, left_behind}
use Rattle.bisim_check.proofs.searching.leave.Goals as goal

pub returns-in_err-lost-clause-adds : goal.returns-in_err-lost-clause-adds
returns-in_err-lost-clause-adds c =
    let n = 50 * formula_size (formula_of c.args.cert.now) in
    adds_in_turn n 1 (n + 2) (omega arith) c.formula_node.ensures.adds (adds_one c.not.ensures.made)

pub and-requires-clause-held_f : goal.and-requires-clause-held_f
and-requires-clause-held_f c = c.not.ensures.made.keeps.held c.args.drawn.now.pairs.0 (c.formula_node.ensures.adds.keeps.held c.args.drawn.now.pairs.0 c.requires.pairs)

pub returns-clause-adds : goal.returns-clause-adds
returns-clause-adds c =
    let n = 50 * formula_size (formula_of c.args.cert.now) in
    adds_in_turn (n + 1) 1 (n + 2) (omega arith) (adds_in_turn n 1 (n + 1) (omega arith) c.formula_node.ensures.adds (adds_one c.not.ensures.made)) (adds_one c.and.ensures.made)

pub returns-clause-node : goal.returns-clause-node
returns-clause-node c = left_behind c.args.drawn.now.pairs.0 c.requires.pairs c.formula_node.ensures.adds.keeps (denotes_by c.args.arena.now (formula_of c.args.cert.now) (ap shapes_of c.layout.ensures) (ap shapes_of c.layout-2.ensures) c.deref.ensures.value c.deref-2.ensures.value c.in_ok-kept.ensures.denotes) c.in_ok-lost.ensures.made c.and.ensures.made
