use Rattle.std.proofs.Common.{arith}
use Rattle.argos_core.specs.Views.{shapes_of}
use Rattle.bisim_check.specs.inner.Nodes.{codes_at}
use Rattle.bisim_formula.specs.Formulas.{range_at, register_code}
use Rattle.bisim_check.proofs.Atoms.{elapsed_read, elapsed_none, elapsed_over}
use Rattle.bisim_check.proofs.formula.elapsed_node.Goals as goal

pub returns-in_default-clause-denotes : goal.returns-in_default-clause-denotes
returns-in_default-clause-denotes c =
    elapsed_none (range_at (shapes_of c.args.layout.now) c.args.register.0 c.args.state) c.args.elapsed
    (λ x. register_code (codes_at c.args.arena.now c.args.words.now x) c.args.register.0) c.variables.ensures.arena c.in_default.ensures

pub returns-in-Some-checked_add-clause-denotes : goal.returns-in-Some-checked_add-clause-denotes
returns-in-Some-checked_add-clause-denotes c =
    elapsed_read c.args.words.now c.args.register.0 c.within.result (range_at (shapes_of c.args.layout.now) c.args.register.0 c.args.state) c.in-Some.first
    c.in-Some.field-0-1 c.args.elapsed c.in-Some-checked_add.code
    (c.word_of.ensures c.args.arena.now c.variables.ensures.arena c.requires) c.within.ensures.adds c.in-Some.ensures c.in-Some-checked_add.ensures.1
    c.within.ensures.denotes

pub returns-in-None-clause-denotes : goal.returns-in-None-clause-denotes
returns-in-None-clause-denotes c =
    elapsed_over c.args.words.now c.args.register.0 (range_at (shapes_of c.args.layout.now) c.args.register.0 c.args.state) c.in-Some.first c.in-Some.field-0-1 c.args.elapsed c.variables.ensures.arena c.requires c.in-Some.ensures (let over = c.in-None.ensures in omega (arith, over))
