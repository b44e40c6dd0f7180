use Rattle.argos_core.specs.Views.{shapes_of}
use Rattle.bisim_check.specs.inner.Nodes.{codes_at}
use Rattle.bisim_formula.specs.Formulas.{range_at, register_code}
use Rattle.bisim_check.proofs.Atoms.{state_none}
use Rattle.bisim_check.proofs.formula.state_node.Goals as goal

pub returns-in-None-clause-denotes : goal.returns-in-None-clause-denotes
returns-in-None-clause-denotes c =
    state_none (range_at (shapes_of c.args.layout.now) c.args.register.0 c.args.state)
    (λ x. register_code (codes_at c.args.arena.now c.args.words.now x) c.args.register.0) c.variables.ensures.arena c.in-None.ensures
