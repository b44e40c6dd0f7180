use Rattle.std.proofs.Common.{subst}
use Rattle.dd_core.specs.declared.nodes.Node.{Node}
use Rattle.dd_core.specs.Functions.{variable_value}
use Rattle.dd_core.specs.Arenas.{ArenaView, IsArena}
use Rattle.dd_core.proofs.Making.{choice, makes_equal, choice-constants}
use Rattle.dd_core.proofs.diagrams.Arena.var.Goals as goal

pub returns-clause-made : goal.returns-clause-made
returns-clause-made c =
    let arena = c.args.self.now in
    let n : Node = record { variable = c.args.var; low = record { 0 = 0 }; high = record { 0 = 1 } } in
    let valid = subst (λ (d : ArenaView). IsArena d) c.self.view_is c.self.invariant.valid in
    makes_equal 1 arena c.mk.new.self (choice arena n) (variable_value c.args.var) c.mk.result (choice-constants arena c.args.var valid) c.mk.ensures.made
