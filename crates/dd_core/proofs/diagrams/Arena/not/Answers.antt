use Rattle.std.proofs.Common.{◌+◌, ◌^◌}
use Rattle.dd_core.specs.Functions.{if_else, opposite}
use Rattle.dd_core.specs.Arenas.{function_of}
use Rattle.dd_core.proofs.Making.{makes_equal, opposite-is_choice}
use Rattle.dd_core.proofs.diagrams.Arena.not.Goals as goal

pub returns : goal.returns
returns c =
    let arena = c.args.self.now in let f = function_of arena c.args.f.0 in
    record { made = makes_equal (2 ^ (arena.variables + 1)) arena c.ite.new.self (if_else f (function_of arena 0) (function_of arena 1)) (opposite f) c.ite.result (opposite-is_choice arena c.ite.ensures.made.was c.args.f.0) c.ite.ensures.made }
