use Rattle.std.proofs.Common.{◌+◌, ◌^◌}
use Rattle.dd_core.specs.Functions.{if_else, either}
use Rattle.dd_core.specs.Arenas.{function_of}
use Rattle.dd_core.proofs.Making.{makes_equal, either-is_choice}
use Rattle.dd_core.proofs.diagrams.Arena.or.Goals as goal

pub returns-clause-made : goal.returns-clause-made
returns-clause-made c =
    let arena = c.args.self.now in let f = function_of arena c.args.f.0 in let g = function_of arena c.args.g.0 in
    makes_equal (2 ^ (arena.variables + 1)) arena c.ite.new.self (if_else f (function_of arena 1) g) (either f g) c.ite.result (either-is_choice arena c.ite.ensures.made.was c.args.f.0 c.args.g.0) c.ite.ensures.made
