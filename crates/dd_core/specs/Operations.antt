-- Operations on nodes, and their results.
use Rattle.std.specs.Prelude.{ℕ, ◌≤◌, min}
use Rattle.dd_core.specs.declared.nodes.NodeId.{NodeId}
use Rattle.dd_core.specs.declared.cache.Choice.{Choice}
use Rattle.dd_core.specs.declared.cache.Operation.{Operation}
use Rattle.dd_core.specs.declared.cache.Operation.TheVariants.{Choose, Restrict}
use Rattle.dd_core.specs.Functions.{Function, if_else, restriction}
use Rattle.dd_core.specs.Arenas.{ArenaView, Holds, level_of, function_of, IsNodeOf}

-- the function of a choice
abbrev pub choice_function : ArenaView → Choice → Function
choice_function arena c = if_else (function_of arena c.test.0) (function_of arena c.yes.0) (function_of arena c.no.0)

-- the operands are nodes of the arena
pub record IsHeld (arena : ArenaView) (c : Choice) : Type 0 where
  pub test : Holds arena c.test.0
  pub yes : Holds arena c.yes.0
  pub no : Holds arena c.no.0

-- the first variable that an operand tests
abbrev pub first_level : ArenaView → Choice → ℕ
first_level arena c = min (level_of arena c.test.0) (min (level_of arena c.yes.0) (level_of arena c.no.0))

-- the function of an operation
abbrev pub operation_function : ArenaView → Operation → Function
operation_function arena (Choose c) = choice_function arena c
operation_function arena (Restrict r) = restriction r.variable r.value (function_of arena r.f.0)

-- its operands are nodes of the arena
abbrev pub HasOperands : ArenaView → Operation → Type 0
HasOperands arena (Choose c) = IsHeld arena c
HasOperands arena (Restrict r) = Holds arena r.f.0

-- the first variable that an operand tests
abbrev pub operation_level : ArenaView → Operation → ℕ
operation_level arena (Choose c) = first_level arena c
operation_level arena (Restrict r) = level_of arena r.f.0

-- f is the node of the operation, and tests no variable before its operands
pub record IsResult (arena : ArenaView) (operation : Operation) (f : NodeId) : Type 0 where
  pub held : HasOperands arena operation
  pub node : IsNodeOf arena (operation_function arena operation) f.0
  pub later : operation_level arena operation ≤ level_of arena f.0
