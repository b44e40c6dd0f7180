-- How a choice is made, by its operands' children.
use Rattle.std.specs.Prelude.{◌≡◌, ℕ, ◌-◌, ◌^◌, ◌≤◌, Bool, ◌⊎◌, Result, IfOk}
use Rattle.dd_core.specs.declared.nodes.NodeId.{NodeId}
use Rattle.dd_core.specs.declared.errors.DdError.{DdError}
use Rattle.dd_core.specs.declared.cache.Choice.{Choice}
use Rattle.dd_core.specs.Diagrams.{after, node_at}
use Rattle.dd_core.specs.Arenas.{ArenaView, level_of, Makes}
use Rattle.dd_core.specs.Operations.{choice_function, first_level}

-- f with variable k set to b, where f tests no variable before k
abbrev pub child : ArenaView → ℕ → Bool → NodeId → NodeId
child arena k b f = record { 0 = after k b f.0 (node_at arena.nodes f.0) }

-- the same of the operands
abbrev pub choice_child : ArenaView → ℕ → Bool → Choice → Choice
choice_child arena k b c = record { test = child arena k b c.test; yes = child arena k b c.yes; no = child arena k b c.no }

-- f is the choice's function by the operands' ids alone
pub record IsSettled (c : Choice) (f : NodeId) : Type 0 where
  pub is : (((c.test.0 ≡ 1) × (f ≡ c.yes)
      ⊎ (c.test.0 ≡ 0) × (f ≡ c.no))
      ⊎ (c.yes ≡ c.no) × (f ≡ c.yes))
      ⊎ (c.yes.0 ≡ 1) × (c.no.0 ≡ 0) × (f ≡ c.test)

-- What making a choice leaves. There are fewer new nodes than ways to set the variables from the first tested one on.
pub record MakesChoice (old new : ArenaView) (c : Choice) (result : Result NodeId DdError) : Type 0 where
  pub made : Makes (2 ^ (old.variables - first_level old c) - 1) old new (choice_function old c) result
  pub later : IfOk result (λ f. first_level old c ≤ level_of new f.0)
