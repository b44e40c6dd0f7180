-- How a variable is set.
use Rattle.std.specs.Prelude.{◌-◌, ◌^◌, ◌≤◌, Result, IfOk}
use Rattle.dd_core.specs.declared.nodes.NodeId.{NodeId}
use Rattle.dd_core.specs.declared.errors.DdError.{DdError}
use Rattle.dd_core.specs.declared.cache.Restriction.{Restriction}
use Rattle.dd_core.specs.Functions.{restriction}
use Rattle.dd_core.specs.Arenas.{ArenaView, level_of, function_of, Makes}

-- What setting a variable leaves. There are fewer new nodes than ways to set the variables from f's up to it.
pub record MakesRestriction (old new : ArenaView) (r : Restriction) (result : Result NodeId DdError) : Type 0 where
  pub made : Makes (2 ^ (r.variable - level_of old r.f.0) - 1) old new (restriction r.variable r.value (function_of old r.f.0)) result
  pub later : IfOk result (λ g. level_of old r.f.0 ≤ level_of new g.0)
