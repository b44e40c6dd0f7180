-- What is found, with memories, an input set and a name in place of values of the variables.
use Rattle.std.specs.Prelude.{◌≡◌, ℕ, ◌<◌, Some, length, slice_get}
use Rattle.argos_core.specs.Process.{PlainModule}
use Rattle.argos_core.specs.Reactions.{output_count}
use Rattle.bisim_check.specs.declared.found.EquivFound.{EquivFound}
use Rattle.bisim_check.specs.declared.found.EquivFound.TheVariants as found
use Rattle.bisim_check.specs.declared.searching.Outcome.{Outcome}
use Rattle.bisim_check.specs.declared.searching.Outcome.TheVariants as outcome
use Rattle.eqn_dd.specs.declared.places.Places.{Places}
use Rattle.eqn_dd.specs.Placed.{memory_at, inputs_at}

-- there is a value for each of v variables, and the place is that of an output
abbrev pub IsSized : ℕ → PlainModule → Outcome → Type 0
IsSized v P outcome.Accept = Unit {0}
IsSized v P (outcome.Outputs at place) = (length at.items ≡ v) × (place < output_count P)
IsSized v P (outcome.Leaves at) = length at.items ≡ v

abbrev pub IsDecoded : PlainModule → Places → Places → Outcome → EquivFound → Type 0
IsDecoded P p q outcome.Accept found.Accept = Unit {0}
IsDecoded P p q (outcome.Outputs at place) (found.Outputs m n i name) = (m.items ≡ memory_at p at.items) × (n.items ≡ memory_at q at.items) × (i ≡ inputs_at p at.items) × (slice_get P.outputs place ≡ Some name)
IsDecoded P p q (outcome.Leaves at) (found.Leaves m n i) = (m.items ≡ memory_at p at.items) × (n.items ≡ memory_at q at.items) × (i ≡ inputs_at p at.items)
IsDecoded P p q _ _ = ⊥
