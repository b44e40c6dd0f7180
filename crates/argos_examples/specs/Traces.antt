-- Worked traces, by the names that are present in each instant.
use Rattle.std.specs.Prelude.{◌≡◌, List, [], ◌∷◌, map}
use Rattle.argos_base.specs.Names.{Spelled}
use Rattle.argos_base.specs.SignalSets.{SignalSet}
use Rattle.argos_base.specs.Spelling.{is_one_of}
use Rattle.argos_core.specs.Process.{PlainModule}
use Rattle.argos_core.specs.Reactions.{IsTrace}

-- the names that are present
abbrev pub Instant : Type 0
Instant = List Spelled

-- an instant without signals
abbrev pub none : Instant
none = []

-- an instant with one signal, and with two
abbrev pub only : Spelled → Instant
only a = a ∷ []

abbrev pub two : Spelled → Spelled → Instant
two a b = a ∷ b ∷ []

-- of these names those that are present, as a set
abbrev pub named : List Spelled → Instant → SignalSet
named names present = map (is_one_of present) names

-- to these inputs, instant by instant, the program has exactly one trace, with these outputs
pub record Gives (P : PlainModule) (inputs outputs : List Instant) : Type 0 where
  pub is : IsTrace P (map (named P.inputs) inputs) (map (named P.outputs) outputs)
  pub only : (others : List SignalSet) → IsTrace P (map (named P.inputs) inputs) others → others ≡ map (named P.outputs) outputs
