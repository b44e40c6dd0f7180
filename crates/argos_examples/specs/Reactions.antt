-- How many reactions the examples have. Source: this project.
use Rattle.std.specs.Prelude.{◌≡◌, [], ◌∷◌, ◌⊎◌, codes, length}
use Rattle.argos_base.specs.Machines as machines
use Rattle.argos_base.specs.Machines.{several}
use Rattle.argos_base.specs.SignalSets.{SignalSet}
use Rattle.argos_core.specs.FirstBad.{IsFirstBad}
use Rattle.argos_core.specs.Process.{Configuration}
use Rattle.argos_core.specs.Reactions.{initial_of, Reacts, HasOneReaction}
use Rattle.argos_examples.specs.MutualSupport.{mutual_support}
use Rattle.argos_examples.specs.NoReaction.{no_reaction}
use Rattle.argos_examples.specs.TokenRing.{token_ring}
use Rattle.argos_examples.specs.Traces.{named, none, only}

-- the one memory of the program, with state S in its register, has no reaction to the one input set
abbrev pub HasNoReaction : Type 0
HasNoReaction = IsFirstBad no_reaction (1 ∷ []) [] machines.no_reaction

-- the output sets of the two reactions
abbrev pub quiet : SignalSet
quiet = named mutual_support.outputs none

abbrev pub loud : SignalSet
loud = named mutual_support.outputs (only (codes "x"))

-- the one memory of the program, with state S in both registers, has two reactions at least, the least with x absent and the next with x present, both to this memory
abbrev pub HasTwoFirstReactions : Type 0
HasTwoFirstReactions = IsFirstBad mutual_support (1 ∷ 1 ∷ []) [] (several (record { outputs = quiet; next = 1 ∷ 1 ∷ [] }) (record { outputs = loud; next = 1 ∷ 1 ∷ [] }))

-- it has no others
abbrev pub HasNoThirdReaction : Type 0
HasNoThirdReaction = (o : SignalSet) (c' : Configuration) → Reacts mutual_support (initial_of mutual_support) [] o c' → ((o ≡ quiet) ⊎ (o ≡ loud)) × (c' ≡ initial_of mutual_support)

-- where no cell has the token, there is one reaction to each of the eight input sets
abbrev pub RingReactsOnceAtStart : Type 0
RingReactsOnceAtStart = (i : SignalSet) → length i ≡ 3 → HasOneReaction token_ring (initial_of token_ring) i
