-- The least answers, step by step. Source: this project.
use Rattle.std.specs.Prelude.{◌≡◌, ◌↔◌, ℕ, ◌+◌, List, Bool, true, false, ◌&&◌, if◌then◌else◌, length}
use Rattle.argos_base.specs.SignalSets.{SignalSet}
use Rattle.dd_core.specs.declared.nodes.NodeId.{NodeId}
use Rattle.dd_core.specs.Functions.{AreEqual, both, opposite, constant}
use Rattle.dd_core.specs.Arenas.{ArenaView, Holds, function_of}
use Rattle.eqn_completion.specs.Findings.{Finding}
use Rattle.eqn_verdict.specs.Diagrams.{Splits, pinned_at}
use Rattle.eqn_verdict.specs.Searching.{Test, some, without, least_answers, has_answers}
use Rattle.eqn_verdict.specs.Verdicts as verdicts
use Rattle.verdict_search.specs.declared.finding.Found.{Found}
use Rattle.verdict_search.specs.declared.finding.Found.TheVariants.{One, NoReaction, Several}
use Rattle.verdict_search.specs.Parts.{meet}
use Rattle.verdict_search.specs.Splitting.{AreSplit}

-- The answer is false exactly where q holds somewhere without g; and rest is q with g, or without it.
pub record IsTaken (old new : ArenaView) (q g : ℕ) (answer : Bool) (rest : ℕ) : Type 0 where
  pub held : Holds new rest
  pub is : AreEqual old.variables (function_of new rest) (both (function_of old q) (if answer then function_of old g else opposite (function_of old g)))
  pub least : (answer ≡ false) ↔ (¬ (AreEqual old.variables (both (function_of old q) (opposite (function_of old g))) (constant false)))

-- a node denotes a test of the cyclic bits, pinned to z
abbrev pub IsPinned : ArenaView → ℕ → ℕ → SignalSet → Test → ℕ → Type 0
IsPinned arena a c z K q = Splits a c (function_of arena q) (pinned_at z (λ y. K))

-- K, and these answers
abbrev pub with_answers : Test → List Test → List Bool → Test
with_answers K gs answers x = K x && has_answers gs answers x

-- the answers are the least ones where q holds
abbrev pub AreLeast : ArenaView → ℕ → List NodeId → List Bool → Type 0
AreLeast arena q results answers = (a c : ℕ) (z : SignalSet) (K : Test) (gs : List Finding) → arena.variables ≡ a + c → length z ≡ a → IsPinned arena a c z K q → AreSplit arena a c results gs → answers ≡ least_answers c K (verdicts.at gs z)

-- rest is q with those values that give these answers
abbrev pub IsWith : ArenaView → ArenaView → ℕ → List NodeId → List Bool → ℕ → Type 0
IsWith old new q results answers rest = (a c : ℕ) (z : SignalSet) (K : Test) (gs : List Finding) → old.variables ≡ a + c → length z ≡ a → IsPinned old a c z K q → AreSplit old a c results gs → IsPinned new a c z (with_answers K (verdicts.at gs z) answers) rest

-- rest is q without those values that give these answers
abbrev pub IsWithout : ArenaView → ArenaView → ℕ → List NodeId → List Bool → ℕ → Type 0
IsWithout old new q results answers rest = (a c : ℕ) (z : SignalSet) (K : Test) (gs : List Finding) → old.variables ≡ a + c → length z ≡ a → IsPinned old a c z K q → AreSplit old a c results gs → IsPinned new a c z (without K (has_answers (verdicts.at gs z) answers)) rest

-- what there is at the point y
abbrev pub IsThere : ℕ → Test → List Test → SignalSet → Found → Type 0
IsThere c K gs y One = ⊥
IsThere c K gs y (NoReaction z) = (z.items ≡ y) × (some c K ≡ false)
IsThere c K gs y (Several z first second) = (z.items ≡ y) × (some c K ≡ true) × (first.items ≡ least_answers c K gs) × (second.items ≡ least_answers c (without K (has_answers gs first.items)) gs)

abbrev pub IsWhatIsThere : ArenaView → SignalSet → List NodeId → List NodeId → Found → Type 0
IsWhatIsThere arena y consistent results found = (c : ℕ) (K : Finding) (gs : List Finding) → arena.variables ≡ length y + c → Splits (length y) c (meet arena consistent) K → AreSplit arena (length y) c results gs → IsThere c (K y) (verdicts.at gs y) y found
