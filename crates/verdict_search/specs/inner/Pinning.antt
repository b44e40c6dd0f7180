-- Functions pinned to a point. Source: this project.
use Rattle.std.specs.Prelude.{◌≡◌, ℕ, ◌+◌, List, Bool, not, if◌then◌else◌, length}
use Rattle.argos_base.specs.SignalSets.{SignalSet, has}
use Rattle.dd_core.specs.declared.nodes.NodeId.{NodeId}
use Rattle.dd_core.specs.Functions.{Function}
use Rattle.dd_core.specs.Arenas.{ArenaView, function_of}
use Rattle.eqn_completion.specs.Findings.{Finding}
use Rattle.eqn_verdict.specs.Diagrams.{Splits, are_same, pinned_at}
use Rattle.verdict_search.specs.Parts.{meet}

-- the variable has this value
abbrev pub literal_function : ℕ → Bool → Function
literal_function k value x = if value then has x k else not (has x k)

-- f is true at the point z alone
abbrev pub IsPoint : ArenaView → SignalSet → ℕ → Type 0
IsPoint arena z f = (c : ℕ) → arena.variables ≡ length z + c → Splits (length z) c (function_of arena f) (λ y x. are_same y z)

-- q is true where all these are, at the point z alone
abbrev pub IsPinnedTo : ArenaView → ArenaView → SignalSet → List NodeId → ℕ → Type 0
IsPinnedTo old new z fs q = (c : ℕ) (F : Finding) → old.variables ≡ length z + c → Splits (length z) c (meet old fs) F → Splits (length z) c (function_of new q) (pinned_at z F)
