-- One root of the least consistent values. Source: this project.
use Rattle.std.specs.Prelude.{◌≡◌, ℕ, suc, ◌+◌, ◌-◌, ◌<◌, List, ◌∷◌, ◌++◌, false, ◌&&◌, not, take, length, slice_index_or}
use Rattle.dd_core.specs.declared.nodes.NodeId.{NodeId}
use Rattle.dd_core.specs.Functions.{both}
use Rattle.dd_core.specs.Arenas.{ArenaView, function_of}
use Rattle.eqn_completion.specs.Findings.{Finding}
use Rattle.eqn_dd.specs.Denoting.{Denotes}
use Rattle.eqn_verdict.specs.Diagrams.{Splits, partly}
use Rattle.eqn_verdict.specs.Searching.{Test, some, least}
use Rattle.verdict_search.specs.Splitting.{IsTestOf}

-- no values pass that have the first j least ones, and false then
abbrev pub is_forced : ℕ → ℕ → Finding → Test
is_forced c j f y = not (some (c - suc j) (λ x. f y (take j (least c (f y)) ++ false ∷ x)))

-- root is true at the structural points where the least values have the next cyclic bit true, and next is the function with this one set too
pub record IsStep (new : ArenaView) (root next a c j : ℕ) (s : Test) (f : Finding) : Type 0 where
  pub root_is : IsTestOf new a c root (λ y. s y && is_forced c j f y)
  pub next_is : Splits a c (function_of new next) (partly c (suc j) f)

-- so where rest was a function with the cyclic bits before variable k set to their least values
abbrev pub IsRoot : ArenaView → ArenaView → ℕ → ℕ → ℕ → ℕ → ℕ → Type 0
IsRoot old new k structural rest root next = (a c j : ℕ) (s : Test) (f : Finding) → old.variables ≡ a + c → k ≡ a + j → j < c → IsTestOf old a c structural s → Splits a c (function_of old rest) (partly c j f) → IsStep new root next a c j s f

-- each node is true where the first is and one of the others
abbrev pub AreBoth : ArenaView → ArenaView → ℕ → List NodeId → List NodeId → Type 0
AreBoth old new f gs made = (p : ℕ) → p < length gs → Denotes new (slice_index_or made p (record { 0 = 0 })).0 (both (function_of old f) (function_of old (slice_index_or gs p (record { 0 = 0 })).0))
