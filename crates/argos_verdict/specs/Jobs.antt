-- The jobs of a check that have too many variables, or no room. Source: this project.
use Rattle.std.specs.Prelude.{◌≡◌, ◌↔◌, ◌⊎◌, ℕ, ◌+◌, ◌*◌, ◌^◌, ◌<◌, ◌≤◌, List, Bool, true, filter, length}
use Rattle.std.specs.List.{range_with_len}
use Rattle.argos_core.specs.Layouts.{layout_of}
use Rattle.argos_core.specs.Overlaps.{IsStateAt}
use Rattle.argos_core.specs.Process.{Rules, PlainModule}
use Rattle.argos_core.specs.Reactions.{input_count, output_count, signal_count}
use Rattle.argos_core.specs.Sizes.{size_of}
use Rattle.dd_core.specs.Arenas.{ArenaView, IsFull, LacksFunction}
use Rattle.dd_core.specs.Functions.{need}
use Rattle.eqn_completion.specs.Binary.{digits_in}
use Rattle.eqn_dd.specs.Structural.{widths_of}
use Rattle.eqn_scheme.specs.SignalDependence.{IsCyclic}
use Rattle.instant_check.specs.Effects.{SomeDiffer}
use Rattle.instant_check.specs.ModuleOverlaps as states
use Rattle.instant_check.specs.ModuleOverlaps.{IsClear}
use Rattle.instant_check.specs.Reading.{signals_read}
use Rattle.instant_check.specs.StateOverlaps.{operations_of}

-- these are the locals that depend on themselves, in order
pub record AreCyclicSignals (P : PlainModule) (cyclic : List ℕ) : Type 0 where
  pub test : ℕ → Bool
  pub exact : (k : ℕ) → input_count P + output_count P ≤ k → k < signal_count P → (test k ≡ true) ↔ (IsCyclic P k)
  pub is : cyclic ≡ filter test (range_with_len (input_count P + output_count P) (length P.locals))

-- the variables of the job on reactions: register bits, inputs and cyclic signals
abbrev pub reaction_variables : PlainModule → List ℕ → ℕ
reaction_variables P cyclic = digits_in (widths_of (layout_of P.process)) + input_count P + length cyclic

-- more than the operations on diagrams of the job on reactions
abbrev pub reaction_operations : PlainModule → List ℕ → ℕ
reaction_operations P cyclic = 64 * (size_of P + reaction_variables P cyclic + 16) ^ 2

-- the job on reactions, which is one where some local depends on itself, has at most 1,024 variables
abbrev pub FitsReactions : PlainModule → Type 0
FitsReactions P = (cyclic : List ℕ) → AreCyclicSignals P cyclic → 0 < length cyclic → reaction_variables P cyclic ≤ 1024

-- no state has an overlap, and the job on reactions has n variables, which is more than 1,024
pub record IsWide (P : PlainModule) (n : ℕ) : Type 0 where
  pub clear : IsClear P
  pub cyclic : List ℕ
  pub are : AreCyclicSignals P cyclic
  pub some : 0 < length cyclic
  pub variables : n ≡ reaction_variables P cyclic
  pub many : 1024 < n

-- the first job that decides, of a state or on reactions, has n variables, which is more than 1,024
abbrev pub IsTooWide : PlainModule → ℕ → Type 0
IsTooWide P n = states.IsTooWide P n ⊎ IsWide P n

-- the arena in which the job on reactions found no room: it holds as many nodes as it may, fewer than the job needs
pub record IsReactionStopped (P : PlainModule) (budget : ℕ) (arena : ArenaView) : Type 0 where
  pub clear : IsClear P
  pub cyclic : List ℕ
  pub are : AreCyclicSignals P cyclic
  pub some : 0 < length cyclic
  pub variables : arena.variables ≡ reaction_variables P cyclic
  pub budget_is : arena.budget ≡ budget
  pub full : IsFull arena
  pub lacks : LacksFunction arena
  pub below : budget < need (reaction_operations P cyclic) (reaction_variables P cyclic)

abbrev pub IsStopped : PlainModule → ℕ → ArenaView → Type 0
IsStopped P budget arena = states.IsOutOfBudget P budget arena ⊎ IsReactionStopped P budget arena

-- the budget is what each job needs
pub record IsEnough (P : PlainModule) (budget : ℕ) : Type 0 where
  pub states : (r q : ℕ) (rules : Rules) → IsStateAt P r q rules → SomeDiffer (signal_count P) rules.transitions
      → need (operations_of rules.transitions (length (signals_read (signal_count P) rules.transitions))) (length (signals_read (signal_count P) rules.transitions)) ≤ budget
  pub reactions : (cyclic : List ℕ) → AreCyclicSignals P cyclic → 0 < length cyclic → need (reaction_operations P cyclic) (reaction_variables P cyclic) ≤ budget
