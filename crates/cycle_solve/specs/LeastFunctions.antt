-- Functions of register bits and inputs that tell least chosen sets, and how many nodes their diagrams have. Source: this project.
use Rattle.std.specs.Prelude.{◌≡◌, ◌↔◌, ℕ, ◌+◌, List, Some, true, length, slice_get}
use Rattle.argos_base.specs.Machines.{Choosing, IsLeastChosen}
use Rattle.argos_base.specs.SignalSets.{SignalSet, has}
use Rattle.dd_core.specs.Functions.{Function}
use Rattle.eqn_completion.specs.Binary.{digits_in, FitsIn}
use Rattle.eqn_dd.specs.Laws.{row_of}
use Rattle.eqn_verdict.specs.SolvedNodes.{AreNodesOf}

-- place j is in the least chosen set at this memory and input
abbrev pub IsInLeast : Choosing → ℕ → List ℕ → SignalSet → Type 0
IsInLeast Chosen j m i = (least : SignalSet) × (IsLeastChosen Chosen m i least × (has least j ≡ true))

-- for each of so many places the function of register bits and inputs that is true exactly where the memory
-- is one of these and the place is in the least chosen set
pub record AreLeastFunctions (Chosen : Choosing) (IsMemory : List ℕ → Type 0) (widths : List ℕ)
    (inputs places : ℕ) (fs : List Function) : Type 0 where
  pub sized : length fs ≡ places
  pub are : (j : ℕ) (f : Function) (m : List ℕ) (i x : SignalSet) → slice_get fs j ≡ Some f
      → FitsIn widths m → length i ≡ inputs → length x ≡ places
      → (f (row_of widths m i x) ≡ true) ↔ (IsMemory m × IsInLeast Chosen j m i)

-- the reduced diagrams of the functions have so many different nodes, constants aside
pub record HaveNodes (variables : ℕ) (fs : List Function) (count : ℕ) : Type 0 where
  pub nodes : List Function
  pub are : AreNodesOf variables fs nodes
  pub counted : count ≡ length nodes

-- so many have those of the functions that tell the least chosen sets
pub record HaveLeastNodes (Chosen : Choosing) (IsMemory : List ℕ → Type 0) (widths : List ℕ)
    (inputs places count : ℕ) : Type 0 where
  pub functions : List Function
  pub are : AreLeastFunctions Chosen IsMemory widths inputs places functions
  pub nodes : HaveNodes (digits_in widths + inputs + places) functions count
