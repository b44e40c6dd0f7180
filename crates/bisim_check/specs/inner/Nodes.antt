-- Nodes of an arena that stand for memories, outputs and next memories. Source: this project.
use Rattle.std.specs.Prelude.{◌≡◌, ◌≢◌, ℕ, ◌<◌, List, ◌∷◌, Bool, false, ◌||◌, Vec, map, length, slice_index_or, All}
use Rattle.std.specs.declared.alloc.Global.{Global}
use Rattle.argos_base.specs.SignalSets.{SignalSet}
use Rattle.argos_core.specs.Layouts.{RegisterShape}
use Rattle.bisim_check.specs.declared.diagrams.ProgramDiagrams.{ProgramDiagrams}
use Rattle.bisim_verdict.specs.EquivFunctions.{DenoteReactions}
use Rattle.bisim_verdict.specs.EquivTests.{differs}
use Rattle.dd_core.specs.declared.nodes.NodeId.{NodeId}
use Rattle.dd_core.specs.Arenas.{ArenaView, Holds}
use Rattle.eqn_core.specs.Equations.{Equations, registers}
use Rattle.eqn_dd.specs.declared.places.Places.{Places}
use Rattle.eqn_dd.specs.Denoting.{values_at, code_at, IsWord}
use Rattle.eqn_dd.specs.Placed.{memory_at}
use Rattle.eqn_dd.specs.Structural.{DenotesLayout}

-- each is a word of sixteen nodes
abbrev pub AreWords : ArenaView → List (Vec NodeId Global) → Type 0
AreWords arena words = All (IsWord arena) (map (λ w. w.items) words)

-- the codes that the words are where the variables have the values x
abbrev pub codes_at : ArenaView → List (Vec NodeId Global) → List Bool → List ℕ
codes_at arena words x = map (λ w. code_at arena w.items x) words

abbrev pub AreHeld : ArenaView → List NodeId → Type 0
AreHeld arena nodes = All (λ (f : NodeId). Holds arena f.0) nodes

-- at some place the two sets differ
abbrev pub any_differs : SignalSet → SignalSet → Bool
any_differs (a ∷ o) (b ∷ p) = differs a b || any_differs o p
any_differs _ _ = false

-- The diagrams of a program's equations over these places: the words of its registers, its outputs, its next words, and which memories are structural.
pub record AreDrawn (arena : ArenaView) (E : Equations) (layout : List RegisterShape) (p : Places) (d : ProgramDiagrams) : Type 0 where
  pub register_words : AreWords arena d.registers.items
  pub registers_are : (x : List Bool) → length x ≡ arena.variables → codes_at arena d.registers.items x ≡ memory_at p x
  pub outputs_held : AreHeld arena d.outputs.items
  pub outputs_sized : length d.outputs.items ≡ length E.outputs
  pub next_words : AreWords arena d.next.items
  pub next_sized : length d.next.items ≡ registers E
  pub react : DenoteReactions arena.variables E p (values_at arena d.outputs.items) (codes_at arena d.next.items)
  pub structural : DenotesLayout arena d.structural.0 layout p

-- the first place at which the two sets differ
pub record IsFirstDifference (o p : SignalSet) (place : ℕ) : Type 0 where
  pub below : place < length o
  pub here : slice_index_or o place false ≢ slice_index_or p place false
  pub first : (k : ℕ) → k < place → slice_index_or o k false ≡ slice_index_or p k false
