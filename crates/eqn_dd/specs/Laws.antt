-- Laws of places in turn, of the diagrams of all bits and words, and of plans. Source: this project.
use Rattle.std.specs.Prelude.{◌≡◌, ◌↔◌, ℕ, ◌+◌, ◌≤◌, List, ◌++◌, true, map, length, All}
use Rattle.argos_base.specs.SignalSets.{SignalSet}
use Rattle.argos_core.specs.Layouts.{RegisterShape, FitsLayout}
use Rattle.dd_core.specs.declared.nodes.NodeId.{NodeId}
use Rattle.dd_core.specs.Arenas.{ArenaView, function_of}
use Rattle.eqn_core.specs.Equations.{Equations, registers}
use Rattle.eqn_core.specs.Orderable.{IsOrderable}
use Rattle.eqn_core.specs.Plans.{IsPlanOf}
use Rattle.eqn_completion.specs.Binary.{in_binary, digits_in, FitsIn}
use Rattle.eqn_completion.specs.Findings.{Finding, AreDiagrams}
use Rattle.eqn_dd.specs.declared.places.Places.{Places}
use Rattle.eqn_dd.specs.Completed.{IsDrawable, DenoteCompletions}
use Rattle.eqn_dd.specs.Placed.{NamesRegisters, NamesVariables, AreInTurn, IsPlaceable, memory_at, inputs_at, cyclic_at}
use Rattle.eqn_dd.specs.Structural.{widths_of, DenotesLayout}

-- no register has more than sixteen digits
abbrev pub WidthsAreNarrow : Type 0
WidthsAreNarrow = (layout : List RegisterShape) → All (λ w. w ≤ 16) (widths_of layout)

-- places in turn name different variables of an arena that has enough: those of registers
abbrev pub TurnsNameRegisters : Type 0
TurnsNameRegisters = (v inputs cyclic : ℕ) (widths : List ℕ) (p : Places) → AreInTurn widths inputs cyclic p
    → All (λ w. w ≤ 16) widths → digits_in widths ≤ v → NamesRegisters v p.regs.items

-- and those of a whole system
abbrev pub TurnsNameVariables : Type 0
TurnsNameVariables = (v : ℕ) (E : Equations) (cyclic widths : List ℕ) (p : Places)
    → AreInTurn widths E.inputs (length cyclic) p
    → All (λ w. w ≤ 16) widths → length widths ≡ registers E → digits_in widths + E.inputs + length cyclic ≤ v
    → NamesVariables v E cyclic p

-- the values of all variables: the digits of a memory, then an input set, then the values of the cyclic bits
abbrev pub row_of : List ℕ → List ℕ → SignalSet → SignalSet → SignalSet
row_of widths m i x = (in_binary widths m ++ i) ++ x

-- at these values just they are read
pub record AreRead (p : Places) (m : List ℕ) (i x row : SignalSet) : Type 0 where
  pub memory : memory_at p row ≡ m
  pub inputs : inputs_at p row ≡ i
  pub cyclic : cyclic_at p row ≡ x

-- by places in turn a row is read as what it is made from
abbrev pub RowsAreRead : Type 0
RowsAreRead = (widths m : List ℕ) (inputs cyclic : ℕ) (i x : SignalSet) (p : Places) → AreInTurn widths inputs cyclic p
    → FitsIn widths m → length i ≡ inputs → length x ≡ cyclic
    → AreRead p m i x (row_of widths m i x) × (length (row_of widths m i x) ≡ digits_in widths + inputs + cyclic)

-- a node's function of the values of register bits and inputs, and of those of the cyclic bits
abbrev pub finding_of : ArenaView → NodeId → Finding
finding_of arena f y x = function_of arena f.0 (y ++ x)

-- nodes that denote the completions are the diagrams of all bits and words
abbrev pub DenotedAreDiagrams : Type 0
DenotedAreDiagrams = (arena : ArenaView) (E : Equations) (cyclic widths : List ℕ) (p : Places)
    → (bits : List NodeId) (words : List (List NodeId)) → AreInTurn widths E.inputs (length cyclic) p
    → arena.variables ≡ digits_in widths + E.inputs + length cyclic → DenoteCompletions arena E cyclic p bits words
    → AreDiagrams E cyclic widths (map (finding_of arena) bits) (map (map (finding_of arena)) words)

-- a node that denotes a layout is true exactly at the rows of memories that fit it
abbrev pub DenotedLayoutsAreTests : Type 0
DenotedLayoutsAreTests = (arena : ArenaView) (f : ℕ) (layout : List RegisterShape) (widths m : List ℕ)
    → (inputs cyclic : ℕ) (i x : SignalSet) (p : Places) → AreInTurn widths inputs cyclic p
    → arena.variables ≡ digits_in widths + inputs + cyclic → DenotesLayout arena f layout p
    → FitsIn widths m → length i ≡ inputs → length x ≡ cyclic
    → (function_of arena f (row_of widths m i x) ≡ true) ↔ (FitsLayout layout m)

-- an orderable system that has a plan has places, and its lines can be drawn
abbrev pub PlannedArePlaceable : Type 0
PlannedArePlaceable = (E : Equations) (order cyclic : List ℕ) → IsOrderable E → IsPlanOf E order cyclic
    → IsPlaceable E cyclic

abbrev pub PlannedAreDrawable : Type 0
PlannedAreDrawable = (E : Equations) (order cyclic : List ℕ) → IsOrderable E → IsPlanOf E order cyclic
    → IsDrawable E order cyclic
