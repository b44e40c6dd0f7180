-- Laws: from functions of variables to the due answer of a check for equivalence. Source: this project.
use Rattle.std.specs.Prelude.{◌≡◌, ◌≢◌, ℕ, ◌+◌, ◌<◌, ◌≤◌, List, [], ◌++◌, Bool, true, Some, length, drop, All, slice_get}
use Rattle.argos_base.specs.Names.{Spelled, AreDistinct}
use Rattle.argos_base.specs.SignalSets.{SignalSet}
use Rattle.argos_core.specs.Layouts.{layout_of}
use Rattle.argos_core.specs.Modules.{IsShaped}
use Rattle.argos_core.specs.Overlaps.{IsGood}
use Rattle.argos_core.specs.Process.{PlainModule}
use Rattle.argos_core.specs.Reactions.{input_count}
use Rattle.argos_congruence.specs.Congruence.{HaveSameNames, AreEqualUnderAspects, TracesMove}
use Rattle.argos_congruence.specs.NamedSets.{has_name}
use Rattle.eqn_completion.specs.Binary.{memory_of, digits_in, FitsIn}
use Rattle.eqn_core.specs.Equations.{Equations, registers}
use Rattle.eqn_dd.specs.declared.places.Places.{Places}
use Rattle.eqn_dd.specs.Placed.{NamesRegisters, NamesVariables}
use Rattle.eqn_dd.specs.Structural.{widths_of}
use Rattle.bisim_formula.specs.Formulas.{Formula}
use Rattle.bisim_verdict.specs.Bisimulation.{EquivAnswer, accept, IsEquivAnswer}
use Rattle.bisim_verdict.specs.Counts.{EquivSize, equiv_operations, counted_operations}
use Rattle.bisim_verdict.specs.EquivFunctions.{Functions, AreMadeOf, ArePlacedTogether, tests_of}
use Rattle.bisim_verdict.specs.EquivTests.{point, variables, AreWidthsOf, differing, Tests, AreTestsOf, IsFirstDiffering, IsFound}

-- what is found by the functions that decide is the due answer
abbrev pub FoundIsDue : Type 0
FoundIsDue = (F : Formula) (P Q : PlainModule) (lefts rights : List ℕ) (t : Tests) (a : EquivAnswer) → IsGood P → IsGood Q → AreWidthsOf P lefts → AreWidthsOf Q rights → AreTestsOf F P Q lefts rights t → IsFound F P Q lefts rights t a → IsEquivAnswer F P Q a

-- there is at most one due answer
abbrev pub OneIsDue : Type 0
OneIsDue = (F : Formula) (P Q : PlainModule) (a b : EquivAnswer) → IsGood P → IsGood Q → IsEquivAnswer F P Q a → IsEquivAnswer F P Q b → a ≡ b

-- and it can't be that there is none
abbrev pub SomeIsDue : Type 0
SomeIsDue = (F : Formula) (P Q : PlainModule) → IsGood P → IsGood Q → ¬ ((a : EquivAnswer) → ¬ (IsEquivAnswer F P Q a))

-- where the answer is to accept, the programs are equal under aspects, and traces move
abbrev pub AcceptedAreEqualUnderAspects : Type 0
AcceptedAreEqualUnderAspects = (F : Formula) (P Q : PlainModule) → IsGood P → IsGood Q → IsEquivAnswer F P Q accept → AreEqualUnderAspects P Q × TracesMove P Q

-- two systems that react as the programs do, the second one reading the first one's inputs by name, give the functions that decide
abbrev pub SystemsDecide : Type 0
SystemsDecide = (F : Formula) (P Q : PlainModule) (lefts rights : List ℕ) (p q : Places) (E G : Equations) (f : Functions) → IsGood P → IsGood Q → HaveSameNames P Q → AreWidthsOf P lefts → AreWidthsOf Q rights
    → ArePlacedTogether P Q lefts rights p q → AreMadeOf P Q lefts rights p q E G f → AreTestsOf F P Q lefts rights (tests_of F P Q p q f)

-- at a point where the programs differ, the first output that the functions give differently is the first that differs
abbrev pub DifferingIsTold : Type 0
DifferingIsTold = (F : Formula) (P Q : PlainModule) (lefts rights m n : List ℕ) (i : SignalSet) (p q : Places) (E G : Equations) (f : Functions) (place : ℕ) (name : Spelled) → IsGood P → IsGood Q → HaveSameNames P Q → AreWidthsOf P lefts → AreWidthsOf Q rights
    → ArePlacedTogether P Q lefts rights p q → AreMadeOf P Q lefts rights p q E G f → FitsIn lefts m → FitsIn rights n → length i ≡ input_count P
    → let x = point lefts rights m n i in differing (tests_of F P Q p q f) x ≡ true → slice_get P.outputs place ≡ Some name
    → has_name P.outputs (f.left_outputs x) name ≢ has_name Q.outputs (f.right_outputs x) name
    → ((k : ℕ) (other : Spelled) → k < place → slice_get P.outputs k ≡ Some other → has_name P.outputs (f.left_outputs x) other ≡ has_name Q.outputs (f.right_outputs x) other)
    → IsFirstDiffering P Q m n i name

-- the places of both programs name different variables of an arena with just these, which have digits enough
pub record AreNamed (P Q : PlainModule) (lefts rights : List ℕ) (p q : Places) (E G : Equations) : Type 0 where
  pub left : NamesVariables (variables P lefts rights) E [] p
  pub right : NamesVariables (variables P lefts rights) G [] q
  pub left_registers : NamesRegisters (variables P lefts rights) p.regs.items
  pub right_registers : NamesRegisters (variables P lefts rights) q.regs.items

abbrev pub PlacedTogetherAreNamed : Type 0
PlacedTogetherAreNamed = (P Q : PlainModule) (lefts rights : List ℕ) (p q : Places) (E G : Equations) → AreDistinct (Q.inputs ++ Q.outputs) → HaveSameNames P Q → ArePlacedTogether P Q lefts rights p q
    → All (λ w. w ≤ 16) lefts → All (λ w. w ≤ 16) rights → registers E ≡ length lefts → registers G ≡ length rights → E.inputs ≡ input_count P → G.inputs ≡ input_count Q
    → AreNamed P Q lefts rights p q E G

-- as many digits as the greatest code of a register has are enough
abbrev pub DigitsFit : Type 0
DigitsFit = (P : PlainModule) → IsShaped P.process → AreWidthsOf P (widths_of (layout_of P.process))

-- each list of so many values is the point of memories that fit and of an input set
abbrev pub ValuesArePoints : Type 0
ValuesArePoints = (lefts rights : List ℕ) (k : ℕ) (x : List Bool) → length x ≡ digits_in lefts + (digits_in rights + k)
    → let right = drop (digits_in lefts) x in (point lefts rights (memory_of lefts x) (memory_of rights right) (drop (digits_in rights) right) ≡ x) × FitsIn lefts (memory_of lefts x) × FitsIn rights (memory_of rights right) × (length (drop (digits_in rights) right) ≡ k)

-- a check makes fewer operations than its need counts, where there are at most as many registers as variables
abbrev pub OperationsAreFew : Type 0
OperationsAreFew = (j : EquivSize) → j.registers ≤ j.variables → equiv_operations j < counted_operations j
