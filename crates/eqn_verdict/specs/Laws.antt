-- Laws of verdicts, and of solved systems. Source: this project.
use Rattle.std.specs.Prelude.{◌≡◌, ◌↔◌, ℕ, ◌+◌, ◌*◌, ◌≤◌, List, [], ◌++◌, Bool, true, false, length, take, drop, All}
use Rattle.argos_base.specs.Limits as limits
use Rattle.argos_base.specs.Machines.{ReactsOnce, AlwaysReactsOnce, IsFirstBadOf, IsLeastChosen}
use Rattle.argos_base.specs.SignalSets.{SignalSet}
use Rattle.argos_core.specs.Layouts.{RegisterShape, FitsLayout}
use Rattle.eqn_core.specs.Equations.{Equations, registers, weight_of}
use Rattle.eqn_core.specs.Ordered.{all_below, IsOrdered}
use Rattle.eqn_core.specs.Solutions.{SystemReacts}
use Rattle.eqn_completion.specs.Binary.{in_binary, memory_of, digits_in, FitsIn}
use Rattle.eqn_verdict.specs.Branches.{Branch, AreInTurn, AreReferences, ids_with}
use Rattle.dd_core.specs.Functions.{Function, AreEqual, constant}
use Rattle.dd_ops.specs.Least.{IsLeast}
use Rattle.eqn_verdict.specs.Diagrams.{Splits}
use Rattle.eqn_completion.specs.Completions.{SystemChooses}
use Rattle.eqn_core.specs.Plans.{IsPlanOf}
use Rattle.eqn_core.specs.Orderable.{IsOrderable}
use Rattle.eqn_verdict.specs.Searching.{Test, some, least, some_differ, kept_tests, AreConstant, IsFirst}
use Rattle.eqn_verdict.specs.Solved.{solved_system, AreSolvedDiagrams}
use Rattle.eqn_completion.specs.Findings.{Finding}
use Rattle.eqn_verdict.specs.Verdicts.{AreFindings, AreWidths, is_bad, fault_at, HasFindings}

-- Where functions of register bits, inputs and cyclic bits say what is structural, consistent and a result, no values of register bits and inputs are bad exactly where the system always reacts once
abbrev pub VerdictIsOne : Type 0
VerdictIsOne = (E : Equations) (order cyclic : List ℕ) (layout : List RegisterShape) (widths : List ℕ) (structural : Test) (consistent : Finding) (results : List Finding) → IsOrderable E → IsPlanOf E order cyclic → length layout ≡ registers E → AreWidths layout widths → AreFindings E layout cyclic widths structural consistent results
    → ((z : SignalSet) → length z ≡ digits_in widths + E.inputs → is_bad (length cyclic) structural consistent results z ≡ false) ↔ AlwaysReactsOnce (FitsLayout layout) E.inputs (SystemReacts E)

-- and the first bad values are those of the first bad memory and input, with what there is instead
abbrev pub VerdictIsFirstBad : Type 0
VerdictIsFirstBad = (E : Equations) (order cyclic : List ℕ) (layout : List RegisterShape) (widths : List ℕ) (structural : Test) (consistent : Finding) (results : List Finding) → IsOrderable E → IsPlanOf E order cyclic → length layout ≡ registers E → AreWidths layout widths → AreFindings E layout cyclic widths structural consistent results
    → (z : SignalSet) → IsFirst (digits_in widths + E.inputs) (is_bad (length cyclic) structural consistent results) z
    → IsFirstBadOf (FitsLayout layout) E.inputs (SystemReacts E) (memory_of widths z) (drop (digits_in widths) z) (fault_at (length cyclic) (length E.outputs) (length E.next) consistent results z)

-- where some values of the cyclic bits are consistent, the least ones are those of the least solution
abbrev pub LeastIsChosen : Type 0
LeastIsChosen = (E : Equations) (order cyclic : List ℕ) (layout : List RegisterShape) (widths : List ℕ) (structural : Test) (consistent : Finding) (results : List Finding) → IsPlanOf E order cyclic → length layout ≡ registers E → AreWidths layout widths → AreFindings E layout cyclic widths structural consistent results
    → (m : List ℕ) (i : SignalSet) → FitsIn widths m → length i ≡ E.inputs → some (length cyclic) (consistent (in_binary widths m ++ i)) ≡ true
    → IsLeastChosen (SystemChooses E cyclic) m i (least (length cyclic) (consistent (in_binary widths m ++ i)))

-- the solved system is ordered
abbrev pub SolvedAreOrdered : Type 0
SolvedAreOrdered = (E : Equations) (order cyclic widths : List ℕ) (ns : List Branch) (roots : List ℕ) → IsOrderable E → IsPlanOf E order cyclic → length widths ≡ registers E → All (λ w. w ≤ 16) widths → AreInTurn (digits_in widths + E.inputs) [] ns → AreReferences (ids_with [] ns) roots → length roots ≡ length cyclic
    → 1 ≤ registers E → all_below 65536 E.initial ≡ true → length (solved_system E order cyclic widths ns roots).lines ≤ limits.line_limit → IsOrdered (solved_system E order cyclic widths ns roots)

-- and at each structural memory and input at which the system has one reaction, it has this one
abbrev pub SolvedReact : Type 0
SolvedReact = (E : Equations) (order cyclic : List ℕ) (layout : List RegisterShape) (widths : List ℕ) (structural : Test) (consistent : Finding) (results : List Finding) (ns : List Branch) (roots : List ℕ) → IsOrderable E → IsPlanOf E order cyclic → length layout ≡ registers E → AreWidths layout widths → AreFindings E layout cyclic widths structural consistent results
    → AreSolvedDiagrams E.inputs (length cyclic) widths structural consistent ns roots → IsOrdered (solved_system E order cyclic widths ns roots)
    → (m : List ℕ) (i : SignalSet) → FitsLayout layout m → length i ≡ E.inputs → ReactsOnce (SystemReacts E) m i → (o : SignalSet) (n : List ℕ) → (SystemReacts (solved_system E order cyclic widths ns roots) m i o n) ↔ (SystemReacts E m i o n)

-- it has at most four lines for each node, and one for each variable, more; and weighs at most 16 for each node, and four for each variable, more
abbrev pub SolvedAreSmall : Type 0
SolvedAreSmall = (E : Equations) (order cyclic widths : List ℕ) (ns : List Branch) (roots : List ℕ) → IsPlanOf E order cyclic → length roots ≡ length cyclic
    → (length (solved_system E order cyclic widths ns roots).lines ≤ length E.lines + 4 * length ns + (digits_in widths + E.inputs + length cyclic))
    × (weight_of (solved_system E order cyclic widths ns roots) ≤ weight_of E + 16 * length ns + 4 * (digits_in widths + E.inputs + length cyclic))

-- there are such functions
abbrev pub FindingsExist : Type 0
FindingsExist = (E : Equations) (order cyclic : List ℕ) (layout : List RegisterShape) (widths : List ℕ) → IsOrderable E → IsPlanOf E order cyclic → length layout ≡ registers E → AreWidths layout widths → HasFindings E layout cyclic widths

-- a test that no cyclic bit changes need not be made
abbrev pub SkippedDontDiffer : Type 0
SkippedDontDiffer = (c : ℕ) (K : Test) (flags : List Bool) (gs : List Test) → AreConstant c flags gs → some_differ c K gs ≡ some_differ c K (kept_tests flags gs)

-- So where a diagram denotes what is bad: if it is false everywhere the system always reacts once; and its least values give the first bad case.
abbrev pub InstantFinds : Type 0
InstantFinds = (E : Equations) (order cyclic : List ℕ) (layout : List RegisterShape) (widths : List ℕ) (structural : Test) (consistent : Finding) (results : List Finding) (h : Function) → IsOrderable E → IsPlanOf E order cyclic → length layout ≡ registers E → AreWidths layout widths → AreFindings E layout cyclic widths structural consistent results
    → let a = digits_in widths + E.inputs in let c = length cyclic in Splits a c h (λ y x. is_bad c structural consistent results y)
    → (AreEqual (a + c) h (constant false) → AlwaysReactsOnce (FitsLayout layout) E.inputs (SystemReacts E))
    × ((z : SignalSet) → IsLeast (a + c) h z → IsFirstBadOf (FitsLayout layout) E.inputs (SystemReacts E) (memory_of widths (take a z)) (drop (digits_in widths) (take a z)) (fault_at c (length E.outputs) (length E.next) consistent results (take a z)))
