-- From the diagrams of all bits and words to what the verdict is found from. Source: this project.
use Rattle.std.specs.Prelude.{◌≡◌, ◌↔◌, ℕ, List, [], ◌++◌, true, false, map, length, slice_index_or, flat_map}
use Rattle.argos_base.specs.SignalSets.{SignalSet}
use Rattle.argos_core.specs.Layouts.{RegisterShape, FitsLayout}
use Rattle.eqn_core.specs.Equations.{Equations, registers}
use Rattle.eqn_completion.specs.Binary.{in_binary, FitsIn}
use Rattle.eqn_verdict.specs.Diagrams.{are_same}
use Rattle.eqn_core.specs.Orderable.{IsOrderable}
use Rattle.eqn_verdict.specs.Searching.{Test}
use Rattle.eqn_completion.specs.Findings.{Finding, AreDiagrams}
use Rattle.eqn_verdict.specs.Verdicts.{AreFindings, AreWidths}

abbrev pub never : Finding
never y x = false

-- the cyclic bits' functions give what was given
abbrev pub consistent_of : List ℕ → List Finding → Finding
consistent_of cyclic bits y x = are_same (map (λ k. slice_index_or bits k never y x) cyclic) x

-- those of the outputs, and then those of the next words
abbrev pub results_of : Equations → List Finding → List (List Finding) → List Finding
results_of E bits words = map (λ k. slice_index_or bits k never) E.outputs ++ flat_map (λ k. slice_index_or words k []) E.next

abbrev pub DiagramsGiveFindings : Type 0
DiagramsGiveFindings = (E : Equations) (layout : List RegisterShape) (cyclic widths : List ℕ) (structural : Test) (bits : List Finding) (words : List (List Finding)) → IsOrderable E → length layout ≡ registers E → AreWidths layout widths → AreDiagrams E cyclic widths bits words
    → ((m : List ℕ) (i : SignalSet) → FitsIn widths m → length i ≡ E.inputs → (structural (in_binary widths m ++ i) ≡ true) ↔ FitsLayout layout m)
    → AreFindings E layout cyclic widths structural (consistent_of cyclic bits) (results_of E bits words)
