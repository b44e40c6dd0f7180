-- Ordered systems as systems with a plan, and what both have in common. Source: this project.
use Rattle.std.specs.Prelude.{◌≡◌, ℕ, ◌<◌, List, [], ◌∷◌, ◌++◌, true, length, slice_index_or}
use Rattle.std.specs.List.{range_with_len}
use Rattle.argos_base.specs.SignalSets.{SignalSet}
use Rattle.eqn_core.specs.Equations.{Line, Equations, registers, bit_count, word_count}
use Rattle.eqn_core.specs.Ordered.{line_below, IsOrdered}
use Rattle.eqn_core.specs.Plans.{IsPlanOf}
use Rattle.eqn_core.specs.Solutions.{Values}
use Rattle.eqn_completion.specs.Completions.{IsCompletion}

-- each line reads bits and words that exist; codes have 16 bits, bounds are in order, and places are at most 15
abbrev pub LinesExist : Equations → Type 0
LinesExist E = (before : List Line) (line : Line) (after : List Line) → E.lines ≡ before ++ line ∷ after → line_below (bit_count E) (word_count E) line ≡ true

abbrev pub OrderedLinesExist : Type 0
OrderedLinesExist = (E : Equations) → IsOrdered E → LinesExist E

-- the lines of an ordered system are a plan as they stand, without cyclic bits
abbrev pub OrderedArePlanned : Type 0
OrderedArePlanned = (E : Equations) → IsOrdered E → IsPlanOf E (range_with_len 0 (length E.lines)) []

-- with a plan, where the memory holds codes, so does each word of a completion
abbrev pub PlannedHaveCodes : Type 0
PlannedHaveCodes = (E : Equations) (order cyclic m : List ℕ) (i x : SignalSet) (s : Values) → LinesExist E → IsPlanOf E order cyclic → length m ≡ registers E → length i ≡ E.inputs → ((k : ℕ) → slice_index_or m k 0 < 65536) → IsCompletion E cyclic m i x s → (k : ℕ) → slice_index_or s.words k 0 < 65536
