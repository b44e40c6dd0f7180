-- The verdict, found from functions of register bits, inputs and cyclic bits. Source: this project.
use Rattle.std.specs.Prelude.{◌≡◌, ◌↔◌, ◌≤◌, ℕ, List, ◌++◌, Bool, true, ◌&&◌, ◌||◌, not, if◌then◌else◌, map, length, take, drop, replicate, All}
use Rattle.argos_base.specs.Machines.{CodedReaction, Fault, no_reaction, several}
use Rattle.argos_base.specs.SignalSets.{SignalSet}
use Rattle.argos_core.specs.Layouts.{RegisterShape, FitsLayout}
use Rattle.eqn_core.specs.Equations.{Equations}
use Rattle.eqn_core.specs.Solutions.{Values, bit_of, word_of}
use Rattle.eqn_completion.specs.Binary.{in_binary, memory_of, FitsIn}
use Rattle.eqn_completion.specs.Completions.{IsCompletion, IsConsistent}
use Rattle.eqn_completion.specs.Findings.{Finding}
use Rattle.eqn_verdict.specs.Searching.{Test, some, some_differ, least_answers, without, has_answers}

-- the outputs, and then the sixteen digits of each next word
abbrev pub bits_of : CodedReaction → List Bool
bits_of r = r.outputs ++ in_binary (replicate (length r.next) 16) r.next

-- the reaction with these bits, of so many outputs and next words
abbrev pub reaction_of : ℕ → ℕ → List Bool → CodedReaction
reaction_of outputs words bits = record { outputs = take outputs bits; next = memory_of (replicate words 16) (drop outputs bits) }

-- these functions say which memories fit the layout, where the cyclic bits are consistent, and what the outputs and next words then are
pub record AreFindings (E : Equations) (layout : List RegisterShape) (cyclic widths : List ℕ) (structural : Test) (consistent : Finding) (results : List Finding) : Type 0 where
  pub structural_is : (m : List ℕ) (i : SignalSet) → FitsIn widths m → length i ≡ E.inputs → (structural (in_binary widths m ++ i) ≡ true) ↔ FitsLayout layout m
  pub consistent_is : (m : List ℕ) (i x : SignalSet) (s : Values) → FitsIn widths m → length i ≡ E.inputs → length x ≡ length cyclic → IsCompletion E cyclic m i x s → (consistent (in_binary widths m ++ i) x ≡ true) ↔ IsConsistent cyclic x s
  pub results_are : (m : List ℕ) (i x : SignalSet) (s : Values) → FitsIn widths m → length i ≡ E.inputs → length x ≡ length cyclic → IsCompletion E cyclic m i x s → map (λ g. g (in_binary widths m ++ i) x) results ≡ bits_of (record { outputs = map (bit_of s) E.outputs; next = map (word_of s) E.next })

-- the layout's registers have so many digits, at most 16 each
pub record AreWidths (layout : List RegisterShape) (widths : List ℕ) : Type 0 where
  pub sized : length widths ≡ length layout
  pub few : All (λ w. w ≤ 16) widths
  pub enough : (m : List ℕ) → FitsLayout layout m → FitsIn widths m

-- at these values of register bits and inputs
abbrev pub at : List Finding → SignalSet → List Test
at results y = map (λ g. g y) results

-- where the memory is structural there isn't exactly one reaction
abbrev pub is_bad : ℕ → Test → Finding → List Finding → Test
is_bad c structural consistent results y = structural y && (not (some c (consistent y)) || some_differ c (consistent y) (at results y))

-- what there is: the least answers, and the least of the others
abbrev pub fault_at : ℕ → ℕ → ℕ → Finding → List Finding → SignalSet → Fault
fault_at c outputs words consistent results y =
    let first = least_answers c (consistent y) (at results y) in
    let second = least_answers c (without (consistent y) (has_answers (at results y) first)) (at results y) in
    if some c (consistent y) then several (reaction_of outputs words first) (reaction_of outputs words second) else no_reaction

-- some functions
pub record HasFindings (E : Equations) (layout : List RegisterShape) (cyclic widths : List ℕ) : Type 0 where
  pub structural : Test
  pub consistent : Finding
  pub results : List Finding
  pub are : AreFindings E layout cyclic widths structural consistent results
