-- Functions of register bits, inputs and cyclic bits that say what bits and words are. Source: this project.
use Rattle.std.specs.Prelude.{◌≡◌, ℕ, List, ◌++◌, Bool, map, length}
use Rattle.argos_base.specs.SignalSets.{SignalSet}
use Rattle.eqn_core.specs.Equations.{Equations}
use Rattle.eqn_core.specs.Solutions.{Values}
use Rattle.eqn_completion.specs.Binary.{code_bits, in_binary, FitsIn}
use Rattle.eqn_completion.specs.Completions.{IsCompletion}

-- a function of the values of register bits and inputs, and of those of the cyclic bits
abbrev pub Finding : Type 0
Finding = SignalSet → SignalSet → Bool

-- at each memory, input and values of the cyclic bits these are the bits of the completion, and the sixteen digits of each of its words
pub record AreDiagrams (E : Equations) (cyclic widths : List ℕ) (bits : List Finding) (words : List (List Finding)) : Type 0 where
  pub bits_are : (m : List ℕ) (i x : SignalSet) (s : Values) → FitsIn widths m → length i ≡ E.inputs → length x ≡ length cyclic → IsCompletion E cyclic m i x s → map (λ g. g (in_binary widths m ++ i) x) bits ≡ s.bits
  pub words_are : (m : List ℕ) (i x : SignalSet) (s : Values) → FitsIn widths m → length i ≡ E.inputs → length x ≡ length cyclic → IsCompletion E cyclic m i x s → map (map (λ g. g (in_binary widths m ++ i) x)) words ≡ map (code_bits 16) s.words
