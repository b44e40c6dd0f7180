-- Values of all bits and words where the cyclic bits are taken as given. Source: this project.
use Rattle.std.specs.Prelude.{◌≡◌, ℕ, List, [], ◌∷◌, ◌++◌, Bool, if◌then◌else◌, nat_eq, map, length, flat_map}
use Rattle.argos_base.specs.SignalSets.{SignalSet, set_where}
use Rattle.eqn_core.specs.Equations.{Line, Equations}
use Rattle.eqn_core.specs.Dependence.{Item, bit_item, word_item}
use Rattle.eqn_core.specs.Solutions.{Values, bit_of, word_of, defined_bits, defined_words, Solves}

-- what is read of bit k: its given value where it is one of the cyclic bits, else its value in s
abbrev pub read_bit : List ℕ → SignalSet → Values → ℕ → Bool
read_bit [] x s k = bit_of s k
read_bit (c ∷ cyclic) [] s k = bit_of s k
read_bit (c ∷ cyclic) (b ∷ x) s k = if nat_eq c k then b else read_bit cyclic x s k

-- s as lines read it
abbrev pub as_read : List ℕ → SignalSet → Values → Values
as_read cyclic x s = record { bits = set_where (length s.bits) (read_bit cyclic x s); words = s.words }

-- at memory m, input set i and the values x of the cyclic bits: each bit and each word has the value that its line gives it, where x is read in place of the cyclic bits
pub record IsCompletion (E : Equations) (cyclic : List ℕ) (m : List ℕ) (i x : SignalSet) (s : Values) : Type 0 where
  pub bits : s.bits ≡ i ++ flat_map (defined_bits (as_read cyclic x s)) E.lines
  pub words : s.words ≡ m ++ flat_map (defined_words (as_read cyclic x s)) E.lines

-- the cyclic bits have the values that were given
abbrev pub IsConsistent : List ℕ → SignalSet → Values → Type 0
IsConsistent cyclic x s = map (bit_of s) cyclic ≡ x

-- there is exactly one completion
pub record HasOneCompletion (E : Equations) (cyclic : List ℕ) (m : List ℕ) (i x : SignalSet) : Type 0 where
  pub values : Values
  pub is : IsCompletion E cyclic m i x values
  pub only : (s : Values) → IsCompletion E cyclic m i x s → s ≡ values

-- at memory m and input set i some solution has this set of the bits ks
pub record SystemChooses (E : Equations) (ks : List ℕ) (m : List ℕ) (i chosen : SignalSet) : Type 0 where
  pub values : Values
  pub solves : Solves E m i values
  pub chosen_is : chosen ≡ map (bit_of values) ks

-- the item has in s the value that the line has in t
abbrev pub HasValue : Values → Item → Values → Line → Type 0
HasValue s (bit_item k) t l = defined_bits t l ≡ bit_of s k ∷ []
HasValue s (word_item k) t l = defined_words t l ≡ word_of s k ∷ []
