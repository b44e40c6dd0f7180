-- The value of one line, as the code has it.
use Rattle.std.specs.Prelude.{ℕ, List, [], ◌∷◌, Bool}
use Rattle.eqn_core.specs.declared.values.Value.{Value}
use Rattle.eqn_core.specs.declared.values.Value.TheVariants.{Bit, Word}
use Rattle.eqn_core.specs.Solutions.{Values}

-- these are the values of the bits and words
abbrev pub known : List Bool → List ℕ → Values
known bits words = record { bits = bits; words = words }

abbrev pub value_bits : Value → List Bool
value_bits (Bit b) = b ∷ []
value_bits (Word w) = []

abbrev pub value_words : Value → List ℕ
value_words (Bit b) = []
value_words (Word w) = w ∷ []
