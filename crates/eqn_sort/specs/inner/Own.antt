-- The numbers of the bits and words that lines define.
use Rattle.std.specs.Prelude.{ℕ, suc, ◌+◌, List, [], ◌∷◌, Bool, true, false}
use Rattle.eqn_core.specs.Equations.{Line, choose, bits_of_line, words_of_line}
use Rattle.eqn_completion.specs.Moving.{put, Tables}

abbrev pub defines_word : Line → Bool
defines_word (choose cases other) = true
defines_word _ = false

-- the number of what a line defines, where so many bits and words stand before it
abbrev pub own_number : ℕ → ℕ → Line → ℕ
own_number bits words (choose cases other) = words
own_number bits words _ = bits

-- and those of several lines
abbrev pub own_numbers : ℕ → ℕ → List Line → List ℕ
own_numbers bits words [] = []
own_numbers bits words (l ∷ lines) = own_number bits words l ∷ own_numbers (bits + bits_of_line l) (words + words_of_line l) lines

-- the line of this number gets the next free one
abbrev pub with_number : ℕ → Line → Tables → Tables
with_number n (choose cases other) t = record { bits = t.bits; words = put t.words n t.next_word; next_bit = t.next_bit; next_word = suc t.next_word }
with_number n _ t = record { bits = put t.bits n t.next_bit; words = t.words; next_bit = suc t.next_bit; next_word = t.next_word }
