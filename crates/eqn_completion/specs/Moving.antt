-- Lines with other numbers, in the order of a plan. Source: this project.
use Rattle.std.specs.Prelude.{ℕ, suc, ◌+◌, List, [], ◌∷◌, Bool, false, if◌then◌else◌, nat_eq, map, length, take, slice_index_or}
use Rattle.argos_base.specs.SignalSets.{lists}
use Rattle.eqn_core.specs.Equations.{Literal, Choice, code, word, next, Case, Line, all, any, within, digit, choose, Equations, registers, bit_lines, word_lines}

-- a number for each number
abbrev pub Table : Type 0
Table = ℕ → ℕ

abbrev pub put : Table → ℕ → ℕ → Table
put table k n j = if nat_eq j k then n else table j

abbrev pub moved_literal : Table → Literal → Literal
moved_literal b l = record { bit = b l.bit; negated = l.negated }

abbrev pub moved_choice : Table → Choice → Choice
moved_choice w (code n) = code n
moved_choice w (word k) = word (w k)
moved_choice w (next k) = next (w k)

abbrev pub moved_case : Table → Table → Case → Case
moved_case b w c = record { when = moved_literal b c.when; choice = moved_choice w c.choice }

abbrev pub moved_line : Table → Table → Line → Line
moved_line b w (all ls) = all (map (moved_literal b) ls)
moved_line b w (any ls) = any (map (moved_literal b) ls)
moved_line b w (within k lo hi) = within (w k) lo hi
moved_line b w (digit k place) = digit (w k) place
moved_line b w (choose cases other) = choose (map (moved_case b w) cases) (moved_choice w other)

-- the new numbers of the bits and words, and the next free ones
pub record Tables : Type 0 where
  pub bits : Table
  pub words : Table
  pub next_bit : ℕ
  pub next_word : ℕ

-- the line at a place, and the number of the bit or word that it defines
abbrev pub line_at : Equations → ℕ → Line
line_at E p = slice_index_or E.lines p (all [])

abbrev pub bit_at : Equations → ℕ → ℕ
bit_at E p = E.inputs + bit_lines (take p E.lines)

abbrev pub word_at : Equations → ℕ → ℕ
word_at E p = registers E + word_lines (take p E.lines)

-- the line defines a bit that is taken as given
abbrev pub is_given : Equations → List ℕ → ℕ → Line → Bool
is_given E cyclic p (choose cases other) = false
is_given E cyclic p _ = lists cyclic (bit_at E p)

-- the line gets the next free number
abbrev pub with_entry : Equations → ℕ → Line → Tables → Tables
with_entry E p (choose cases other) t = record { bits = t.bits; words = put t.words (word_at E p) t.next_word; next_bit = t.next_bit; next_word = suc t.next_word }
with_entry E p _ t = record { bits = put t.bits (bit_at E p) t.next_bit; words = t.words; next_bit = suc t.next_bit; next_word = t.next_word }

-- the lines of these places in turn, without those of given bits
abbrev pub moved_lines : Equations → List ℕ → List ℕ → Tables → List Line
moved_lines E cyclic [] t = []
moved_lines E cyclic (p ∷ order) t =
    if is_given E cyclic p (line_at E p)
    then moved_lines E cyclic order t
    else moved_line t.bits t.words (line_at E p) ∷ moved_lines E cyclic order (with_entry E p (line_at E p) t)

-- and the numbers behind them
abbrev pub tables_after : Equations → List ℕ → List ℕ → Tables → Tables
tables_after E cyclic [] t = t
tables_after E cyclic (p ∷ order) t =
    if is_given E cyclic p (line_at E p)
    then tables_after E cyclic order t
    else tables_after E cyclic order (with_entry E p (line_at E p) t)

-- given bits get the numbers from b on, and other bits keep theirs
abbrev pub given_table : List ℕ → ℕ → Table
given_table [] b k = k
given_table (c ∷ given) b k = if nat_eq k c then b else given_table given (suc b) k

-- inputs and registers keep their numbers, given bits get those from b on, and lines those behind
abbrev pub given_numbers : Equations → List ℕ → ℕ → Tables
given_numbers E given b = record { bits = given_table given b; words = λ k. k; next_bit = b + length given; next_word = registers E }
