-- Which bits and words of a system depend on which. Source: this project.
use Rattle.std.specs.Prelude.{◌≡◌, ℕ, ◌+◌, List, [], ◌∷◌, ◌++◌, Bool, true, false, ◌||◌, nat_eq, length}
use Rattle.eqn_core.specs.Chains.{Chain}
use Rattle.eqn_core.specs.Equations.{Literal, Choice, code, word, next, Case, Line, all, any, within, digit, choose, Equations, registers, bit_lines, word_lines}

-- a bit or a word
pub data Item : Type 0 where
  bit_item : ℕ → Item
  word_item : ℕ → Item

abbrev pub some_literal : List Literal → ℕ → Bool
some_literal [] k = false
some_literal (l ∷ ls) k = nat_eq l.bit k || some_literal ls k

abbrev pub choice_reads : Choice → ℕ → Bool
choice_reads (code n) k = false
choice_reads (word w) k = nat_eq w k
choice_reads (next w) k = nat_eq w k

abbrev pub some_when : List Case → ℕ → Bool
some_when [] k = false
some_when (c ∷ cases) k = nat_eq c.when.bit k || some_when cases k

abbrev pub some_choice : List Case → ℕ → Bool
some_choice [] k = false
some_choice (c ∷ cases) k = choice_reads c.choice k || some_choice cases k

-- a line reads an item
abbrev pub line_reads : Line → Item → Bool
line_reads (all ls) (bit_item k) = some_literal ls k
line_reads (any ls) (bit_item k) = some_literal ls k
line_reads (within w lo hi) (word_item k) = nat_eq w k
line_reads (digit w place) (word_item k) = nat_eq w k
line_reads (choose cases other) (bit_item k) = some_when cases k
line_reads (choose cases other) (word_item k) = some_choice cases k || choice_reads other k
line_reads _ _ = false

-- the item that a line defines, where these lines stand before it
abbrev pub defined_item : Equations → List Line → Line → Item
defined_item E before (choose cases other) = word_item (registers E + word_lines before)
defined_item E before _ = bit_item (E.inputs + bit_lines before)

-- the line is a line of the system, and it defines this item
pub record Defines (E : Equations) (place : ℕ) (line : Line) (x : Item) : Type 0 where
  pub before : List Line
  pub after : List Line
  pub stands : E.lines ≡ before ++ line ∷ after
  pub place_is : length before ≡ place
  pub is : defined_item E before line ≡ x

-- the line that defines x reads y
pub record ItemDepends (E : Equations) (x y : Item) : Type 0 where
  pub place : ℕ
  pub line : Line
  pub defines : Defines E place line x
  pub reads : line_reads line y ≡ true

-- a bit that depends on itself through one or more lines
abbrev pub IsCyclicBit : Equations → ℕ → Type 0
IsCyclicBit E k = Chain (ItemDepends E) (bit_item k) (bit_item k)
