-- The diagrams that are known so far, and what a line's diagram is by them.
use Rattle.std.specs.Prelude.{◌≡◌, ℕ, ◌+◌, ◌<◌, List, [], ◌∷◌, Option, Some, None, Bool, map, length, slice_index_or, slice_set, All}
use Rattle.argos_base.specs.SignalSets.{SignalSet, has, set_where}
use Rattle.dd_core.specs.declared.nodes.NodeId.{NodeId}
use Rattle.dd_core.specs.Arenas.{ArenaView, Holds, function_of}
use Rattle.eqn_core.specs.Equations.{Line, choose, bits_of_line, words_of_line}
use Rattle.eqn_core.specs.Solutions.{Values, bit_of, defined_bits, defined_words}
use Rattle.eqn_dd.specs.declared.places.Places.{Places}
use Rattle.eqn_dd.specs.Placed.{memory_at}
use Rattle.eqn_dd.specs.declared.table.Table.{Table}
use Rattle.eqn_dd.specs.declared.table.Drawn.{Drawn}
use Rattle.eqn_dd.specs.declared.table.Drawn.TheVariants.{Bit, Word}
use Rattle.eqn_completion.specs.Completions.{read_bit}
use Rattle.eqn_dd.specs.Denoting.{code_at, IsWord}
use Rattle.eqn_dd.specs.inner.Fitting.{codes_at}

-- a table as plain lists
pub record TableView : Type 0 where
  pub bits : List NodeId
  pub given : List (Option NodeId)
  pub words : List (List NodeId)

abbrev pub view_of : Table → TableView
view_of t = record { bits = t.bits.items; given = t.given.items; words = map (λ w. w.items) t.words.items }

abbrev pub id_or : Option NodeId → ℕ → ℕ
id_or None f = f
id_or (Some variable) f = variable.0

-- the node that is read of a bit
abbrev pub read_id : TableView → ℕ → ℕ
read_id t k = id_or (slice_index_or t.given k None) (slice_index_or t.bits k (record { 0 = 0 })).0

-- what lines read, where the variables have the values x
abbrev pub table_values : ArenaView → TableView → SignalSet → Values
table_values arena t x = record { bits = set_where (length t.bits) (λ k. function_of arena (read_id t k) x); words = codes_at arena t.words x }

-- all are nodes of the arena
pub record IsTable (arena : ArenaView) (t : TableView) : Type 0 where
  pub bits_held : All (λ (f : NodeId). Holds arena f.0) t.bits
  pub given_sized : length t.given ≡ length t.bits
  pub given_held : (k : ℕ) (f : NodeId) → slice_index_or t.given k None ≡ Some f → Holds arena f.0
  pub words_held : All (IsWord arena) t.words

-- the bit or word has the value that the line gives it
abbrev pub DenotesLine : ArenaView → (SignalSet → Values) → Line → Drawn → Type 0
DenotesLine arena values line (Bit f) = Holds arena f.0 × ((x : SignalSet) → length x ≡ arena.variables → defined_bits (values x) line ≡ function_of arena f.0 x ∷ [])
DenotesLine arena values line (Word w) = IsWord arena w.items × ((x : SignalSet) → length x ≡ arena.variables → defined_words (values x) line ≡ code_at arena w.items x ∷ [])

-- what is read of a bit whose own value is b
abbrev pub read_given : ArenaView → Option NodeId → Bool → SignalSet → Bool
read_given arena None b x = b
read_given arena (Some variable) b x = function_of arena variable.0 x

-- in place of the cyclic bits their variables are read
pub record GivenAre (arena : ArenaView) (cyclic variables : List ℕ) (count : ℕ) (given : List (Option NodeId)) : Type 0 where
  pub sized : length given ≡ count
  pub held : (k : ℕ) (f : NodeId) → slice_index_or given k None ≡ Some f → Holds arena f.0
  pub equal : (x : SignalSet) (s : Values) (k : ℕ) → length x ≡ arena.variables → k < count → read_given arena (slice_index_or given k None) (bit_of s k) x ≡ read_bit cyclic (map (has x) variables) s k

-- the first bits are these variables
pub record InputsAre (arena : ArenaView) (variables : List ℕ) (count : ℕ) (bits : List NodeId) : Type 0 where
  pub sized : length bits ≡ count
  pub held : All (λ (f : NodeId). Holds arena f.0) bits
  pub equal : (x : SignalSet) (k : ℕ) → length x ≡ arena.variables → k < length variables → function_of arena (slice_index_or bits k (record { 0 = 0 })).0 x ≡ has x (slice_index_or variables k 0)

-- the first words are this memory
pub record WordsAre (arena : ArenaView) (memory : SignalSet → List ℕ) (registers count : ℕ) (words : List (List NodeId)) : Type 0 where
  pub sized : length words ≡ count
  pub held : All (IsWord arena) words
  pub equal : (x : SignalSet) (k : ℕ) → length x ≡ arena.variables → k < registers → code_at arena (slice_index_or words k []) x ≡ slice_index_or (memory x) k 0

-- the table with a line's diagram at its number
abbrev pub with_drawn : TableView → ℕ → Drawn → TableView
with_drawn t n (Bit f) = record { bits = slice_set t.bits n f; given = t.given; words = t.words }
with_drawn t n (Word w) = record { bits = t.bits; given = t.given; words = slice_set t.words n w.items }

-- there is such a bit or word
abbrev pub HasPlace : TableView → ℕ → Drawn → Type 0
HasPlace t n (Bit f) = n < length t.bits
HasPlace t n (Word w) = n < length t.words

-- the number of the bit or the word that a line defines, where so many bits and words come before
abbrev pub line_number : ℕ → ℕ → Line → ℕ
line_number bits words (choose cases other) = words
line_number bits words _ = bits

abbrev pub numbers_from : ℕ → ℕ → List Line → List ℕ
numbers_from bits words [] = []
numbers_from bits words (l ∷ lines) = line_number bits words l ∷ numbers_from (bits + bits_of_line l) (words + words_of_line l) lines

-- inputs and registers are their variables, and so is what is read of cyclic bits
pub record Begins (arena : ArenaView) (places : Places) (cyclic : List ℕ) (bits_counted words_counted : ℕ) (t : TableView) : Type 0 where
  pub inputs : InputsAre arena places.inputs.items bits_counted t.bits
  pub given : GivenAre arena cyclic places.cyclic.items bits_counted t.given
  pub words : WordsAre arena (memory_at places) (length places.regs.items) words_counted t.words
