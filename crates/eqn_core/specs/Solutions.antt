-- Solutions of a system, and its runs. No line goes before another. Source: this project.
use Rattle.std.specs.Prelude.{◌≡◌, ℕ, ◌+◌, ◌/◌, ◌%◌, ◌^◌, List, [], ◌∷◌, ◌++◌, Bool, false, ◌&&◌, not, if◌then◌else◌, nat_le, nat_eq, map, length, slice_index_or, flat_map}
use Rattle.argos_base.specs.Limits as limits
use Rattle.std.specs.List.{list_all, list_any}
use Rattle.argos_base.specs.Runs.{Follows}
use Rattle.argos_base.specs.SignalSets.{SignalSet}
use Rattle.eqn_core.specs.Equations.{Literal, Choice, code, word, next, Case, Line, all, any, within, digit, choose, Equations, registers}

-- a value for each bit and each word
pub record Values : Type 0 where
  pub bits : List Bool
  pub words : List ℕ

abbrev pub bit_of : Values → ℕ → Bool
bit_of s k = slice_index_or s.bits k false

abbrev pub word_of : Values → ℕ → ℕ
word_of s k = slice_index_or s.words k 0

abbrev pub is_true : Values → Literal → Bool
is_true s l = if l.negated then not (bit_of s l.bit) else bit_of s l.bit

-- the word plus one, or 0 where it is 65,535
abbrev pub next_code : ℕ → ℕ
next_code n = if nat_eq n limits.code_limit then 0 else n + 1

abbrev pub value_of : Values → Choice → ℕ
value_of s (code n) = n
value_of s (word w) = word_of s w
value_of s (next w) = next_code (word_of s w)

-- the choice of the first case whose literal is true, else the other one
abbrev pub chosen_value : Values → List Case → Choice → ℕ
chosen_value s [] other = value_of s other
chosen_value s (c ∷ cases) other = if is_true s c.when then value_of s c.choice else chosen_value s cases other

-- the value that a line gives the bit that it defines
abbrev pub defined_bits : Values → Line → List Bool
defined_bits s (all ls) = list_all (is_true s) ls ∷ []
defined_bits s (any ls) = list_any (is_true s) ls ∷ []
defined_bits s (within w lo hi) = (nat_le lo (word_of s w) && nat_le (word_of s w) hi) ∷ []
defined_bits s (digit w place) = nat_eq (word_of s w / 2 ^ place % 2) 1 ∷ []
defined_bits s (choose cases other) = []

-- the value that a line gives the word that it defines
abbrev pub defined_words : Values → Line → List ℕ
defined_words s (choose cases other) = chosen_value s cases other ∷ []
defined_words s _ = []

-- behind the given values each bit and each word has the value that its line gives it
pub record Completes (lines : List Line) (given s : Values) : Type 0 where
  pub bits : s.bits ≡ given.bits ++ flat_map (defined_bits s) lines
  pub words : s.words ≡ given.words ++ flat_map (defined_words s) lines

-- a solution at memory m and input set i
pub record Solves (E : Equations) (m : List ℕ) (i : SignalSet) (s : Values) : Type 0 where
  pub input : length i ≡ E.inputs
  pub memory : length m ≡ registers E
  pub lines : Completes E.lines (record { bits = i; words = m }) s

-- from memory m the system can react to i with the outputs o, and m' is next
pub record SystemReacts (E : Equations) (m : List ℕ) (i o : SignalSet) (m' : List ℕ) : Type 0 where
  pub values : Values
  pub solves : Solves E m i values
  pub outputs : o ≡ map (bit_of values) E.outputs
  pub next : m' ≡ map (word_of values) E.next

-- from the initial codes the inputs can give these outputs, and go through these memories, one behind each input
abbrev pub RunsThrough : Equations → List SignalSet → List SignalSet → List (List ℕ) → Type 0
RunsThrough E inputs outputs memories = Follows (SystemReacts E) E.initial inputs outputs memories

-- the state after the last of the steps that lead from x through these
abbrev pub last_state : {S : Type 0} → S → List S → S
last_state x [] = x
last_state x (y ∷ states) = last_state y states

-- from the initial codes the inputs can give these outputs, and then m is the memory
pub record RunsTo (E : Equations) (inputs outputs : List SignalSet) (m : List ℕ) : Type 0 where
  pub memories : List (List ℕ)
  pub runs : RunsThrough E inputs outputs memories
  pub reaches : last_state E.initial memories ≡ m

-- from the initial codes the inputs can give these outputs
abbrev pub Runs : Equations → List SignalSet → List SignalSet → Type 0
Runs E inputs outputs = (memories : List (List ℕ)) × RunsThrough E inputs outputs memories
