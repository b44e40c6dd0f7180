-- The step function in C as plain data, and what it keeps. Source: this project.
use Rattle.std.specs.Prelude.{ℕ, ◌≤◌, List, [], ◌∷◌, ◌++◌, length, Bool, true, ◌&&◌, ◌||◌, nat_lt, nat_le, IsTrue}
use Rattle.std.specs.List.{list_all}
use Rattle.argos_base.specs.Limits as limits
use Rattle.argos_base.specs.Names.{AreDistinct}
use Rattle.argos_base.specs.SignalSets.{lists}
use Rattle.argos_base.specs.Spelling.{is_name}
use Rattle.eqn_core.specs.Equations.{Literal, Choice, code, word, next, Case}
use Rattle.line_format.specs.FileNames.{FileNames}

-- words, and bits, of a step
abbrev pub array_limit : ℕ
array_limit = 200000000

-- what a bit is set to: a constant, the `&&` of some literals, their `||`, a word within bounds, a binary digit of a word, or an input
pub data CValue : Type 0 where
  constant : Bool → CValue
  each_of : List Literal → CValue
  some_of : List Literal → CValue
  between : ℕ → ℕ → ℕ → CValue
  digit_of : ℕ → ℕ → CValue
  input_of : ℕ → CValue

-- a statement: the bit K is set to a value, the word K to the choice of the first case that holds, else to the other, or the output J to a bit
pub data CStat : Type 0 where
  set_bit : ℕ → CValue → CStat
  set_word : ℕ → List Case → Choice → CStat
  set_out : ℕ → ℕ → CStat

-- words, bits and initial are the lengths of the arrays and the codes of the registers, which are the first words
pub record CStep : Type 0 where
  pub names : FileNames
  pub words : ℕ
  pub bits : ℕ
  pub initial : List ℕ
  pub statements : List CStat

-- what was assigned in the step so far
pub record Assigned : Type 0 where
  pub bits : List ℕ
  pub words : List ℕ
  pub outs : List ℕ

abbrev pub nothing_assigned : Assigned
nothing_assigned = record { bits = []; words = []; outs = [] }

abbrev pub assigns : Assigned → CStat → Assigned
assigns a (set_bit k v) = record a { bits = k ∷ a.bits }
assigns a (set_word k cases other) = record a { words = k ∷ a.words }
assigns a (set_out j k) = record a { outs = j ∷ a.outs }

abbrev pub assigned_after : Assigned → List CStat → Assigned
assigned_after a [] = a
assigned_after a (x ∷ xs) = assigned_after (assigns a x) xs

-- a bit may be read once it is assigned, a word then too, and a register always
abbrev pub may_read_literal : Assigned → Literal → Bool
may_read_literal a l = lists a.bits l.bit

abbrev pub may_read_word : CStep → Assigned → ℕ → Bool
may_read_word s a w = nat_lt w (length s.initial) || lists a.words w

abbrev pub may_choose : CStep → Assigned → Choice → Bool
may_choose s a (code n) = nat_le n limits.code_limit
may_choose s a (word w) = may_read_word s a w
may_choose s a (next w) = may_read_word s a w

abbrev pub may_case : CStep → Assigned → Case → Bool
may_case s a c = may_read_literal a c.when && may_choose s a c.choice

-- `&&` of one literal or more, `||` of two or more; bounds in order; a digit's place at most 15
abbrev pub may_be : CStep → Assigned → CValue → Bool
may_be s a (constant b) = true
may_be s a (each_of ls) = nat_le 1 (length ls) && list_all (may_read_literal a) ls
may_be s a (some_of ls) = nat_le 2 (length ls) && list_all (may_read_literal a) ls
may_be s a (between w lo hi) = may_read_word s a w && (nat_le lo hi && nat_le hi limits.code_limit)
may_be s a (digit_of w place) = may_read_word s a w && nat_le place 15
may_be s a (input_of j) = nat_lt j (length s.names.inputs)

-- the statement may stand behind those that assigned this
abbrev pub may_stand : CStep → Assigned → CStat → Bool
may_stand s a (set_bit k v) = nat_lt k s.bits && may_be s a v
may_stand s a (set_word k cases other) = nat_lt k s.words && (list_all (may_case s a) cases && may_choose s a other)
may_stand s a (set_out j k) = nat_lt j (length s.names.outputs) && lists a.bits k

abbrev pub may_follow : CStep → Assigned → List CStat → Bool
may_follow s a [] = true
may_follow s a (x ∷ xs) = may_stand s a x && may_follow s (assigns a x) xs

-- each number below n is listed
abbrev pub AllListed : ℕ → List ℕ → Type 0
AllListed n ks = (k : ℕ) → IsTrue (nat_lt k n) → IsTrue (lists ks k)

-- what a step keeps: its names and lengths, what each statement reads, and that each output is assigned
pub record IsCStep (s : CStep) : Type 0 where
  pub input_limit : length s.names.inputs ≤ limits.signal_limit
  pub output_limit : length s.names.outputs ≤ limits.signal_limit
  pub spelled : IsTrue (list_all is_name (s.names.inputs ++ s.names.outputs))
  pub distinct : AreDistinct (s.names.inputs ++ s.names.outputs)
  pub some_word : 1 ≤ s.words
  pub word_limit : s.words ≤ array_limit
  pub some_bit : 1 ≤ s.bits
  pub bit_limit : s.bits ≤ array_limit
  pub some_register : 1 ≤ length s.initial
  pub room : length s.initial ≤ s.words
  pub codes : IsTrue (list_all (λ c. nat_le c limits.code_limit) s.initial)
  pub reads : IsTrue (may_follow s nothing_assigned s.statements)
  pub outs : AllListed (length s.names.outputs) (assigned_after nothing_assigned s.statements).outs
