-- What a C step does: its statements one after the other, each of which replaces one value of the arrays. Source: this project.
use Rattle.std.specs.Prelude.{◌≡◌, ℕ, ◌+◌, ◌/◌, ◌%◌, ◌^◌, ◌≤◌, List, [], ◌∷◌, length, take, Bool, ◌&&◌, not, nat_le, nat_eq, if◌then◌else◌, slice_index_or, slice_set}
use Rattle.std.specs.List.{list_all, list_any}
use Rattle.argos_base.specs.Runs.{Follows}
use Rattle.argos_base.specs.SignalSets.{SignalSet, has}
use Rattle.eqn_core.specs.Equations.{Literal, Choice, code, word, next, Case}
use Rattle.c_step.specs.CStep.{CValue, constant, each_of, some_of, between, digit_of, input_of, CStat, set_bit, set_word, set_out, CStep}

-- the arrays `w`, `b` and `out`
pub record Arrays : Type 0 where
  pub words : List ℕ
  pub bits : List Bool
  pub outs : List Bool

abbrev pub word_at : Arrays → ℕ → ℕ
word_at a k = slice_index_or a.words k 0

abbrev pub literal_value : Arrays → Literal → Bool
literal_value a l = if l.negated then not (has a.bits l.bit) else has a.bits l.bit

-- one more, where that has 16 bits
abbrev pub one_more : ℕ → ℕ
one_more n = if nat_le n 65534 then n + 1 else 0

abbrev pub choice_value : Arrays → Choice → ℕ
choice_value a (code n) = n
choice_value a (word w) = word_at a w
choice_value a (next w) = one_more (word_at a w)

-- the choice of the first case whose literal holds, else the other
abbrev pub chain_value : Arrays → List Case → Choice → ℕ
chain_value a [] other = choice_value a other
chain_value a (c ∷ cases) other = if literal_value a c.when then choice_value a c.choice else chain_value a cases other

abbrev pub bit_value : SignalSet → Arrays → CValue → Bool
bit_value i a (constant b) = b
bit_value i a (each_of ls) = list_all (literal_value a) ls
bit_value i a (some_of ls) = list_any (literal_value a) ls
bit_value i a (between w lo hi) = nat_le lo (word_at a w) && nat_le (word_at a w) hi
bit_value i a (digit_of w place) = nat_eq (word_at a w / 2 ^ place % 2) 1
bit_value i a (input_of j) = has i j

-- the arrays after one statement, and after several
abbrev pub done : SignalSet → CStat → Arrays → Arrays
done i (set_bit k v) a = record a { bits = slice_set a.bits k (bit_value i a v) }
done i (set_word k cases other) a = record a { words = slice_set a.words k (chain_value a cases other) }
done i (set_out j k) a = record a { outs = slice_set a.outs j (has a.bits k) }

abbrev pub all_done : SignalSet → List CStat → Arrays → Arrays
all_done i [] a = a
all_done i (x ∷ xs) a = all_done i xs (done i x a)

-- arrays of the step's lengths whose registers hold this memory; the other places hold anything
pub record Holds (s : CStep) (m : List ℕ) (a : Arrays) : Type 0 where
  pub words : length a.words ≡ s.words
  pub bits : length a.bits ≡ s.bits
  pub outs : length a.outs ≡ length s.names.outputs
  pub registers : take (length s.initial) a.words ≡ m

-- from memory m the step answers i by o and leaves m', whatever the other places held
pub record CReacts (s : CStep) (m : List ℕ) (i o : SignalSet) (m' : List ℕ) : Type 0 where
  pub input : length i ≡ length s.names.inputs
  pub memory : length m ≡ length s.initial
  pub room : length s.initial ≤ s.words
  pub outs : (a : Arrays) → Holds s m a → (all_done i s.statements a).outs ≡ o
  pub next : (a : Arrays) → Holds s m a → take (length s.initial) (all_done i s.statements a).words ≡ m'

-- from the initial codes the inputs give these outputs, and go through these memories, one behind each input
abbrev pub CRunsThrough : CStep → List SignalSet → List SignalSet → List (List ℕ) → Type 0
CRunsThrough s inputs outputs memories = Follows (CReacts s) s.initial inputs outputs memories

abbrev pub CRuns : CStep → List SignalSet → List SignalSet → Type 0
CRuns s inputs outputs = (memories : List (List ℕ)) × CRunsThrough s inputs outputs memories

-- the outputs and registers of these arrays are what the step answers and leaves
pub record CReactsTo (s : CStep) (m : List ℕ) (i : SignalSet) (a : Arrays) : Type 0 where
  pub reacts : CReacts s m i a.outs (take (length s.initial) a.words)
  pub holds : Holds s (take (length s.initial) a.words) a
