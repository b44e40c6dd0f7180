-- The states of a module and the memories of its registers, as they are told. Source: this project.
use Rattle.std.specs.Prelude.{ℕ, zero, suc, ◌+◌, ◌-◌, List, [], ◌∷◌, ◌++◌, Option, Some, None, if◌then◌else◌, nat_lt, codes, decimal, slice_get}
use Rattle.std.specs.List.{join_with_byte}
use Rattle.argos_core.specs.Automata.{Automaton, automata_of, counts_of, rules_of}
use Rattle.argos_core.specs.Process.{Timeout, Rules, States, no_states, state, PlainModule}

-- the name of state q of the automaton with register r
abbrev pub name_in : Option Rules → List ℕ
name_in None = []
name_in (Some s) = s.name

abbrev pub name_at : Option Automaton → ℕ → List ℕ
name_at None q = []
name_at (Some a) q = name_in (slice_get (rules_of a.states) q)

abbrev pub state_name : PlainModule → ℕ → ℕ → List ℕ
state_name P r q = name_at (slice_get (automata_of P.process) r) q

-- a timed state is told with its elapsed count
abbrev pub elapsed_text : Option Timeout → ℕ → List ℕ
elapsed_text None e = []
elapsed_text (Some w) e = codes "+" ++ decimal e

-- the state whose codes begin here has the first of them, and the following states have the others
abbrev pub state_text : States → ℕ → List ℕ
state_text no_states e = []
state_text (state s p ss) e = if nat_lt e (counts_of s.timeout) then s.name ++ elapsed_text s.timeout e else state_text ss (e - counts_of s.timeout)

-- what a code says of its automaton: a dash where it is off
abbrev pub code_text : States → ℕ → List ℕ
code_text ss zero = codes "-"
code_text ss (suc c) = state_text ss c

-- one item for each register from r on
abbrev pub items_from : ℕ → List Automaton → List ℕ → List (List ℕ)
items_from r [] m = []
items_from r (a ∷ more) [] = []
items_from r (a ∷ more) (c ∷ m) = (codes "r" ++ decimal r ++ codes "=" ++ code_text a.states c) ∷ items_from (r + 1) more m

-- the items of all registers with one space between two
abbrev pub memory_text : PlainModule → List ℕ → List ℕ
memory_text P m = join_with_byte 32 (items_from 0 (automata_of P.process) m)
