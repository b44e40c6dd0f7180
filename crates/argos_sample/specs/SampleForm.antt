-- The text of the sample: automata in a row, each of which hands on every second signal that it hears. Source: this project.
use Rattle.std.specs.Prelude.{ℕ, zero, suc, ◌+◌, ◌-◌, List, [], ◌∷◌, ◌++◌, map, None, codes, decimal, ◌==◌, if◌then◌else◌}
use Rattle.std.specs.List.{range_with_len}
use Prim.Native.String.{String}
use Rattle.argos_grammar.specs.Forms.{Mark, atom, TransForm, Head, ProcessForm, automaton, local, BlockForm, no_processes, process, no_states, state, plain, ComponentForm, ProgramForm}
use Rattle.argos_grammar.specs.Printed.{program_text}
use Rattle.argos_grammar.specs.Views.{block_from}

-- a name without a place
abbrev pub mark : List ℕ → Mark
mark name = record { name = name; at = 0 }

-- c and a number
abbrev pub inner_name : ℕ → List ℕ
inner_name i = codes "c" ++ decimal i

-- what the i-th of n automata, counted from 0, hears and emits
abbrev pub heard_name : ℕ → List ℕ
heard_name zero = codes "a"
heard_name (suc i) = inner_name (suc i)

abbrev pub emitted_name : ℕ → ℕ → List ℕ
emitted_name n i = if n == i + 1 then codes "o" else inner_name (i + 1)

-- on what it hears, emit these and go there
abbrev pub move_form : List ℕ → List Mark → String → TransForm
move_form heard outs target = record { guard = atom (mark heard); outs = outs; target = mark (codes target) }

abbrev pub head_form : String → TransForm → Head
head_form name t = record { name = mark (codes name); trans = t ∷ []; timed = None }

-- off, on what it hears on; on, on what it hears off again with what it emits
abbrev pub halving_form : ℕ → ℕ → ProcessForm
halving_form n i = automaton (mark (codes "Off"))
    (state (head_form "Off" (move_form (heard_name i) [] "On")) plain
    (state (head_form "On" (move_form (heard_name i) (mark (emitted_name n i) ∷ []) "Off")) plain no_states))

-- those of n automata from the i-th on, k in all
abbrev pub row_forms : ℕ → ℕ → ℕ → List ProcessForm
row_forms n i k = map (halving_form n) (range_with_len i k)

-- the signals between n automata
abbrev pub inner_marks : ℕ → List Mark
inner_marks n = map (λ i. mark (inner_name i)) (range_with_len 1 (n - 1))

-- one automaton stands alone, more of them under the signals between them
abbrev pub sample_block : ℕ → BlockForm
sample_block zero = no_processes
sample_block (suc zero) = process (halving_form 1 0) no_processes
sample_block (suc (suc k)) = process (local (inner_marks (suc (suc k))) (block_from (row_forms (suc (suc k)) 0 (suc (suc k))))) no_processes

abbrev pub sample_component : ℕ → ComponentForm
sample_component n = record { name = mark (codes "main"); inputs = mark (codes "a") ∷ []; outputs = mark (codes "o") ∷ []; block = sample_block n }

abbrev pub sample_form : ℕ → ProgramForm
sample_form n = record { version = 1; components = sample_component n ∷ [] }

-- the text that the sample goes through
abbrev pub sample_program : ℕ → List ℕ
sample_program n = program_text (sample_form n)
