-- The module that the sample's text means. Source: this project.
use Rattle.std.specs.Prelude.{ℕ, zero, suc, ◌+◌, ◌-◌, List, [], ◌∷◌, map, None, codes, ◌==◌, if◌then◌else◌}
use Rattle.std.specs.List.{range_with_len}
use Prim.Native.String.{String}
use Rattle.argos_core.specs.Process.{present, Transition, Rules, Process, automaton, parallel, local, Processes, no_processes, process, no_states, state, no_body, PlainModule}
use Rattle.argos_sample.specs.SampleForm.{inner_name}

-- The input has number 0 and the output 1; the i-th signal between two automata, from 1 on, has i + 1.
abbrev pub heard_signal : ℕ → ℕ
heard_signal zero = 0
heard_signal (suc i) = suc (suc i)

abbrev pub emitted_signal : ℕ → ℕ → ℕ
emitted_signal n i = if n == i + 1 then 1 else i + 2

abbrev pub moving : ℕ → List ℕ → ℕ → Transition
moving heard outs target = record { guard = present heard; outs = outs; target = target }

abbrev pub rules_with : String → Transition → Rules
rules_with name t = record { name = codes name; transitions = t ∷ []; timeout = None }

-- the i-th of n automata, counted from 0
abbrev pub halving : ℕ → ℕ → Process
halving n i = automaton
    (state (rules_with "Off" (moving (heard_signal i) [] 1)) no_body
    (state (rules_with "On" (moving (heard_signal i) (emitted_signal n i ∷ []) 0)) no_body no_states))
    0

abbrev pub processes_from : List Process → Processes
processes_from [] = no_processes
processes_from (p ∷ ps) = process p (processes_from ps)

abbrev pub row : ℕ → ℕ → ℕ → Processes
row n i k = processes_from (map (halving n) (range_with_len i k))

abbrev pub sample_process : ℕ → Process
sample_process zero = parallel no_processes
sample_process (suc zero) = halving 1 0
sample_process (suc (suc k)) = local (range_with_len 2 (suc k)) (parallel (row (suc (suc k)) 0 (suc (suc k))))

abbrev pub sample_module : ℕ → PlainModule
sample_module n = record {
  process = sample_process n;
  inputs = codes "a" ∷ [];
  outputs = codes "o" ∷ [];
  locals = map inner_name (range_with_len 1 (n - 1));
}
