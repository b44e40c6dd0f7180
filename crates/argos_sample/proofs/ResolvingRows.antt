-- What the automata of a sample grow to.
use Rattle.std.proofs.Common.{◌≡◌, ℕ, zero, suc, ◌+◌, ◌<◌, ◌≤◌, List, [], ◌∷◌, Bool, true, false, cond, codes, replicate, length}
use Rattle.std.proofs.Common.{◌==◌, refl, ap, ap₂, ◌∙◌, arith}
use Rattle.argos_core.specs.Process.{Process, automaton, Processes, process, no_states, state, no_body}
use Rattle.argos_grammar.specs.Views.{block_from}
use Rattle.argos_expansion.specs.Expansion.{Numbers, Visit, Grown, number_in, beside, grown_process, grown_rest}
use Rattle.argos_sample.specs.SampleForm.{inner_name, heard_name, emitted_name, halving_form, row_forms}
use Rattle.argos_sample.specs.SampleModule.{heard_signal, emitted_signal, rules_with, moving, halving, row}
use Rattle.argos_sample.proofs.ResolvingNumbers.{sample_numbers, inner_number_in, a_number, o_number}
use Rattle.argos_sample.proofs.ResolvingRules.{form_with, not_last}

-- an automaton of two states, each with one transition, of which one emits a signal
abbrev pub halving_visit : ℕ → Visit
halving_visit depth = record { depth = depth; signals = 0; automata = 1; codes = 2; size = 8 }

abbrev automaton_with : ℕ → ℕ → Process
automaton_with heard out = automaton
    (state (rules_with "Off" (moving heard [] 1)) no_body
    (state (rules_with "On" (moving heard (out ∷ []) 0)) no_body no_states))
    0

abbrev grown_alone : ℕ → Process → Grown Process
grown_alone depth p = record { whole = p; locals = []; visits = halving_visit depth ∷ [] }

grown_with : (env : Numbers) (depth next : ℕ) (heard out : List ℕ) (h o : ℕ) → number_in env heard ≡ h → number_in env out ≡ o
    → grown_process [] env depth next (form_with heard out) ≡ grown_alone depth (automaton_with h o)
grown_with env depth next heard out h o e f = ap₂ (λ x y. grown_alone depth (automaton_with x y)) e f

-- the numbers of what the i-th of several automata hears and emits
heard_number : (k i : ℕ) → k ≤ 65534 → i < suc k → number_in (sample_numbers k) (heard_name i) ≡ heard_signal i
heard_number k zero f l = a_number k
heard_number k (suc i) f l = inner_number_in k (suc i) f (omega arith) (omega arith) ∙ omega arith

emitted_either : (k i : ℕ) (b : Bool) → k ≤ 65534 → (b ≡ false → i + 1 < 1 + k)
    → number_in (sample_numbers k) (cond b (codes "o") (inner_name (i + 1))) ≡ cond b 1 (i + 2)
emitted_either k i true f h = o_number k
emitted_either k i false f h = inner_number_in k (i + 1) f (omega arith) (h refl) ∙ omega arith

emitted_number : (k i : ℕ) → k ≤ 65534 → i < suc k
    → number_in (sample_numbers k) (emitted_name (suc k) i) ≡ emitted_signal (suc k) i
emitted_number k i f l = emitted_either k i (suc k == i + 1) f (not_last k i l)

grown_halving : (k i depth next : ℕ) → k ≤ 65534 → i < suc k
    → grown_process [] (sample_numbers k) depth next (halving_form (suc k) i) ≡ grown_alone depth (halving (suc k) i)
grown_halving k i depth next f l =
    grown_with (sample_numbers k) depth next (heard_name i) (emitted_name (suc k) i) (heard_signal i) (emitted_signal (suc k) i)
    (heard_number k i f l) (emitted_number k i f l)

-- j of n automata beside one another, from the i-th on
abbrev pub row_grown : ℕ → ℕ → ℕ → ℕ → Grown Processes
row_grown n depth i j = record { whole = row n i j; locals = []; visits = replicate j (halving_visit depth) }

pub grown_row : (k j i depth next : ℕ) → k ≤ 65534 → i + j ≤ suc k
    → grown_rest [] (sample_numbers k) depth next (block_from (row_forms (suc k) i j)) ≡ row_grown (suc k) depth i j
grown_row k zero i depth next f l = refl
grown_row k (suc j) i depth next f l =
    let later = λ (free : ℕ). grown_rest [] (sample_numbers k) depth free (block_from (row_forms (suc k) (i + 1) j)) in
    ap (λ g. beside process g (later (next + length g.locals))) (grown_halving k i depth next f (omega arith))
    ∙ ap (beside process (grown_alone depth (halving (suc k) i))) (grown_row k j (i + 1) depth (next + 0) f (omega arith))
