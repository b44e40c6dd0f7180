-- How long the text of a sample is at most.
use Rattle.std.proofs.Common.{◌≡◌, ℕ, zero, suc, ◌+◌, ◌-◌, ◌*◌, ◌≤◌, List, [], ◌∷◌, ◌++◌, map, length, ap, arith, length-append}
use Rattle.std.specs.Prelude.{codes}
use Rattle.std.specs.List.{join_with_byte, range_with_len}
use Rattle.std.specs.Fmt.{digits}
use Rattle.argos_base.specs.Limits.{sample_limit, text_limit}
use Rattle.argos_base.proofs.Places.{is_name-short}
use Rattle.argos_grammar.specs.Views.{block_from}
use Rattle.argos_grammar.specs.Printed.{Words, w, braced_words, names_words, process_words, block_words, program_words, text_of_words}
use Rattle.argos_sample.specs.SampleForm.{mark, inner_name, heard_name, emitted_name, halving_form, row_forms, inner_marks, sample_block, sample_form, sample_program}
use Rattle.argos_sample.proofs.Halving.{halving_of}
use Rattle.argos_sample.proofs.SampleNames as names

-- the bytes of words, with one more behind each
abbrev span : Words → ℕ
span [] = 0
span (w ∷ ws) = length w + 1 + span ws

span-append : (ws vs : Words) → span (ws ++ vs) ≡ span ws + span vs
span-append [] vs = omega arith
span-append (w ∷ ws) vs = let more = span-append ws vs in omega arith

length-joined : (ws : Words) → length (join_with_byte 32 ws) ≤ span ws
length-joined [] = omega arith
length-joined (w ∷ []) = omega arith
length-joined (w ∷ v ∷ ws) = let more = length-joined (v ∷ ws) in omega (arith, length-append w (32 ∷ join_with_byte 32 (v ∷ ws)))

length-text : (ws : Words) → length (text_of_words ws) ≤ span ws + 1
length-text ws = omega (arith, length-append (join_with_byte 32 ws) (10 ∷ []), length-joined ws)

-- names have at most 64 bytes
inner_short : (i : ℕ) → i ≤ sample_limit → length (inner_name i) ≤ 64
inner_short i h = is_name-short (inner_name i) (names.inner_name i h)

heard_short : (i : ℕ) → i ≤ sample_limit → length (heard_name i) ≤ 64
heard_short i h = is_name-short (heard_name i) (names.heard i h)

emitted_short : (n i : ℕ) → i + 1 ≤ sample_limit → length (emitted_name n i) ≤ 64
emitted_short n i h = is_name-short (emitted_name n i) (names.emitted n i h)

-- one automaton
halving_span : (heard emitted : List ℕ) → span (process_words (halving_of heard emitted)) ≤ 200 + length heard + length heard + length emitted
halving_span heard emitted = omega arith

form_span : (n i : ℕ) → i + 1 ≤ sample_limit → span (process_words (halving_form n i)) ≤ 392
form_span n i h =
    let spans : span (process_words (halving_form n i)) ≤ 200 + length (heard_name i) + length (heard_name i) + length (emitted_name n i) =
    halving_span (heard_name i) (emitted_name n i) in
    let heard = heard_short i (omega arith) in
    let emitted = emitted_short n i h in
    omega arith

-- automata in a row
row_span : (n i k : ℕ) → i + k ≤ sample_limit → span (block_words (block_from (row_forms n i k))) ≤ 395 * k
row_span n i zero h = omega arith
row_span n i (suc zero) h = let one = form_span n i (omega arith) in omega arith
row_span n i (suc (suc k)) h =
    let one = form_span n i (omega arith) in
    let more = row_span n (i + 1) (suc k) (omega arith) in
    omega (arith, span-append (process_words (halving_form n i)) (codes "||" ∷ block_words (block_from (row_forms n (i + 1) (suc k)))))

-- the signals between them
marks_span : (a k : ℕ) → a + k ≤ sample_limit + 1 → span (names_words (map (λ i. mark (inner_name i)) (range_with_len a k))) ≤ 67 * k
marks_span a zero h = omega arith
marks_span a (suc zero) h = let one = inner_short a (omega arith) in omega arith
marks_span a (suc (suc k)) h =
    let one = inner_short a (omega arith) in
    let more = marks_span (a + 1) (suc k) (omega arith) in
    omega arith

-- words in braces, and those behind a list of names
closed_span : (ws : Words) → span (ws ++ w "}") ≡ span ws + 2
closed_span ws = span-append ws (w "}")

local_span : (ns ws : Words) → span (ns ++ w "in" ++ braced_words ws) ≡ span ns + 3 + (2 + span (ws ++ w "}"))
local_span ns ws =
    let split : span (ns ++ w "in" ++ braced_words ws) ≡ span (ns ++ w "in") + span (braced_words ws) =
    span-append (ns ++ w "in") (braced_words ws) in
    let front : span (ns ++ w "in") ≡ span ns + 3 = span-append ns (w "in") in
    omega arith

block_span : (n : ℕ) → n ≤ sample_limit → span (block_words (sample_block n)) ≤ 462 * n + 30
block_span zero h = omega arith
block_span (suc zero) h = let one = form_span 1 0 (omega arith) in omega arith
block_span (suc (suc k)) h =
    let n : ℕ = suc (suc k) in
    let marks : span (names_words (inner_marks n)) ≤ 67 * (n - 1) = marks_span 1 (n - 1) (omega arith) in
    let row : span (block_words (block_from (row_forms n 0 n))) ≤ 395 * n = row_span n 0 n (omega arith) in
    let whole : span (block_words (sample_block n)) ≡ 6 + (span (names_words (inner_marks n)) + 3 + (2 + span (block_words (block_from (row_forms n 0 n)) ++ w "}"))) =
    ap (λ x. 6 + x) (local_span (names_words (inner_marks n)) (block_words (block_from (row_forms n 0 n)))) in
    let closed : span (block_words (block_from (row_forms n 0 n)) ++ w "}") ≡ span (block_words (block_from (row_forms n 0 n))) + 2 = closed_span (block_words (block_from (row_forms n 0 n))) in
    omega arith

program_span : (n : ℕ) → n ≤ sample_limit → span (program_words (sample_form n)) ≤ 462 * n + 200
unfolding digits
program_span n h =
    let block = block_span n h in
    let closed : span (block_words (sample_block n) ++ w "}") ≡ span (block_words (sample_block n)) + 2 = closed_span (block_words (sample_block n)) in
    let last : span (block_words (sample_block n) ++ w "}" ++ []) ≡ span (block_words (sample_block n) ++ w "}") + 0 = span-append (block_words (sample_block n) ++ w "}") [] in
    omega arith

pub samples_are_short : (n : ℕ) → n ≤ sample_limit → length (sample_program n) ≤ text_limit
samples_are_short n h =
    let text = length-text (program_words (sample_form n)) in
    let span = program_span n h in
    omega arith
