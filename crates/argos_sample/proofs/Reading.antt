-- The text of a sample reads back: its tree is well formed, and nothing in it is nested too deep.
use Rattle.std.proofs.Common.{◌≡◌, ℕ, zero, suc, ◌+◌, ◌-◌, ◌≤◌, List, [], ◌∷◌, ◌++◌, Option, Some, None, Bool, true, false, map, length, refl, ap, subst, ◌∙◌, arith}
use Rattle.std.specs.Prelude.{codes, cond, not, ◌&&◌}
use Rattle.std.specs.List.{list_all, range_with_len}
use Rattle.std.specs.Fmt.{digits}
use Rattle.argos_base.specs.Limits.{sample_limit}
use Rattle.argos_base.specs.Spelling.{is_name, is_word, is_free_word, reserved_words}
use Rattle.argos_base.proofs.Bools.{and_first, and_second, and_both, or_left, not_false}
use Rattle.argos_tokens.specs.Tokens.{is_token}
use Rattle.argos_tokens.proofs.TokensOnce.{tokens_once}
use Rattle.argos_grammar.specs.Faults.{Open, bracket, open_behind, is_too_deep}
use Rattle.argos_grammar.specs.Forms.{Mark, ProgramForm}
use Rattle.argos_grammar.specs.Printed.{Words, w, braced_words, names_words, process_words, block_words, program_words, program_text, text_of_words}
use Rattle.argos_grammar.specs.Text.{IsMark, AreMarks, HasSome, IsProcess, IsBlock, IsProgramForm, IsShallow, IsNestedWithin, IsText}
use Rattle.argos_grammar.specs.Unplaced.{AreEqualPrograms}
use Rattle.argos_grammar.specs.Views.{block_from}
use Rattle.argos_grammar.proofs.Leaves.{name_opens_nothing}
use Rattle.argos_grammar.proofs.PrintedTexts.{program_read_back}
use Rattle.argos_grammar.proofs.PrintedTokens.{tokens_from, tokens_of_words}
use Rattle.argos_sample.specs.SampleForm.{mark, inner_name, heard_name, emitted_name, halving_form, row_forms, inner_marks, sample_block, sample_form, sample_program}
use Rattle.argos_sample.proofs.Halving.{halving_of}
use Rattle.argos_sample.proofs.SampleNames as names

-- what is open after these words, if each of them is a token that isn't nested too deep
run : List Open → Words → Option (List Open)
run os [] = Some os
run os (t ∷ ws) = cond (is_token t && not (is_too_deep os t)) (run (open_behind os t) ws) None

taken : (b : Bool) (o : Option (List Open)) (os : List Open) → cond b o None ≡ Some os → (b ≡ true) × (o ≡ Some os)
taken true o os h = (refl, h)
taken false o os h = cc h

run_shallow : (n : ℕ) (os end : List Open) (ws : Words) → run os ws ≡ Some end → IsShallow os (tokens_from n ws)
unfolding run
run_shallow n os end [] h = tt
run_shallow n os end (t ∷ ws) h =
    let step = taken (is_token t && not (is_too_deep os t)) (run (open_behind os t) ws) end h in
    (not_false (is_too_deep os t) (and_second (is_token t) _ step.0), run_shallow (n + length t + 1) (open_behind os t) end ws step.1)

run_tokens : (os end : List Open) (ws : Words) → run os ws ≡ Some end → list_all is_token ws ≡ true
unfolding run
run_tokens os end [] h = refl
run_tokens os end (t ∷ ws) h =
    let step = taken (is_token t && not (is_too_deep os t)) (run (open_behind os t) ws) end h in
    and_both (is_token t) _ (and_first (is_token t) _ step.0) (run_tokens (open_behind os t) end ws step.1)

-- words, and more words behind them
run_choice : (b : Bool) (o o' more : Option (List Open)) (mid : List Open) → cond b o None ≡ Some mid → (o ≡ Some mid → o' ≡ more)
    → cond b o' None ≡ more
run_choice true o o' more mid h f = f h
run_choice false o o' more mid h f = cc h

run_then : (os mid : List Open) (ws vs : Words) → run os ws ≡ Some mid → run os (ws ++ vs) ≡ run mid vs
unfolding run
run_then os mid [] vs h = ap (λ o. run o vs) (cc h)
run_then os mid (t ∷ ws) vs h =
    run_choice (is_token t && not (is_too_deep os t)) (run (open_behind os t) ws) (run (open_behind os t) (ws ++ vs)) (run mid vs) mid h (run_then (open_behind os t) mid ws vs)

-- a name within a bracket opens and closes nothing
name_token : (t : List ℕ) → is_name t ≡ true → is_token t ≡ true
name_token t h = or_left _ _ (or_left (is_word t) _ (and_first (is_word t) _ (and_first (is_free_word t) _ h)))

name_run : (os : List Open) (t : List ℕ) (ws : Words) → is_name t ≡ true → run (bracket ∷ os) (t ∷ ws) ≡ run (bracket ∷ os) ws
unfolding run
name_run os t ws h =
    let nothing = name_opens_nothing t (bracket ∷ os) h in
    let next : Option (List Open) = run (open_behind (bracket ∷ os) t) ws in
    ap (λ b. cond (b && not (is_too_deep (bracket ∷ os) t)) next None) (name_token t h)
    ∙ ap (λ b. cond (not b) next None) nothing.0
    ∙ ap (λ (o : List Open). run o ws) nothing.1

-- one automaton, alone or in a row
level : Bool → List Open
level true = bracket ∷ bracket ∷ []
level false = bracket ∷ []

-- what stands behind the first, the second and the third name that isn't fixed
third : Words
third = codes "goto" ∷ codes "Off" ∷ codes ";" ∷ codes "}" ∷ codes "}" ∷ []

second : List ℕ → Words
second emitted = codes "emit" ∷ emitted ∷ third

first : List ℕ → List ℕ → Words
first heard emitted = codes "goto" ∷ codes "On" ∷ codes ";" ∷ codes "}" ∷ codes "state" ∷ codes "On" ∷ codes "{" ∷ codes "when" ∷ heard ∷ second emitted

halving_run : (inside : Bool) (heard emitted : List ℕ) → is_name heard ≡ true → is_name emitted ≡ true
    → run (level inside) (process_words (halving_of heard emitted)) ≡ Some (level inside)
unfolding run level first second third
halving_run true heard emitted h e =
    name_run (bracket ∷ bracket ∷ bracket ∷ []) heard (first heard emitted) h
    ∙ name_run (bracket ∷ bracket ∷ bracket ∷ []) heard (second emitted) h
    ∙ name_run (bracket ∷ bracket ∷ bracket ∷ []) emitted third e
halving_run false heard emitted h e =
    name_run (bracket ∷ bracket ∷ []) heard (first heard emitted) h
    ∙ name_run (bracket ∷ bracket ∷ []) heard (second emitted) h
    ∙ name_run (bracket ∷ bracket ∷ []) emitted third e

form_run : (inside : Bool) (n i : ℕ) → i + 1 ≤ sample_limit → run (level inside) (process_words (halving_form n i)) ≡ Some (level inside)
form_run inside n i h = halving_run inside (heard_name i) (emitted_name n i) (names.heard i (omega arith)) (names.emitted n i h)

-- automata in a row
row_run : (n i k : ℕ) → i + suc k ≤ sample_limit → run (level true) (block_words (block_from (row_forms n i (suc k)))) ≡ Some (level true)
unfolding run level
row_run n i zero h = form_run true n i (omega arith)
row_run n i (suc k) h =
    let one : run (level true) (process_words (halving_form n i) ++ w "||") ≡ Some (level true) =
    run_then (level true) (level true) (process_words (halving_form n i)) (w "||") (form_run true n i (omega arith)) in
    run_then (level true) (level true) (process_words (halving_form n i) ++ w "||") (block_words (block_from (row_forms n (i + 1) (suc k)))) one
    ∙ row_run n (i + 1) k (omega arith)

-- the signals between them
marks_from : ℕ → ℕ → List Mark
marks_from a k = map (λ i. mark (inner_name i)) (range_with_len a k)

marks_run : (a k : ℕ) → 1 ≤ k → a + k ≤ sample_limit + 1 → run (level false) (names_words (marks_from a k)) ≡ Some (level false)
unfolding run level marks_from
marks_run a zero least h = absurd (omega arith)
marks_run a (suc zero) least h = name_run [] (inner_name a) [] (names.inner_name a (omega arith))
marks_run a (suc (suc k)) least h =
    name_run [] (inner_name a) (codes "," ∷ names_words (marks_from (a + 1) (suc k))) (names.inner_name a (omega arith))
    ∙ marks_run (a + 1) (suc k) (omega arith) (omega arith)

block_run : (n : ℕ) → 1 ≤ n → n ≤ sample_limit → run (level false) (block_words (sample_block n)) ≡ Some (level false)
unfolding run level marks_from
block_run zero least h = absurd (omega arith)
block_run (suc zero) least h = form_run false 1 0 (omega arith)
block_run (suc (suc k)) least h =
    let n : ℕ = suc (suc k) in
    let marks : Words = names_words (inner_marks n) in
    let row : Words = block_words (block_from (row_forms n 0 n)) in
    let before : run (level false) (marks ++ w "in") ≡ Some (level false) =
    run_then (level false) (level false) marks (w "in") (marks_run 1 (n - 1) (omega arith) (omega arith)) in
    run_then (level false) (level false) (marks ++ w "in") (braced_words row) before
    ∙ run_then (level true) (level true) row (w "}") (row_run n 0 (suc k) (omega arith))

program_run : (n : ℕ) → 1 ≤ n → n ≤ sample_limit → run [] (program_words (sample_form n)) ≡ Some []
unfolding run level digits
program_run n least h =
    let block : Words = block_words (sample_block n) in
    let closed : run (level false) (block ++ w "}") ≡ Some [] = run_then (level false) (level false) block (w "}") (block_run n least h) in
    run_then (level false) [] (block ++ w "}") [] closed

nested_within : (n : ℕ) → 1 ≤ n → n ≤ sample_limit → IsNestedWithin (program_text (sample_form n))
nested_within n least h = λ ts tokens.
    let ws : Words = program_words (sample_form n) in
    let whole = program_run n least h in
    subst (IsShallow []) (tokens_once (text_of_words ws) (tokens_from 0 ws) ts (tokens_of_words ws (run_tokens [] [] ws whole)) tokens) (run_shallow 0 [] [] ws whole)

-- the tree is well formed
off : IsMark (mark (codes "Off"))
unfolding reserved_words
off = refl

on : IsMark (mark (codes "On"))
unfolding reserved_words
on = refl

halving_formed : (heard emitted : List ℕ) → is_name heard ≡ true → is_name emitted ≡ true → IsProcess (halving_of heard emitted)
halving_formed heard emitted h e = (off, ((off, ((h, tt, on), tt), tt), tt, ((on, ((h, (e, tt), off), tt), tt), tt, refl)))

form_formed : (n i : ℕ) → i + 1 ≤ sample_limit → IsProcess (halving_form n i)
form_formed n i h = halving_formed (heard_name i) (emitted_name n i) (names.heard i (omega arith)) (names.emitted n i h)

row_formed : (n i k : ℕ) → i + k ≤ sample_limit → IsBlock 0 (block_from (row_forms n i k))
row_formed n i zero h = refl
row_formed n i (suc k) h = (form_formed n i (omega arith), row_formed n (i + 1) k (omega arith))

marks_formed : (a k : ℕ) → a + k ≤ sample_limit + 1 → AreMarks (marks_from a k)
unfolding marks_from
marks_formed a zero h = tt
marks_formed a (suc k) h = (names.inner_name a (omega arith), marks_formed (a + 1) k (omega arith))

some_marks : (a k : ℕ) → 1 ≤ k → HasSome (marks_from a k)
unfolding marks_from
some_marks a zero h = absurd (omega arith)
some_marks a (suc k) h = tt

block_formed : (n : ℕ) → 1 ≤ n → n ≤ sample_limit → IsBlock 1 (sample_block n)
unfolding marks_from
block_formed zero least h = absurd (omega arith)
block_formed (suc zero) least h = (form_formed 1 0 (omega arith), refl)
block_formed (suc (suc k)) least h =
    let n : ℕ = suc (suc k) in
    ((some_marks 1 (n - 1) (omega arith), marks_formed 1 (n - 1) (omega arith), row_formed n 0 n (omega arith)), refl)

main_name : IsMark (mark (codes "main"))
unfolding reserved_words
main_name = refl

program_formed : (n : ℕ) → 1 ≤ n → n ≤ sample_limit → IsProgramForm (sample_form n)
program_formed n least h = (refl, tt, ((main_name, (names.heard 0 (omega arith), tt), (names.output_name, tt), block_formed n least h), tt))

-- what is printed is a text of the tree apart from places
pub sample_reads : (n : ℕ) → 1 ≤ n → n ≤ sample_limit → (t : ProgramForm) × IsText (sample_program n) t × AreEqualPrograms t (sample_form n)
sample_reads n least h = program_read_back (sample_form n) (program_formed n least h) (nested_within n least h)
