-- What the form of a sample expands to, and that it passes no limit.
use Rattle.std.proofs.Common.{◌≡◌, ℕ, zero, suc, ◌+◌, ◌-◌, ◌≤◌, List, [], ◌∷◌, ◌++◌, map, replicate, length, refl}
use Rattle.std.proofs.Common.{sym, ap, subst, ◌∙◌, arith}
use Rattle.std.specs.List.{range_with_len}
use Rattle.std.proofs.lemmas.List.FromFn.{length-map-range_with_len}
use Rattle.argos_base.specs.Limits.{sample_limit}
use Rattle.argos_core.specs.Process.{Process, Processes, local, parallel}
use Rattle.argos_grammar.specs.Forms.{Mark}
use Rattle.argos_expansion.specs.Expansion.{Visit, Grown, visit, local_visit, over, with_locals, expansion}
use Rattle.argos_expansion.specs.Limits.{IsWithin}
use Rattle.argos_sample.specs.SampleForm.{mark, inner_name, inner_marks, sample_form}
use Rattle.argos_sample.specs.SampleModule.{row, sample_module}
use Rattle.argos_sample.proofs.ResolvingNames.{marks_from}
use Rattle.argos_sample.proofs.ResolvingRows.{halving_visit, row_grown, grown_row}
use Rattle.argos_sample.proofs.ResolvingRules.{joined_block, component_with, inner_marks_from}
use Rattle.argos_sample.proofs.ResolvingVisits.{reach_none, within_more, within_equal}

-- the input and the output
abbrev header : Visit
header = record { depth = 0; signals = 2; automata = 0; codes = 0; size = 2 }

-- what stands above the automata, which are under these signals
abbrev above : List Mark → Grown Processes → Grown Process
above ms g =
    let automata = over (visit 2 1) parallel g in
    over header (λ t. t) (over (local_visit 1 ms) (local (range_with_len 2 (length ms))) (with_locals ms automata))

abbrev joined_grown : ℕ → List Mark → Grown Process
joined_grown n ms = above ms (row_grown n 3 0 n)

abbrev joined_expansion : ℕ → List Mark → Grown Process
joined_expansion n ms = expansion (component_with (joined_block n ms) ∷ [])

joined_from : (k : ℕ) → suc k ≤ 65534
    → joined_expansion (suc (suc k)) (marks_from 1 (suc k)) ≡ joined_grown (suc (suc k)) (marks_from 1 (suc k))
joined_from k l =
    let free = 2 + length (marks_from 1 (suc k)) in
    ap (above (marks_from 1 (suc k))) (grown_row (suc k) (suc (suc k)) 0 3 free l (omega arith))

joined : (k : ℕ) (ms : List Mark) → suc k ≤ 65534 → ms ≡ marks_from 1 (suc k)
    → joined_expansion (suc (suc k)) ms ≡ joined_grown (suc (suc k)) ms
joined k ms l e =
    subst (λ names. joined_expansion (suc (suc k)) names ≡ joined_grown (suc (suc k)) names) (sym e) (joined_from k l)

sample_joined : (k : ℕ) → suc (suc k) ≤ sample_limit
    → expansion (sample_form (suc (suc k))).components ≡ joined_grown (suc (suc k)) (inner_marks (suc (suc k)))
sample_joined k l = joined k (inner_marks (suc (suc k))) (omega arith) (inner_marks_from (suc k))

length-inner_marks : (k : ℕ) → length (inner_marks (suc k)) ≡ k
length-inner_marks k = length-map-range_with_len (λ i. mark (inner_name i)) 1 (suc k - 1) ∙ omega arith

marked_names : (is : List ℕ) → map inner_name is ≡ map (λ m. m.name) (map (λ i. mark (inner_name i)) is) ++ []
marked_names [] = refl
marked_names (i ∷ is) = ap (λ names. inner_name i ∷ names) (marked_names is)

joined_within : (k : ℕ) (ms : List Mark) → suc k ≤ sample_limit → length ms ≡ k → IsWithin (joined_grown (suc k) ms).visits
joined_within k ms l e =
    let first = header ∷ [] in
    let second = header ∷ local_visit 1 ms ∷ [] in
    let third = header ∷ local_visit 1 ms ∷ visit 2 1 ∷ [] in
    let row = replicate (suc k) (halving_visit 3) in
    within_more [] header (local_visit 1 ms ∷ visit 2 1 ∷ row) 0 0 0 reach_none (omega arith) (omega arith) (λ one.
    within_more first (local_visit 1 ms) (visit 2 1 ∷ row) _ _ _ one (omega arith) (omega arith) (λ two.
    within_more second (visit 2 1) row _ _ _ two (omega arith) (omega arith) (λ three.
    within_equal third (halving_visit 3) (suc k) _ _ _ three (omega arith) (omega arith))))

pub sample_within : (n : ℕ) → 1 ≤ n → n ≤ sample_limit → IsWithin (expansion (sample_form n).components).visits
sample_within zero h l = absurd (omega arith)
sample_within (suc zero) h l = (refl, (refl, tt))
sample_within (suc (suc k)) h l =
    let under_these = joined_within (suc k) (inner_marks (suc (suc k))) l (length-inner_marks (suc k)) in
    subst (λ g. IsWithin g.visits) (sym (sample_joined k l)) under_these

pub sample_locals : (n : ℕ) → 1 ≤ n → n ≤ sample_limit → (sample_module n).locals ≡ (expansion (sample_form n).components).locals
sample_locals zero h l = absurd (omega arith)
sample_locals (suc zero) h l = refl
sample_locals (suc (suc k)) h l =
    marked_names (range_with_len 1 (suc (suc k) - 1)) ∙ ap (λ g. g.locals) (sym (sample_joined k l))

pub sample_whole : (n : ℕ) → 1 ≤ n → n ≤ sample_limit → (sample_module n).process ≡ (expansion (sample_form n).components).whole
sample_whole zero h l = absurd (omega arith)
sample_whole (suc zero) h l = refl
sample_whole (suc (suc k)) h l =
    ap (λ many. local (range_with_len 2 many) (parallel (row (suc (suc k)) 0 (suc (suc k))))) (sym (length-inner_marks (suc k)))
    ∙ ap (λ g. g.whole) (sym (sample_joined k l))
