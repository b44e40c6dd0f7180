-- The numbers of a sample's signals.
use Rattle.std.proofs.Common.{◌≡◌, ℕ, zero, suc, ◌+◌, ◌-◌, ◌<◌, ◌≤◌, List, [], ◌∷◌, false, codes, refl, ◌∙◌, inl, inr, arith}
use Rattle.std.specs.Prelude.{bytes_eq}
use Rattle.std.proofs.lemmas.Bool.{cond-true, cond-false}
use Rattle.argos_expansion.specs.Expansion.{Numbers, number_in, numbered}
use Rattle.argos_sample.specs.SampleForm.{inner_name}
use Rattle.argos_sample.proofs.ResolvingNames.{marks_from, inner_same, inner_differ, inner_not_a, inner_not_o}
use Rattle.argos_sample.proofs.ResolvingScopes.{first_or_later}

-- those of the input and the output
abbrev pub outer_numbers : Numbers
outer_numbers = (codes "o", 1) ∷ (codes "a", 0) ∷ []

-- with those of k signals between automata, from the first on
abbrev pub sample_numbers : ℕ → Numbers
sample_numbers k = numbered (marks_from 1 k) 2 outer_numbers

-- names that differ from this one leave its number
passes_numbers : (k i next : ℕ) (env : Numbers) (name : List ℕ)
    → ((j : ℕ) → i ≤ j → j < i + k → bytes_eq (inner_name j) name ≡ false)
    → number_in (numbered (marks_from i k) next env) name ≡ number_in env name
passes_numbers zero i next env name h = refl
passes_numbers (suc k) i next env name h =
    passes_numbers k (i + 1) (next + 1) ((inner_name i, next) ∷ env) name (λ j l m. h j (omega arith) (omega arith))
    ∙ cond-false _ _ _ (h i (omega arith) (omega arith))

-- the names from the i-th on have the numbers from this one on
found_number : (k i next j : ℕ) (env : Numbers) → i ≤ j → j < i + k → i + k ≤ 65535
    → number_in (numbered (marks_from i k) next env) (inner_name j) ≡ next + (j - i)
found_number zero i next j env h l f = absurd (omega arith)
found_number (suc k) i next j env h l f = elim (first_or_later i j h) [
  | inl e ↦ passes_numbers k (i + 1) (next + 1) ((inner_name i, next) ∷ env) (inner_name j)
      (λ m n o. inner_differ m j (omega arith) (omega arith) (omega arith)) ∙ cond-true _ _ _ (inner_same i j e) ∙ omega arith
  | inr e ↦ found_number k (i + 1) (next + 1) j ((inner_name i, next) ∷ env) e (omega arith) (omega arith) ∙ omega arith
]

pub inner_number_in : (k i : ℕ) → k ≤ 65534 → 1 ≤ i → i < 1 + k → number_in (sample_numbers k) (inner_name i) ≡ i + 1
inner_number_in k i f h l = found_number k 1 2 i outer_numbers h l (omega arith) ∙ omega arith

pub a_number : (k : ℕ) → number_in (sample_numbers k) (codes "a") ≡ 0
a_number k = passes_numbers k 1 2 outer_numbers (codes "a") (λ i h l. inner_not_a i)

pub o_number : (k : ℕ) → number_in (sample_numbers k) (codes "o") ≡ 1
o_number k = passes_numbers k 1 2 outer_numbers (codes "o") (λ i h l. inner_not_o i)
