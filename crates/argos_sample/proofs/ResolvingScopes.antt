-- What the names of a sample are in the scope of its automata.
use Rattle.std.proofs.Common.{◌≡◌, ℕ, zero, suc, ◌+◌, ◌<◌, ◌≤◌, List, [], ◌∷◌, ◌++◌, ◌⊎◌, inl, inr, Bool, true, false, cond}
use Rattle.std.proofs.Common.{codes, Option, Some, None, refl, ◌∙◌, arith, eq-or-lt_of_le}
use Rattle.std.specs.Prelude.{bytes_eq}
use Rattle.std.proofs.lemmas.Bool.{cond-true, cond-false}
use Rattle.argos_grammar.specs.Forms.{Mark}
use Rattle.argos_names.specs.Scope.{Sort, input, output, inner, Scope, Breach, sort_in, with_names, declared_as, declaring}
use Rattle.argos_sample.specs.SampleForm.{mark, inner_name}
use Rattle.argos_sample.proofs.ResolvingNames.{marks_from, inner_same, inner_differ, inner_not_a, inner_not_o}

-- the input and the output
abbrev pub outer_scope : Scope
outer_scope = (codes "o", output) ∷ (codes "a", input) ∷ []

-- with k signals between automata, from the first on
abbrev pub sample_scope : ℕ → Scope
sample_scope k = with_names inner (marks_from 1 k) outer_scope

either_way : (b : Bool) (s : Sort) (o : Option Sort) → o ≡ Some s → cond b (Some s) o ≡ Some s
either_way true s o h = refl
either_way false s o h = h

-- a name of this sort stays so under more names of the sort
stays : (sort : Sort) (ms : List Mark) (s : Scope) (name : List ℕ) → sort_in s name ≡ Some sort
    → sort_in (with_names sort ms s) name ≡ Some sort
stays sort [] s name h = h
stays sort (m ∷ ms) s name h = stays sort ms ((m.name, sort) ∷ s) name (either_way (bytes_eq m.name name) sort _ h)

pub first_or_later : (i j : ℕ) → i ≤ j → (i ≡ j) ⊎ (i + 1 ≤ j)
first_or_later i j h = elim (eq-or-lt_of_le h) [ inl e ↦ inl e | inr l ↦ inr (omega arith) ]

-- each of these names is found as one between automata
found_inner : (k i j : ℕ) (s : Scope) → i ≤ j → j < i + k
    → sort_in (with_names inner (marks_from i k) s) (inner_name j) ≡ Some inner
found_inner zero i j s h l = absurd (omega arith)
found_inner (suc k) i j s h l = elim (first_or_later i j h) [
  | inl e ↦ stays inner (marks_from (i + 1) k) ((inner_name i, inner) ∷ s) (inner_name j) (cond-true _ _ _ (inner_same i j e))
  | inr e ↦ found_inner k (i + 1) j ((inner_name i, inner) ∷ s) e (omega arith)
]

-- another name is what it was before
passes_inner : (k i : ℕ) (s : Scope) (name : List ℕ) → ((j : ℕ) → bytes_eq (inner_name j) name ≡ false)
    → sort_in (with_names inner (marks_from i k) s) name ≡ sort_in s name
passes_inner zero i s name h = refl
passes_inner (suc k) i s name h = passes_inner k (i + 1) ((inner_name i, inner) ∷ s) name h ∙ cond-false _ _ _ (h i)

pub inner_sort : (k i : ℕ) → 1 ≤ i → i < 1 + k → sort_in (sample_scope k) (inner_name i) ≡ Some inner
inner_sort k i h l = found_inner k 1 i outer_scope h l

pub a_sort : (k : ℕ) → sort_in (sample_scope k) (codes "a") ≡ Some input
a_sort k = passes_inner k 1 outer_scope (codes "a") inner_not_a

pub o_sort : (k : ℕ) → sort_in (sample_scope k) (codes "o") ≡ Some output
o_sort k = passes_inner k 1 outer_scope (codes "o") inner_not_o

undeclared : (o : Option Sort) (m : Mark) (bs : List Breach) → o ≡ None → bs ≡ [] → declared_as o m ++ bs ≡ []
undeclared None m bs h e = e
undeclared (Some s) m bs h e = cc

declared_from : (k i : ℕ) (s : Scope) → i + k ≤ 65535 → ((j : ℕ) → i ≤ j → j ≤ 65535 → sort_in s (inner_name j) ≡ None)
    → declaring inner (marks_from i k) s ≡ []
declared_from zero i s l h = refl
declared_from (suc k) i s l h = undeclared _ (mark (inner_name i)) _ (h i (omega arith) (omega arith))
    (declared_from k (i + 1) ((inner_name i, inner) ∷ s) (omega arith)
    (λ j m n. cond-false _ _ _ (inner_differ i j (omega arith) (omega arith) n) ∙ h j (omega arith) n))

-- no name is declared twice
pub declared_once : (k : ℕ) → 1 + k ≤ 65535 → declaring inner (marks_from 1 k) outer_scope ≡ []
declared_once k l = declared_from k 1 outer_scope l (λ j m n. refl)
