-- No name rule is broken in the form of a sample.
use Rattle.std.proofs.Common.{◌≡◌, ℕ, zero, suc, ◌+◌, ◌<◌, ◌≤◌, List, [], ◌∷◌, ◌++◌, Bool, true, false, Option, Some, cond}
use Rattle.std.proofs.Common.{codes, ◌==◌, refl, sym, ap, ap₂, subst, ◌∙◌, arith}
use Rattle.std.proofs.lemmas.Bool.Decides.{nat_tests}
use Rattle.argos_base.specs.Limits.{sample_limit}
use Rattle.argos_grammar.specs.Forms.{Mark, ProcessForm, automaton, local, BlockForm, no_processes, process, no_states, state}
use Rattle.argos_grammar.specs.Forms.{plain, ComponentForm}
use Rattle.argos_grammar.specs.Views.{block_from}
use Rattle.argos_names.specs.Scope.{Sort, input, output, inner, Scope, Breach, Around, sort_in, read_as, emitted_as, in_process}
use Rattle.argos_names.specs.Scope.{in_block, breaches}
use Rattle.argos_sample.specs.SampleForm.{mark, inner_name, heard_name, emitted_name, head_form, move_form, halving_form}
use Rattle.argos_sample.specs.SampleForm.{row_forms, inner_marks, sample_form}
use Rattle.argos_sample.proofs.ResolvingNames.{marks_from}
use Rattle.argos_sample.proofs.ResolvingScopes.{sample_scope, inner_sort, a_sort, o_sort, declared_once}

-- an automaton that hears this and emits that
abbrev pub form_with : List ℕ → List ℕ → ProcessForm
form_with heard out = automaton (mark (codes "Off"))
    (state (head_form "Off" (move_form heard [] "On")) plain
    (state (head_form "On" (move_form heard (mark out ∷ []) "Off")) plain no_states))

-- what this name breaks where it is read, and where it is emitted
abbrev read_in : Scope → List ℕ → List Breach
read_in s name = read_as (sort_in s name) (mark name)

abbrev emitted_in : Scope → List ℕ → List Breach
emitted_in s name = emitted_as (sort_in s name) (mark name)

form_sound : (a : Around) (s : Scope) (heard out : List ℕ) → read_in s heard ≡ [] → emitted_in s out ≡ []
    → in_process a s (form_with heard out) ≡ []
form_sound a s heard out h e = rw (h, e) refl

read_by : (o : Option Sort) (m : Mark) (s : Sort) → o ≡ Some s → read_as (Some s) m ≡ [] → read_as o m ≡ []
read_by o m s e h = ap (λ x. read_as x m) e ∙ h

emitted_by : (o : Option Sort) (m : Mark) (s : Sort) → o ≡ Some s → emitted_as (Some s) m ≡ [] → emitted_as o m ≡ []
emitted_by o m s e h = ap (λ x. emitted_as x m) e ∙ h

-- what the i-th of several automata hears can be read
heard_sound : (k i : ℕ) → i < suc k → read_in (sample_scope k) (heard_name i) ≡ []
heard_sound k zero l = read_by _ (mark (codes "a")) input (a_sort k) refl
heard_sound k (suc i) l = read_by _ (mark (inner_name (suc i))) inner (inner_sort k (suc i) (omega arith) (omega arith)) refl

-- what it emits can be emitted: the last one emits the output, each of the others a signal between automata
emitted_either : (k i : ℕ) (b : Bool) → (b ≡ false → i + 1 < 1 + k)
    → emitted_in (sample_scope k) (cond b (codes "o") (inner_name (i + 1))) ≡ []
emitted_either k i true h = emitted_by _ (mark (codes "o")) output (o_sort k) refl
emitted_either k i false h = emitted_by _ (mark (inner_name (i + 1))) inner (inner_sort k (i + 1) (omega arith) (h refl)) refl

pub not_last : (k i : ℕ) → i < suc k → (suc k == i + 1) ≡ false → i + 1 < 1 + k
not_last k i l e = grind (arith, nat_tests)

emitted_sound : (k i : ℕ) → i < suc k → emitted_in (sample_scope k) (emitted_name (suc k) i) ≡ []
emitted_sound k i l = emitted_either k i (suc k == i + 1) (not_last k i l)

halving_sound : (a : Around) (k i : ℕ) → i < suc k → in_process a (sample_scope k) (halving_form (suc k) i) ≡ []
halving_sound a k i l =
    form_sound a (sample_scope k) (heard_name i) (emitted_name (suc k) i) (heard_sound k i l) (emitted_sound k i l)

both_empty : (xs ys : List Breach) → xs ≡ [] → ys ≡ [] → xs ++ ys ≡ []
both_empty xs ys h e = ap₂ (λ x y. x ++ y) h e

row_sound : (a : Around) (k j i : ℕ) → i + j ≤ suc k → in_block a (sample_scope k) (block_from (row_forms (suc k) i j)) ≡ []
row_sound a k zero i l = refl
row_sound a k (suc j) i l = both_empty _ _ (halving_sound a k i (omega arith)) (row_sound a k j (i + 1) (omega arith))

-- n automata under these signals
abbrev pub joined_block : ℕ → List Mark → BlockForm
joined_block n ms = process (local ms (block_from (row_forms n 0 n))) no_processes

abbrev pub component_with : BlockForm → ComponentForm
component_with block = record {
  name = mark (codes "main");
  inputs = mark (codes "a") ∷ [];
  outputs = mark (codes "o") ∷ [];
  block = block;
}

pub inner_marks_from : (k : ℕ) → inner_marks (suc k) ≡ marks_from 1 k
inner_marks_from k = ap (marks_from 1) (omega arith)

sound_from : (k : ℕ) → suc k ≤ sample_limit → breaches (component_with (joined_block (suc k) (marks_from 1 k)) ∷ []) ≡ []
sound_from k l =
    let around : Around = record { earlier = []; names = codes "main" ∷ [] } in
    ap (λ x. (x ++ []) ++ []) (both_empty _ _ (declared_once k (omega arith)) (row_sound around k (suc k) 0 (omega arith)))

joined_sound : (k : ℕ) (ms : List Mark) → suc k ≤ sample_limit → ms ≡ marks_from 1 k
    → breaches (component_with (joined_block (suc k) ms) ∷ []) ≡ []
joined_sound k ms l e = subst (λ names. breaches (component_with (joined_block (suc k) names) ∷ []) ≡ []) (sym e) (sound_from k l)

pub sample_sound : (n : ℕ) → 1 ≤ n → n ≤ sample_limit → breaches (sample_form n).components ≡ []
sample_sound zero h l = absurd (omega arith)
sample_sound (suc zero) h l = refl
sample_sound (suc (suc k)) h l = joined_sound (suc k) (inner_marks (suc (suc k))) l (inner_marks_from (suc k))
