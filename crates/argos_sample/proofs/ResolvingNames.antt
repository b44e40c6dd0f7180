-- The names of the signals between the automata of a sample.
use Rattle.std.proofs.Common.{◌≡◌, ℕ, ◌≢◌, ◌≤◌, List, [], ◌∷◌, true, false, map, codes, refl, sym, ap, ◌∙◌}
use Rattle.std.specs.Prelude.{bytes_eq}
use Rattle.std.specs.List.{range_with_len}
use Rattle.std.proofs.lemmas.Slice.Eq.{bytes_eq-Decides}
use Rattle.argos_base.specs.Spelling.{number_of}
use Rattle.argos_base.proofs.Bools.{is_false}
use Rattle.argos_grammar.specs.Forms.{Mark}
use Rattle.argos_grammar.proofs.PrintedNumbers.{decimal_spells}
use Rattle.argos_sample.specs.SampleForm.{mark, inner_name}

-- those of k signals, from the i-th on
abbrev pub marks_from : ℕ → ℕ → List Mark
marks_from i k = map (λ j. mark (inner_name j)) (range_with_len i k)

-- the number that stands behind the first byte
abbrev number_behind : List ℕ → ℕ
number_behind [] = 0
number_behind (b ∷ bs) = number_of bs

inner_number : (i : ℕ) → i ≤ 65535 → number_behind (inner_name i) ≡ i
inner_number i h = (decimal_spells i h).1

-- one name is itself, two of them differ
pub inner_same : (i j : ℕ) → i ≡ j → bytes_eq (inner_name i) (inner_name j) ≡ true
inner_same i j e = (bytes_eq-Decides (inner_name i) (inner_name j)).1 (ap inner_name e)

pub inner_differ : (i j : ℕ) → i ≢ j → i ≤ 65535 → j ≤ 65535 → bytes_eq (inner_name i) (inner_name j) ≡ false
inner_differ i j other h l = is_false _ (λ t.
    let same : inner_name i ≡ inner_name j = (bytes_eq-Decides (inner_name i) (inner_name j)).0 t in
    other (sym (inner_number i h) ∙ ap number_behind same ∙ inner_number j l))

-- they differ from the names of the input and the output by their first bytes
pub inner_not_a : (i : ℕ) → bytes_eq (inner_name i) (codes "a") ≡ false
inner_not_a i = refl

pub inner_not_o : (i : ℕ) → bytes_eq (inner_name i) (codes "o") ≡ false
inner_not_o i = refl
