-- The signals between the automata of a sample are called c and a number, which is a name.
use Rattle.std.proofs.Common.{◌≡◌, ℕ, zero, suc, ◌+◌, ◌<◌, ◌≤◌, ◌++◌, List, Bool, true, false, decimal, refl, ap, sym, ◌∙◌, arith}
use Rattle.std.specs.Prelude.{codes, cond, ◌==◌}
use Rattle.std.specs.List.{list_all, range_with_len}
use Rattle.std.specs.Fmt.{digits}
use Rattle.argos_base.specs.Limits.{sample_limit}
use Rattle.argos_base.specs.Spelling.{is_name, reserved_words}
use Rattle.argos_base.proofs.Bools.{and_first, and_second}
use Rattle.argos_sample.specs.SampleForm.{heard_name, emitted_name}
use Rattle.argos_sample.specs.SampleForm as form

abbrev is_inner : ℕ → Bool
is_inner i = is_name (codes "c" ++ decimal i)

-- each is tried
all_inner : list_all is_inner (range_with_len 0 61) ≡ true
unfolding reserved_words digits
all_inner = refl

-- what all numbers from a on pass each of them passes
each_passes : (p : ℕ → Bool) (a n i : ℕ) → list_all p (range_with_len a n) ≡ true → i < n → p (a + i) ≡ true
each_passes p a zero i h l = absurd (omega arith)
each_passes p a (suc n) zero h l =
    let here : a + 0 ≡ a = omega arith in
    ap p here ∙ and_first (p a) _ h
each_passes p a (suc n) (suc i) h l =
    let next : a + suc i ≡ a + 1 + i = omega arith in
    ap p next ∙ each_passes p (a + 1) n i (and_second (p a) _ h) (omega arith)

pub inner_name : (i : ℕ) → i ≤ sample_limit → is_name (codes "c" ++ decimal i) ≡ true
inner_name i h =
    let from_none : 0 + i ≡ i = omega arith in
    ap is_inner (sym from_none) ∙ each_passes is_inner 0 61 i all_inner (omega arith)

-- what an automaton hears and emits
input_name : is_name (codes "a") ≡ true
unfolding reserved_words
input_name = refl

pub output_name : is_name (codes "o") ≡ true
unfolding reserved_words
output_name = refl

pub heard : (i : ℕ) → i ≤ sample_limit → is_name (heard_name i) ≡ true
heard zero h = input_name
heard (suc i) h = inner_name (suc i) h

either : (b : Bool) (x y : List ℕ) → is_name x ≡ true → is_name y ≡ true → is_name (cond b x y) ≡ true
either true x y h k = h
either false x y h k = k

pub emitted : (n i : ℕ) → i + 1 ≤ sample_limit → is_name (emitted_name n i) ≡ true
emitted n i h = either (n == i + 1) (codes "o") (form.inner_name (i + 1)) output_name (inner_name (i + 1) h)
