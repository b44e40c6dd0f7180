-- Taking words, numbers, literals and choices from a line.
use Rattle.std.proofs.Common.{◌≡◌, ℕ, ◌-◌, ◌^◌, ◌<◌, ◌≤◌, List, [], ◌∷◌, ◌++◌, Bool, true, false, not, ◌&&◌, cond, Option, Some, None, IsTrue, min, refl, sym, ap, ◌∙◌, arith}
use Rattle.std.specs.Prelude.{nat_eq, nat_lt, is_some, if◌then◌else◌}
use Rattle.std.specs.Borrow.{Bor}
use Rattle.std.proofs.lemmas.Bool.Decides.{nat_tests}
use Rattle.argos_base.specs.Names.{Spelled}
use Rattle.argos_base.specs.Spelling.{is_numeral, number_of}
use Rattle.argos_base.proofs.Bools.{and_first, and_second, not_false}
use Rattle.line_format.specs.Lines.{lacks, IsCut}
use Rattle.line_format.proofs.Options.{only_if_true, some_is}
use Rattle.eqn_file.specs.inner.Words.{on_first, split, words_left}
use Rattle.eqn_file.specs.inner.WordReading.{number}
use Rattle.eqn_file.specs.inner.Taking.{IsNumber}
use Rattle.eqn_file.proofs.SpacedWords.{IsSome, first, split_some}

-- the words of bytes without a space, and of those cut at the first one
split-lacking : (w : Spelled) → IsTrue (lacks 32 w) → split w ≡ w ∷ []
split-lacking [] h = refl
split-lacking (b ∷ w) h = ap (λ t. cond t ([] ∷ split w) (on_first b (split w))) (not_false _ (and_first _ _ h)) ∙ ap (λ z. on_first b z) (split-lacking w (and_second (not (nat_eq b 32)) _ h))

split-before : (w : Spelled) (bs : List ℕ) → IsTrue (lacks 32 w) → split (w ++ 32 ∷ bs) ≡ w ∷ split bs
split-before [] bs h = refl
split-before (b ∷ w) bs h =
    ap (λ t. cond t ([] ∷ split (w ++ 32 ∷ bs)) (on_first b (split (w ++ 32 ∷ bs)))) (not_false _ (and_first _ _ h)) ∙ ap (λ z. on_first b z) (split-before w bs (and_second (not (nat_eq b 32)) _ h))

pub words-cut : (left : Option (Bor (List ℕ))) (r : Bor (List ℕ)) (w rest : List ℕ) → left ≡ Some r → IsCut 32 r.now w rest → words_left left ≡ w ∷ split rest
words-cut left r w rest e h = ap words_left e ∙ ap split h.text ∙ split-before w rest h.before

pub words-last : (left : Option (Bor (List ℕ))) (r : Bor (List ℕ)) → left ≡ Some r → IsTrue (lacks 32 r.now) → words_left left ≡ r.now ∷ []
words-last left r e h = ap words_left e ∙ split-lacking r.now h

-- numbers
clamped_is : (t : Bool) (n v : ℕ) → Some v ≡ cond t (Some n) None → (t ≡ true) × (n ≡ v)
clamped_is true n v h = (refl, some_is n v (sym h))
clamped_is false n v h = cc h

within_end : (b : Bool) (n end : ℕ) → n < end → b ≡ (b && nat_lt n end)
within_end true n end l = grind (arith, nat_tests)
within_end false n end l = refl

past_end : (b : Bool) (n end : ℕ) → end ≤ n → false ≡ (b && nat_lt n end)
past_end true n end l = grind (arith, nat_tests)
past_end false n end l = refl

spelt : (digits : List ℕ) → is_numeral digits ≡ true → number digits ≡ Some (number_of digits)
spelt digits h = only_if_true (is_numeral digits) (Some (number_of digits)) h

pub number-within : (digits : List ℕ) (end v : ℕ) (before : Bool) → end < 2 ^ 32 → Some v ≡ (if is_numeral digits then Some (min (number_of digits) (2 ^ 64 - 1)) else None) → v < end → IsNumber digits end before before v
number-within digits end v before e h l =
    let p = clamped_is (is_numeral digits) (min (number_of digits) (2 ^ 64 - 1)) v h in
    let same : v ≡ number_of digits = omega (arith, p.1) in
    record { value = number_of digits; spelt = spelt digits p.0; fits = within_end before (number_of digits) end (omega arith); same = λ t. same }

pub number-past : (digits : List ℕ) (end v : ℕ) (before : Bool) → end < 2 ^ 32 → Some v ≡ (if is_numeral digits then Some (min (number_of digits) (2 ^ 64 - 1)) else None) → end ≤ v → IsNumber digits end before false 0
number-past digits end v before e h l =
    let p = clamped_is (is_numeral digits) (min (number_of digits) (2 ^ 64 - 1)) v h in
    let large : end ≤ number_of digits = omega (arith, p.1) in
    record { value = number_of digits; spelt = spelt digits p.0; fits = past_end before (number_of digits) end large; same = λ t. cc t }

-- a line has a word, be it empty
pub words-left : (left : Option (Bor (List ℕ))) (r : Bor (List ℕ)) → left ≡ Some r → words_left left ≡ [] → ⊥
words-left left r e h = none (split r.now) (split_some r.now) (sym (ap words_left e) ∙ h)
  where
    none : (ws : List Spelled) → IsSome ws → ws ≡ [] → ⊥
    none ws (first w more e) h = let no : w ∷ more ≡ [] = sym e ∙ h in cc no

pub some-words : (left : Option (Bor (List ℕ))) → is_some left ≡ true → words_left left ≡ [] → ⊥
some-words None h e = cc h
some-words (Some r) h e = words-left (Some r) r refl e
