-- No longer front of the bytes is a token where one byte more makes none.
use Rattle.std.proofs.Common.{◌≡◌, refl, sym, ap, ◌∙◌, ◌∷◌, ◌++◌, []}
use Rattle.std.specs.Prelude.{ℕ, List, Bool, true, false, ◌&&◌, ◌||◌, bytes_eq, eqb}
use Rattle.std.specs.List.{list_all}
use Rattle.std.proofs.lemmas.Bool.{eqb-true}
use Rattle.argos_base.specs.Spelling.{is_word, is_letter, is_letter_or_digit, is_digits, is_one_of}
use Rattle.std.specs.Char.{is_ascii_digit}
use Rattle.argos_tokens.specs.Tokens.{is_token, symbols}

pub left_true : (s t : Bool) → (s && t) ≡ true → s ≡ true
left_true true t h = refl
left_true false t h = h

right_true : (s t : Bool) → (s && t) ≡ true → t ≡ true
right_true true t h = h
right_true false t h = cc h

both : (s t : Bool) → s ≡ true → t ≡ true → (s && t) ≡ true
both true t h k = k
both false t h k = h

pub either_false : (s t : Bool) → (s ≡ true → ⊥) → (t ≡ true → ⊥) → (s || t) ≡ true → ⊥
either_false true t f g h = f refl
either_false false t f g h = g h

left_false : (s t : Bool) → (s || t) ≡ false → s ≡ false
left_false true t h = cc h
left_false false t h = refl

right_false : (s t : Bool) → (s || t) ≡ false → t ≡ false
right_false true t h = cc h
right_false false t h = h

-- where all of a list pass, so do its front and one item more
front_passes : (p : ℕ → Bool) (xs : List ℕ) (b : ℕ) (more : List ℕ) → list_all p (xs ++ b ∷ more) ≡ true → list_all p (xs ++ b ∷ []) ≡ true
front_passes p [] b more h = both (p b) true (left_true (p b) (list_all p more) h) refl
front_passes p (x ∷ xs) b more h = both (p x) (list_all p (xs ++ b ∷ [])) (left_true (p x) (list_all p (xs ++ b ∷ more)) h)
    (front_passes p xs b more (right_true (p x) (list_all p (xs ++ b ∷ more)) h))

word_front : (c : ℕ) (xs : List ℕ) (b : ℕ) (more : List ℕ) → is_word (c ∷ xs ++ b ∷ more) ≡ true → is_word (c ∷ xs ++ b ∷ []) ≡ true
word_front c xs b more h = both (is_letter c) (list_all is_letter_or_digit (xs ++ b ∷ [])) (left_true (is_letter c) (list_all is_letter_or_digit (xs ++ b ∷ more)) h)
    (front_passes is_letter_or_digit xs b more (right_true (is_letter c) (list_all is_letter_or_digit (xs ++ b ∷ more)) h))

digits_front : (c : ℕ) (xs : List ℕ) (b : ℕ) (more : List ℕ) → is_digits (c ∷ xs ++ b ∷ more) ≡ true → is_digits (c ∷ xs ++ b ∷ []) ≡ true
digits_front c xs b more h = both (is_ascii_digit c) (list_all is_ascii_digit (xs ++ b ∷ [])) (left_true (is_ascii_digit c) (list_all is_ascii_digit (xs ++ b ∷ more)) h)
    (front_passes is_ascii_digit xs b more (right_true (is_ascii_digit c) (list_all is_ascii_digit (xs ++ b ∷ more)) h))

-- more bytes than none are no symbol's rest
not_ended : (xs : List ℕ) (b : ℕ) (more : List ℕ) → bytes_eq (xs ++ b ∷ more) [] ≡ true → ⊥
not_ended [] b more h = cc h
not_ended (x ∷ xs) b more h = cc h

-- not a symbol of one byte
not_one : (s c : ℕ) (xs : List ℕ) (b : ℕ) (more : List ℕ) → bytes_eq (c ∷ xs ++ b ∷ more) (s ∷ []) ≡ true → ⊥
not_one s c xs b more h = not_ended xs b more (right_true (eqb c s) (bytes_eq (xs ++ b ∷ more) []) h)

-- nor one of two bytes, the first of which is no token
not_two : (s r c : ℕ) (xs : List ℕ) (b : ℕ) (more : List ℕ) → is_token (s ∷ []) ≡ false → is_token (c ∷ xs) ≡ true → bytes_eq (c ∷ xs ++ b ∷ more) (s ∷ r ∷ []) ≡ true → ⊥
not_two s r c [] b more f t h = let e : c ≡ s = eqb-true c s (left_true (eqb c s) (bytes_eq (b ∷ more) (r ∷ [])) h) in cc (sym t ∙ ap (λ x. is_token (x ∷ [])) e ∙ f)
not_two s r c (d ∷ ds) b more f t h = not_ended ds b more (right_true (eqb d r) (bytes_eq (ds ++ b ∷ more) []) (right_true (eqb c s) (bytes_eq (d ∷ ds ++ b ∷ more) (r ∷ [])) h))

not_symbol : (c : ℕ) (xs : List ℕ) (b : ℕ) (more : List ℕ) → is_token (c ∷ xs) ≡ true → is_one_of symbols (c ∷ xs ++ b ∷ more) ≡ true → ⊥
not_symbol c xs b more t = let x = c ∷ xs ++ b ∷ more in
    either_false _ _ (not_one 40 c xs b more) (either_false _ _ (not_one 41 c xs b more) (either_false _ _ (not_one 123 c xs b more) (either_false _ _ (not_one 125 c xs b more)
    (either_false _ _ (not_one 91 c xs b more) (either_false _ _ (not_one 93 c xs b more) (either_false _ _ (not_one 44 c xs b more) (either_false _ _ (not_one 59 c xs b more)
    (either_false _ _ (not_two 45 62 c xs b more refl t) (either_false _ _ (not_two 124 124 c xs b more refl t) (λ h. cc h))))))))))

pub is_true_or_false : (s : Bool) → (s ≡ true → ⊥) → s ≡ false
is_true_or_false true f = absurd (f refl)
is_true_or_false false f = refl

pub longest : (text : List ℕ) (b : ℕ) (more : List ℕ) → is_token text ≡ true → is_token (text ++ b ∷ []) ≡ false → is_token (text ++ b ∷ more) ≡ false
longest [] b more t f = cc t
longest (c ∷ xs) b more t f =
    let one = c ∷ xs ++ b ∷ [] in
    let all = c ∷ xs ++ b ∷ more in
    let neither : (is_word one || is_digits one) ≡ false = left_false (is_word one || is_digits one) (is_one_of symbols one) f in
    let no_word : is_word one ≡ false = left_false (is_word one) (is_digits one) neither in
    let no_digits : is_digits one ≡ false = right_false (is_word one) (is_digits one) neither in
    is_true_or_false (is_token all) (either_false (is_word all || is_digits all) (is_one_of symbols all)
    (either_false (is_word all) (is_digits all) (λ h. cc (no_word, word_front c xs b more h)) (λ h. cc (no_digits, digits_front c xs b more h)))
    (not_symbol c xs b more t))
