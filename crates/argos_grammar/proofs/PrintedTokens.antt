-- Words with a space between two, and an LF behind the last, are the tokens of their text.
use Rattle.std.proofs.Common.{◌≡◌, ℕ, ◌+◌, ◌<◌, List, [], ◌∷◌, ◌++◌, Bool, true, false, length, refl, ap, ◌∙◌, subst, arith, append_assoc, length-append, ⊎_elim}
use Rattle.std.specs.Prelude.{◌||◌, not, nat_lt, bytes_eq, IsUtf8}
use Rattle.std.specs.List.{list_all, join_with_byte}
use Rattle.std.specs.Str.{IsAscii}
use Rattle.std.specs.Char.{is_ascii_digit}
use Rattle.std.proofs.lemmas.Str.{IsUtf8-from_ascii}
use Rattle.std.proofs.lemmas.Str.Ascii.{IsAscii-nil, IsAscii-cons}
use Rattle.std.proofs.lemmas.List.Folds.{list_all-append}
use Rattle.std.proofs.lemmas.Slice.Eq.{bytes_eq-Decides}
use Rattle.std.proofs.lemmas.Bool.Decides.{nat_tests}
use Rattle.argos_base.specs.Spelling.{is_letter, is_letter_or_digit, is_word, is_digits, is_one_of}
use Rattle.argos_base.proofs.Bools.{and_first, and_second, and_both, or_neither, or_left, or_right, or_cases}
use Rattle.argos_tokens.specs.Tokens.{Token, is_token, symbols, is_blank, IsLongest, Skips, here, blank, Reads, IsTokens}
use Rattle.argos_grammar.specs.Printed.{Words, text_of_words}
use Rattle.argos_tokens.proofs.Fronts.{second_fails, list_all-fails}
use Rattle.argos_grammar.proofs.Leaves.{told_apart}

-- what ends with a byte that fails a test isn't a text all of whose bytes pass it
ends_otherwise : (p : ℕ → Bool) (xs s : List ℕ) (b : ℕ) → list_all p s ≡ true → p b ≡ false → bytes_eq (xs ++ b ∷ []) s ≡ false
ends_otherwise p xs s b h f = told_apart (λ x. not (list_all p x)) s (xs ++ b ∷ []) (ap not h) (ap not (list_all-fails p xs b f))

none_ends_so : (p : ℕ → Bool) (texts : List (List ℕ)) (xs : List ℕ) (b : ℕ) → list_all (list_all p) texts ≡ true → p b ≡ false → is_one_of texts (xs ++ b ∷ []) ≡ false
none_ends_so p [] xs b h f = refl
none_ends_so p (s ∷ texts) xs b h f = or_neither _ _ (ends_otherwise p xs s b (and_first (list_all p s) _ h) f) (none_ends_so p texts xs b (and_second (list_all p s) _ h) f)

-- no token goes on with a blank
longest_before : (w : List ℕ) (b : ℕ) (more : List ℕ) → is_token w ≡ true → is_letter_or_digit b ≡ false → is_ascii_digit b ≡ false → is_blank b ≡ true → IsLongest w (b ∷ more)
longest_before [] b more t l d k = cc t
longest_before (c ∷ cs) b more t l d k =
    or_neither _ _ (or_neither _ _ (second_fails (is_letter c) _ (list_all-fails is_letter_or_digit cs b l)) (second_fails (is_ascii_digit c) _ (list_all-fails is_ascii_digit cs b d)))
    (none_ends_so (λ x. not (is_blank x)) symbols (c ∷ cs) b refl (ap not k))

-- these words as tokens, the first at this place
abbrev pub tokens_from : ℕ → Words → List Token
tokens_from n [] = []
tokens_from n (w ∷ ws) = record { text = w; at = n } ∷ tokens_from (n + length w + 1) ws

text_more : (w v : List ℕ) (vs : Words) → text_of_words (w ∷ v ∷ vs) ≡ w ++ 32 ∷ text_of_words (v ∷ vs)
text_more w v vs = append_assoc w (32 ∷ join_with_byte 32 (v ∷ vs)) (10 ∷ [])

-- an LF stands behind the last word
reads_words : (w : List ℕ) (ws : Words) (k n : ℕ) (bs : List ℕ) → list_all is_token (w ∷ ws) ≡ true → Skips k bs n (text_of_words (w ∷ ws))
    → (m : ℕ) × Reads k bs (tokens_from n (w ∷ ws)) m (10 ∷ []) × (m + 1 ≡ n + length (text_of_words (w ∷ ws)))
reads_words w [] k n bs t s =
    let token : is_token w ≡ true = and_first (is_token w) _ t in
    (n + length w, (10 ∷ [], s, token, longest_before w 10 [] token refl refl refl, (refl, refl)), omega (arith, length-append w (10 ∷ [])))
reads_words w (v ∷ vs) k n bs t s =
    let token : is_token w ≡ true = and_first (is_token w) _ t in
    let rest : List ℕ = text_of_words (v ∷ vs) in
    let more = reads_words v vs (n + length w) (n + length w + 1) (32 ∷ rest) (and_second (is_token w) _ t) (blank refl here) in (
      more.0,
      (32 ∷ rest, subst (Skips k bs n) (text_more w v vs) s, token, longest_before w 32 rest token refl refl refl, more.1),
      omega (arith, ap length (text_more w v vs), length-append w (32 ∷ rest), more.2),
    )

-- the tokens of a text of words are these words
pub tokens_of_words : (ws : Words) → list_all is_token ws ≡ true → IsTokens (text_of_words ws) (tokens_from 0 ws)
tokens_of_words [] h = (0, 10 ∷ [], (refl, refl), blank refl here)
tokens_of_words (w ∷ ws) h =
    let r = reads_words w ws 0 0 (text_of_words (w ∷ ws)) h here in
    let e : r.0 + 1 ≡ length (text_of_words (w ∷ ws)) = omega (arith, r.2) in
    (r.0, 10 ∷ [], r.1, subst (λ x. Skips r.0 (10 ∷ []) x []) e (blank refl here))

-- the bytes of a token are below 128
abbrev is_small : ℕ → Bool
is_small b = nat_lt b 128

letter_or_digit_is_small : (b : ℕ) → is_letter_or_digit b ≡ true → is_small b ≡ true
letter_or_digit_is_small b h = grind (arith, nat_tests)

all_small : (p : ℕ → Bool) (xs : List ℕ) → ((b : ℕ) → p b ≡ true → is_small b ≡ true) → list_all p xs ≡ true → list_all is_small xs ≡ true
all_small p [] f h = refl
all_small p (x ∷ xs) f h = and_both (is_small x) _ (f x (and_first (p x) _ h)) (all_small p xs f (and_second (p x) _ h))

one_is_small : (texts : List (List ℕ)) (w : List ℕ) → list_all (list_all is_small) texts ≡ true → is_one_of texts w ≡ true → list_all is_small w ≡ true
one_is_small [] w h e = cc e
one_is_small (s ∷ texts) w h e = ⊎_elim
    (λ x. ap (list_all is_small) ((bytes_eq-Decides w s).0 x) ∙ and_first (list_all is_small s) _ h)
    (λ x. one_is_small texts w (and_second (list_all is_small s) _ h) x)
    (or_cases (bytes_eq w s) _ e)

word_is_small : (w : List ℕ) → is_word w ≡ true → list_all is_small w ≡ true
word_is_small [] h = refl
word_is_small (c ∷ cs) h = all_small is_letter_or_digit (c ∷ cs) letter_or_digit_is_small (and_both (is_letter_or_digit c) _ (or_left (is_letter c) _ (and_first (is_letter c) _ h)) (and_second (is_letter c) _ h))

digits_are_small : (w : List ℕ) → is_digits w ≡ true → list_all is_small w ≡ true
digits_are_small [] h = refl
digits_are_small (c ∷ cs) h = all_small is_ascii_digit (c ∷ cs) (λ b d. letter_or_digit_is_small b (or_right (is_letter b) _ d)) h

token_is_small : (w : List ℕ) → is_token w ≡ true → list_all is_small w ≡ true
token_is_small w h = ⊎_elim
    (λ x. ⊎_elim (word_is_small w) (digits_are_small w) (or_cases (is_word w) (is_digits w) x))
    (one_is_small symbols w refl)
    (or_cases (is_word w || is_digits w) (is_one_of symbols w) h)

words_are_small : (ws : Words) → list_all is_token ws ≡ true → list_all is_small (join_with_byte 32 ws) ≡ true
words_are_small [] h = refl
words_are_small (w ∷ []) h = token_is_small w (and_first (is_token w) _ h)
words_are_small (w ∷ v ∷ vs) h =
    list_all-append is_small w (32 ∷ join_with_byte 32 (v ∷ vs)) ∙ and_both _ _ (token_is_small w (and_first (is_token w) _ h)) (words_are_small (v ∷ vs) (and_second (is_token w) _ h))

below : (b : ℕ) → is_small b ≡ true → b < 128
below b h = grind (arith, nat_tests)

small_is_ascii : (xs : List ℕ) → list_all is_small xs ≡ true → IsAscii xs
small_is_ascii [] h = IsAscii-nil
small_is_ascii (x ∷ xs) h = IsAscii-cons x xs (below x (and_first (is_small x) _ h)) (small_is_ascii xs (and_second (is_small x) _ h))

-- a text of words is UTF-8
pub words_are_utf8 : (ws : Words) → list_all is_token ws ≡ true → IsUtf8 (text_of_words ws)
words_are_utf8 ws h = IsUtf8-from_ascii (text_of_words ws)
    (small_is_ascii (text_of_words ws) (list_all-append is_small (join_with_byte 32 ws) (10 ∷ []) ∙ and_both _ _ (words_are_small ws h) refl))
