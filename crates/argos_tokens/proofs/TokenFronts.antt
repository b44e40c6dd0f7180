-- Which token stands at the front of a text.
use Rattle.std.proofs.Common.{◌≡◌, ℕ, ◌+◌, ◌≤◌, List, [], ◌∷◌, ◌++◌, Bool, true, false, length, take, drop, refl, sym, ap, ◌∙◌, suc, subst, arith}
use Rattle.std.specs.Prelude.{◌&&◌, not, eqb, bytes_eq}
use Rattle.std.specs.Char.{is_ascii_digit}
use Rattle.std.specs.List.{list_all, prefix_len}
use Rattle.std.proofs.lemmas.Bool.{eqb-true}
use Rattle.std.proofs.lemmas.Bool.Decides.{nat_tests}
use Rattle.std.proofs.lemmas.List.Sums.{prefix_len-le-length}
use Rattle.std.proofs.lemmas.Grind.{common_steps}
use Rattle.argos_base.specs.Spelling.{is_letter, is_letter_or_digit, is_word, is_one_of}
use Rattle.argos_base.proofs.Bools.{and_first, and_second, and_both, or_neither, or_left, or_right, is_false, not_false}
use Rattle.argos_tokens.specs.Tokens.{symbols, IsLongest}
use Rattle.argos_tokens.specs.Lexing.{IsFront}
use Rattle.argos_tokens.proofs.Fronts.{Stops, cuts, first_fails, second_fails, list_all-fails}

-- the text begins with no byte that passes the test
abbrev pub begins_outside : (ℕ → Bool) → List ℕ → Bool
begins_outside p [] = true
begins_outside p (s ∷ more) = not (p s)

unlike : (p : ℕ → Bool) (b : ℕ) (bs s : List ℕ) → p b ≡ true → begins_outside p s ≡ true → bytes_eq (b ∷ bs) s ≡ false
unlike p b bs [] h k = refl
unlike p b bs (s ∷ more) h k =
    is_false (eqb b s && bytes_eq bs more) (λ t. let e : b ≡ s = eqb-true b s (and_first (eqb b s) _ t) in let both : true ≡ false = sym h ∙ ap p e ∙ not_false (p s) k in cc)

-- what begins so is none of the texts that don't
pub none_of : (p : ℕ → Bool) (b : ℕ) (bs : List ℕ) (texts : List (List ℕ)) → p b ≡ true → list_all (begins_outside p) texts ≡ true → is_one_of texts (b ∷ bs) ≡ false
none_of p b bs [] h k = refl
none_of p b bs (s ∷ texts) h k =
    or_neither _ _ (unlike p b bs s h (and_first (begins_outside p s) _ k)) (none_of p b bs texts h (and_second (begins_outside p s) _ k))

pub letter_is_no_digit : (b : ℕ) → is_letter b ≡ true → is_ascii_digit b ≡ false
letter_is_no_digit b h = is_false (is_ascii_digit b) (λ t. grind (arith, nat_tests))

digit_is_no_letter : (b : ℕ) → is_ascii_digit b ≡ true → is_letter b ≡ false
digit_is_no_letter b h = is_false (is_letter b) (λ t. cc (h, letter_is_no_digit b t))

word_ends : (b : ℕ) (ws rest : List ℕ) → is_letter b ≡ true → Stops is_letter_or_digit rest → IsLongest (b ∷ ws) rest
word_ends b ws [] h s = tt
word_ends b ws (x ∷ rest) h s =
    or_neither _ _ (or_neither _ _ (second_fails (is_letter b) _ (list_all-fails is_letter_or_digit ws x s)) (first_fails _ _ (letter_is_no_digit b h)))
    (none_of is_letter b (ws ++ x ∷ []) symbols h refl)

digits_end : (b : ℕ) (ws rest : List ℕ) → is_ascii_digit b ≡ true → Stops is_ascii_digit rest → IsLongest (b ∷ ws) rest
digits_end b ws [] h s = tt
digits_end b ws (x ∷ rest) h s =
    or_neither _ _ (or_neither _ _ (first_fails _ _ (digit_is_no_letter b h)) (second_fails (is_ascii_digit b) _ (list_all-fails is_ascii_digit ws x s)))
    (none_of is_ascii_digit b (ws ++ x ∷ []) symbols h refl)

front_at : (bs : List ℕ) (n : ℕ) → IsFront (suc n) bs → IsFront (n + 1) bs
front_at bs n f = let P : ℕ → Type 0 = λ k. IsFront k bs in let e : suc n ≡ n + 1 = omega arith in subst P e f

pub word_front : (bs rest : List ℕ) (b n : ℕ) → bs ≡ b ∷ rest → is_letter b ≡ true → n ≡ prefix_len is_letter_or_digit rest → IsFront (n + 1) bs
word_front bs rest b n e h k =
    let c = cuts is_letter_or_digit rest in
    let P : List ℕ → Type 0 = IsFront (n + 1) in
    let Q : ℕ → Type 0 = λ i. IsFront (suc i) (b ∷ rest) in
    subst P (sym e) (front_at (b ∷ rest) n (subst Q (sym k) (record {
      within = let l : prefix_len is_letter_or_digit rest ≤ length rest = c.within in omega arith;
      token = or_left _ _ (or_left _ _ (and_both (is_letter b) _ h c.passes));
      longest = word_ends b (take (prefix_len is_letter_or_digit rest) rest) (drop (prefix_len is_letter_or_digit rest) rest) h c.stops;
    })))

pub digits_front : (bs rest : List ℕ) (b n : ℕ) → bs ≡ b ∷ rest → is_ascii_digit b ≡ true → n ≡ prefix_len is_ascii_digit rest → IsFront (n + 1) bs
digits_front bs rest b n e h k =
    let c = cuts is_ascii_digit rest in
    let P : List ℕ → Type 0 = IsFront (n + 1) in
    let Q : ℕ → Type 0 = λ i. IsFront (suc i) (b ∷ rest) in
    subst P (sym e) (front_at (b ∷ rest) n (subst Q (sym k) (record {
      within = let l : prefix_len is_ascii_digit rest ≤ length rest = c.within in omega arith;
      token = or_left _ _ (or_right (is_word (b ∷ take (prefix_len is_ascii_digit rest) rest)) _ (and_both (is_ascii_digit b) _ h c.passes));
      longest = digits_end b (take (prefix_len is_ascii_digit rest) rest) (drop (prefix_len is_ascii_digit rest) rest) h c.stops;
    })))

pub ruleset fronts = (common_steps, word_front, digits_front, prefix_len-le-length)
