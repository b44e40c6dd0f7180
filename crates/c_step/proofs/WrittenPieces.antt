-- What is written, piece by piece.
use Rattle.std.proofs.Common.{◌≡◌, ℕ, ◌+◌, ◌<◌, List, [], ◌∷◌, ◌++◌, Bool, true, false, length, take, get_or, refl, sym, ap, ◌∙◌, append_assoc}
use Rattle.std.specs.Prelude.{codes}
use Rattle.std.proofs.lemmas.List.{append-nil, take_more}
use Rattle.argos_base.specs.Names.{Spelled}
use Rattle.eqn_core.specs.Equations.{Literal}
use Rattle.line_format.specs.Numerals.{numeral}
use Rattle.c_step.specs.CFile.{indexed, word_place, literal_then, literals_then, joined_literals}
use Rattle.c_step.specs.inner.Texts.{comments_text, sizes_text}

-- one piece behind another
pub two : (t₀ t₁ t₂ a b : List ℕ) → t₁ ≡ t₀ ++ a → t₂ ≡ t₁ ++ b → t₂ ≡ t₀ ++ (a ++ b)
two t₀ t₁ t₂ a b e f = f ∙ ap (λ z. z ++ b) e ∙ append_assoc t₀ a b

indexed-then : (array : List ℕ) (k : ℕ) (rest : List ℕ) → indexed array k [] ++ rest ≡ indexed array k rest
indexed-then array k rest = append_assoc array (numeral k ++ codes "]") rest ∙ ap (λ z. array ++ z) (append_assoc (numeral k) (codes "]") rest)

-- a place of an array, and then another piece
pub placed : (array : List ℕ) (k : ℕ) (t₀ t₁ t₂ b : List ℕ) → t₁ ≡ t₀ ++ indexed array k [] → t₂ ≡ t₁ ++ b → t₂ ≡ t₀ ++ indexed array k b
placed array k t₀ t₁ t₂ b e f = two t₀ t₁ t₂ (indexed array k []) b e f ∙ ap (λ z. t₀ ++ z) (indexed-then array k b)

literal-then : (l : Literal) (rest : List ℕ) → literal_then l [] ++ rest ≡ literal_then l rest
literal-then l rest = at l.bit l.negated
  where
    at : (k : ℕ) (b : Bool) → let l : Literal = record { bit = k; negated = b } in literal_then l [] ++ rest ≡ literal_then l rest
    at k true = ap (λ z. codes "!" ++ z) (indexed-then (codes "m->b[") k rest)
    at k false = indexed-then (codes "m->b[") k rest

literals-then : (sign : List ℕ) (ls : List Literal) (rest : List ℕ) → literals_then sign ls [] ++ rest ≡ literals_then sign ls rest
literals-then sign [] rest = refl
literals-then sign (l ∷ ls) rest =
    append_assoc sign (literal_then l (literals_then sign ls [])) rest
    ∙ ap (λ z. sign ++ z) (ap (λ z. z ++ rest) (sym (literal-then l (literals_then sign ls []))) ∙ append_assoc (literal_then l []) (literals_then sign ls []) rest ∙ literal-then l (literals_then sign ls [] ++ rest) ∙ ap (literal_then l) (literals-then sign ls rest))

pub after_literal : (l : Literal) (t₀ t₁ t₂ b : List ℕ) → t₁ ≡ t₀ ++ literal_then l [] → t₂ ≡ t₁ ++ b → t₂ ≡ t₀ ++ literal_then l b
after_literal l t₀ t₁ t₂ b e f = two t₀ t₁ t₂ (literal_then l []) b e f ∙ ap (λ z. t₀ ++ z) (literal-then l b)

pub after_literals : (sign : List ℕ) (ls : List Literal) (t₀ t₁ t₂ b : List ℕ) → t₁ ≡ t₀ ++ literals_then sign ls [] → t₂ ≡ t₁ ++ b → t₂ ≡ t₀ ++ literals_then sign ls b
after_literals sign ls t₀ t₁ t₂ b e f = two t₀ t₁ t₂ (literals_then sign ls []) b e f ∙ ap (λ z. t₀ ++ z) (literals-then sign ls b)

-- the loops: what is written, and then the text of what is left
pub step_on : (front new left left' whole piece : List ℕ) → new ≡ front ++ piece → left ≡ piece ++ left' → front ++ left ≡ whole → new ++ left' ≡ whole
step_on front new left left' whole piece e f h = ap (λ z. z ++ left') e ∙ append_assoc front piece left' ∙ ap (λ z. front ++ z) (sym f) ∙ h

pub end_of : (front left whole : List ℕ) → left ≡ [] → front ++ left ≡ whole → front ≡ whole
end_of front left whole e h = sym (append-nil front) ∙ ap (λ z. front ++ z) (sym e) ∙ h

-- one name more
comments-append : (front : List ℕ) (xs ys : List Spelled) → comments_text front (xs ++ ys) ≡ comments_text front xs ++ comments_text front ys
comments-append front [] ys = refl
comments-append front (x ∷ xs) ys = ap (λ z. (front ++ (x ++ codes " */\n")) ++ z) (comments-append front xs ys) ∙ sym (append_assoc (front ++ (x ++ codes " */\n")) (comments_text front xs) (comments_text front ys))

pub names_more : (front : List ℕ) (names : List Spelled) (k : ℕ) (start old new : List ℕ) → k < length names → old ≡ start ++ comments_text front (take k names) → new ≡ old ++ (front ++ (get_or names k [] ++ codes " */\n")) → new ≡ start ++ comments_text front (take (k + 1) names)
names_more front names k start old new l e f =
    two start old new (comments_text front (take k names)) (front ++ (get_or names k [] ++ codes " */\n")) e f
    ∙ ap (λ z. start ++ (comments_text front (take k names) ++ z)) (sym (append-nil (front ++ (get_or names k [] ++ codes " */\n"))))
    ∙ ap (λ z. start ++ z) (sym (comments-append front (take k names) (get_or names k [] ∷ [])))
    ∙ ap (λ z. start ++ comments_text front z) (sym (take_more names k [] l))

-- the pieces of each line
pub sizes_pieces : (n m : ℕ) (t₀ t₁ t₂ t₃ t₄ t₅ : List ℕ) → t₁ ≡ t₀ ++ codes "struct argos { unsigned int w[" → t₂ ≡ t₁ ++ numeral n → t₃ ≡ t₂ ++ codes "]; unsigned int b[" → t₄ ≡ t₃ ++ numeral m → t₅ ≡ t₄ ++ codes "]; };\n" → t₅ ≡ t₀ ++ sizes_text n m
sizes_pieces n m t₀ t₁ t₂ t₃ t₄ t₅ e₁ e₂ e₃ e₄ e₅ =
    let x₅ : List ℕ = codes "]; };\n" in
    let x₄ : List ℕ = numeral m ++ x₅ in
    let x₃ : List ℕ = codes "]; unsigned int b[" ++ x₄ in
    two t₀ t₁ t₅ (codes "struct argos { unsigned int w[") (numeral n ++ x₃) e₁ (two t₁ t₂ t₅ (numeral n) x₃ e₂ (two t₂ t₃ t₅ (codes "]; unsigned int b[") x₄ e₃ (two t₃ t₄ t₅ (numeral m) x₅ e₄ e₅)))

pub within_pieces : (w lo hi : ℕ) (t₀ t₁ t₂ t₃ t₄ t₅ t₆ t₇ t₈ : List ℕ) → t₁ ≡ t₀ ++ numeral lo → t₂ ≡ t₁ ++ codes "u <= " → t₃ ≡ t₂ ++ word_place w [] → t₄ ≡ t₃ ++ codes " && " → t₅ ≡ t₄ ++ word_place w [] → t₆ ≡ t₅ ++ codes " <= " → t₇ ≡ t₆ ++ numeral hi
    → t₈ ≡ t₇ ++ codes "u;" → t₈ ≡ t₀ ++ (numeral lo ++ (codes "u <= " ++ word_place w (codes " && " ++ word_place w (codes " <= " ++ (numeral hi ++ codes "u;")))))
within_pieces w lo hi t₀ t₁ t₂ t₃ t₄ t₅ t₆ t₇ t₈ e₁ e₂ e₃ e₄ e₅ e₆ e₇ e₈ =
    let x₈ : List ℕ = codes "u;" in
    let x₇ : List ℕ = numeral hi ++ x₈ in
    let x₆ : List ℕ = codes " <= " ++ x₇ in
    let x₅ : List ℕ = word_place w x₆ in
    let x₄ : List ℕ = codes " && " ++ x₅ in
    let x₃ : List ℕ = word_place w x₄ in
    two t₀ t₁ t₈ (numeral lo) (codes "u <= " ++ x₃) e₁
    (two t₁ t₂ t₈ (codes "u <= ") x₃ e₂
    (placed (codes "m->w[") w t₂ t₃ t₈ x₄ e₃
    (two t₃ t₄ t₈ (codes " && ") x₅ e₄
    (placed (codes "m->w[") w t₄ t₅ t₈ x₆ e₅
    (two t₅ t₆ t₈ (codes " <= ") x₇ e₆ (two t₆ t₇ t₈ (numeral hi) x₈ e₇ e₈))))))

pub next_pieces : (w : ℕ) (t₀ t₁ t₂ t₃ t₄ : List ℕ) → t₁ ≡ t₀ ++ word_place w [] → t₂ ≡ t₁ ++ codes " <= 65534u ? " → t₃ ≡ t₂ ++ word_place w [] → t₄ ≡ t₃ ++ codes " + 1u : 0u;" → t₄ ≡ t₀ ++ word_place w (codes " <= 65534u ? " ++ word_place w (codes " + 1u : 0u;"))
next_pieces w t₀ t₁ t₂ t₃ t₄ e₁ e₂ e₃ e₄ =
    let x₄ : List ℕ = codes " + 1u : 0u;" in
    let x₃ : List ℕ = word_place w x₄ in
    placed (codes "m->w[") w t₀ t₁ t₄ (codes " <= 65534u ? " ++ x₃) e₁ (two t₁ t₂ t₄ (codes " <= 65534u ? ") x₃ e₂ (placed (codes "m->w[") w t₂ t₃ t₄ x₄ e₃ e₄))

pub name_pieces : (front : List ℕ) (names : List Spelled) (k : ℕ) (start t₀ t₁ t₂ t₃ : List ℕ) → k < length names → t₀ ≡ start ++ comments_text front (take k names) → t₁ ≡ t₀ ++ front → t₂ ≡ t₁ ++ get_or names k [] → t₃ ≡ t₂ ++ codes " */\n" → t₃ ≡ start ++ comments_text front (take (k + 1) names)
name_pieces front names k start t₀ t₁ t₂ t₃ l e e₁ e₂ e₃ =
    names_more front names k start t₀ t₃ l e (two t₀ t₁ t₃ front (get_or names k [] ++ codes " */\n") e₁ (two t₁ t₂ t₃ (get_or names k []) (codes " */\n") e₂ e₃))

pub literals_pieces : (sign : List ℕ) (l : Literal) (ls all : List Literal) (t₀ t₁ t₂ t₃ : List ℕ) → all ≡ l ∷ ls → t₁ ≡ t₀ ++ literal_then l [] → t₂ ≡ t₁ ++ literals_then sign ls [] → t₃ ≡ t₂ ++ codes ";" → t₃ ≡ t₀ ++ joined_literals sign all (codes ";")
literals_pieces sign l ls all t₀ t₁ t₂ t₃ e e₁ e₂ e₃ =
    let x : List ℕ = literals_then sign ls (codes ";") in
    after_literal l t₀ t₁ t₃ x e₁ (after_literals sign ls t₁ t₂ t₃ (codes ";") e₂ e₃) ∙ ap (λ z. t₀ ++ joined_literals sign z (codes ";")) (sym e)

pub literals_end : (sign : List ℕ) (ls left : List Literal) (t u : List ℕ) → left ≡ [] → t ++ literals_then sign left [] ≡ u ++ literals_then sign ls [] → t ≡ u ++ literals_then sign ls []
literals_end sign ls left t u e h = end_of t (literals_then sign left []) (u ++ literals_then sign ls []) (ap (λ z. literals_then sign z []) e) h
