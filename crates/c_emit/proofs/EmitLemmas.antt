-- One more statement, and then the function of what is left.
use Rattle.std.proofs.Common.{◌≡◌, ℕ, zero, suc, ◌+◌, ◌-◌, ◌<◌, ◌≤◌, List, [], ◌∷◌, ◌++◌, length, map, drop, get_or, ◌^◌, refl, sym, ap, ◌∙◌, append_assoc, arith}
use Rattle.std.proofs.lemmas.Grind.{common_steps}
use Rattle.std.proofs.lemmas.List.{map-append, drop_more, drop_all, append-nil}
use Rattle.c_step.specs.CStep.{CStat, set_bit, set_word, set_out, input_of}
use Rattle.eqn_core.specs.Ordered.{IsOrdered}
use Rattle.eqn_core.proofs.Walks.{bit_and_word_lines}
use Rattle.eqn_core.specs.Equations.{word, Case, Line, Equations, registers, bits_of_line, words_of_line, bit_lines, word_lines}
use Rattle.c_emit.specs.COf.{input_statements, line_statement, line_statements, out_statements, register_statements}

pub inputs_more : (j n : ℕ) → j < n → input_statements j (n - j) ≡ set_bit j (input_of j) ∷ input_statements (j + 1) (n - (j + 1))
inputs_more j n h = let e : n - j ≡ suc (n - (j + 1)) = omega arith in ap (input_statements j) e

pub inputs_none : (j n : ℕ) → n ≤ j → input_statements j (n - j) ≡ []
inputs_none j n h = let e : n - j ≡ 0 = omega arith in ap (input_statements j) e

pub outs_more : (ks : List ℕ) (j : ℕ) → j < length ks → out_statements j (drop j ks) ≡ set_out j (get_or ks j 0) ∷ out_statements (j + 1) (drop (j + 1) ks)
outs_more ks j h = ap (out_statements j) (drop_more ks j 0 h)

pub outs_none : (ks : List ℕ) (j : ℕ) → length ks ≤ j → out_statements j (drop j ks) ≡ []
outs_none ks j h = ap (out_statements j) (drop_all j ks h)

pub registers_more : (ks : List ℕ) (j : ℕ) (cases : List Case) → cases ≡ [] → j < length ks → register_statements j (drop j ks) ≡ set_word j cases (word (get_or ks j 0)) ∷ register_statements (j + 1) (drop (j + 1) ks)
registers_more ks j cases e h = ap (register_statements j) (drop_more ks j 0 h) ∙ ap (λ cs. set_word j cs (word (get_or ks j 0)) ∷ register_statements (j + 1) (drop (j + 1) ks)) (sym e)

pub lines_more : {A : Type 0} (f : A → Line) (b w : ℕ) (ls : List A) (i : ℕ) (d : A) → i < length ls → line_statements b w (map f (drop i ls)) ≡ line_statement b w (f (get_or ls i d)) ∷ line_statements (b + bits_of_line (f (get_or ls i d))) (w + words_of_line (f (get_or ls i d))) (map f (drop (i + 1) ls))
lines_more f b w ls i d h = ap (λ z. line_statements b w (map f z)) (drop_more ls i d h)

pub bits_more : {A : Type 0} (f : A → Line) (ls : List A) (i : ℕ) (d : A) → i < length ls → bit_lines (map f (drop i ls)) ≡ bits_of_line (f (get_or ls i d)) + bit_lines (map f (drop (i + 1) ls))
bits_more f ls i d h = ap (λ z. bit_lines (map f z)) (drop_more ls i d h)

pub words_more : {A : Type 0} (f : A → Line) (ls : List A) (i : ℕ) (d : A) → i < length ls → word_lines (map f (drop i ls)) ≡ words_of_line (f (get_or ls i d)) + word_lines (map f (drop (i + 1) ls))
words_more f ls i d h = ap (λ z. word_lines (map f z)) (drop_more ls i d h)

pub lines_none : {A : Type 0} (f : A → Line) (b w : ℕ) (ls : List A) (i : ℕ) → length ls ≤ i → line_statements b w (map f (drop i ls)) ≡ []
lines_none f b w ls i h = ap (λ z. line_statements b w (map f z)) (drop_all i ls h)

pub registers_none : (ks : List ℕ) (j : ℕ) → length ks ≤ j → register_statements j (drop j ks) ≡ []
registers_none ks j h = ap (register_statements j) (drop_all j ks h)

pub ruleset emits = (common_steps, map-append, bits_more, words_more)

-- the step of a loop: what is done, and then the function of what is left, is the whole
pub step_on : (front front' left left' whole : List CStat) (x : CStat) → front' ≡ front ++ x ∷ [] → left ≡ x ∷ left' → front ++ left ≡ whole → front' ++ left' ≡ whole
step_on front front' left left' whole x e f h = ap (λ z. z ++ left') e ∙ append_assoc front (x ∷ []) left' ∙ ap (λ z. front ++ z) (sym f) ∙ h

pub end_of : (front left whole : List CStat) → left ≡ [] → front ++ left ≡ whole → front ≡ whole
end_of front left whole e h = sym (append-nil front) ∙ ap (λ z. front ++ z) (sym e) ∙ h

pub mapped_push : {A : Type 0} (f : A → CStat) (xs ys : List A) (x : A) → ys ≡ xs ++ x ∷ [] → map f ys ≡ map f xs ++ f x ∷ []
mapped_push f xs ys x e = ap (map f) e ∙ map-append f xs (x ∷ [])

-- an ordered system's numbers are small
pub few_bits : (E : Equations) → IsOrdered E → E.inputs + bit_lines E.lines < 2 ^ 32
few_bits E h = omega (arith, h.input_limit, h.line_limit, bit_and_word_lines E.lines)

pub few_words : (E : Equations) → IsOrdered E → registers E + word_lines E.lines < 2 ^ 32
few_words E h = omega (arith, h.register_limit, h.line_limit, bit_and_word_lines E.lines)

pub few_next : (E : Equations) → IsOrdered E → length E.next < 2 ^ 32
few_next E h = omega (arith, h.register_limit, h.next_sized)

pub ruleset whole = (common_steps, few_bits, few_words, few_next, append_assoc)
