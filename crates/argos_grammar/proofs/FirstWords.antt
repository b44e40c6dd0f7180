-- The word or the name that stands at the front of a list of tokens.
use Rattle.std.proofs.Common.{◌≡◌, List, [], ◌∷◌, drop, true, false, refl, sym, ap, ◌∙◌}
use Rattle.std.specs.Prelude.{ℕ, codes, bytes_eq}
use Prim.Native.String.{String}
use Rattle.std.proofs.lemmas.Slice.Eq.{bytes_eq-Decides}
use Rattle.argos_base.specs.Spelling.{is_one_of, is_name}
use Rattle.argos_base.proofs.Bools.{or_first_false, or_second_false}
use Rattle.argos_tokens.specs.Tokens.{Token}
use Rattle.argos_grammar.specs.Forms.{Mark}
use Rattle.argos_grammar.specs.DueSymbols.{Symbol, text}
use Rattle.argos_grammar.specs.Faults.{Open, without_negations}
use Rattle.argos_grammar.specs.Runs.{outcome, begins_with, is_plain}
use Rattle.argos_grammar.specs.Grammar as grammar
use Rattle.argos_grammar.specs.Grammar.{Piece, ◌⨾◌}
use Rattle.argos_grammar.proofs.Leaves.{told_apart, plain_taken}

-- none of these words stands at the front
abbrev pub IsClearOf : List (List ℕ) → List Token → Type 0
IsClearOf [] ts = Unit {0}
IsClearOf (w ∷ ws) ts = (begins_with w ts ≡ false) × IsClearOf ws ts

-- a word that the first token is
pub spelled_first : (w : List ℕ) (ts : List Token) → begins_with w ts ≡ true → grammar.spelled w ts (drop 1 ts)
spelled_first w [] h = cc h
spelled_first w (t ∷ ts) h = ((bytes_eq-Decides t.text w).0 h, refl)

pub first_spelled : (w : List ℕ) (ts rest : List Token) → begins_with w ts ≡ true → rest ≡ drop 1 ts → grammar.spelled w ts rest
first_spelled w ts rest h e = rw e (spelled_first w ts h)

pub word_begins : (w : String) (ts rest : List Token) → grammar.word w ts rest → begins_with (codes w) ts ≡ true
word_begins w [] rest h = absurd h
word_begins w (t ∷ ts) rest h = (bytes_eq-Decides t.text (codes w)).1 h.0

pub piece_begins : {A : Type 0} (w : String) (P : A → Piece) (x : A) (ts rest : List Token) → (grammar.word w ⨾ P x) ts rest → begins_with (codes w) ts ≡ true
piece_begins w P x ts rest h = word_begins w ts h.0 h.1

-- what stands behind it
pub drop_word : (w : String) (ts rest : List Token) → grammar.word w ts rest → drop 1 ts ≡ rest
drop_word w [] rest h = absurd h
drop_word w (t ∷ ts) rest h = h.1

pub word_same : (w : String) (ts us r s : List Token) → ts ≡ us → grammar.word w ts r → grammar.word w us s → r ≡ s
word_same w ts us r s e h k = sym (drop_word w ts r h) ∙ ap (drop 1) e ∙ drop_word w us s k

-- where a word stands, no other does
begins_no : (s w : List ℕ) (ts : List Token) → bytes_eq w s ≡ false → begins_with w ts ≡ true → begins_with s ts ≡ false
begins_no s w [] e h = refl
begins_no s w (t ∷ ts) e h = ap (λ x. bytes_eq x s) ((bytes_eq-Decides t.text w).0 h) ∙ e

pub begins_clear : (ws : List (List ℕ)) (w : List ℕ) (ts : List Token) → is_one_of ws w ≡ false → begins_with w ts ≡ true → IsClearOf ws ts
begins_clear [] w ts e h = tt
begins_clear (s ∷ ws) w ts e h = (begins_no s w ts (or_first_false (bytes_eq w s) _ e) h, begins_clear ws w ts (or_second_false (bytes_eq w s) _ e) h)

pub word_clear : (ws : List (List ℕ)) (w : String) (ts rest : List Token) → is_one_of ws (codes w) ≡ false → grammar.word w ts rest → IsClearOf ws ts
word_clear ws w ts rest e h = begins_clear ws (codes w) ts e (word_begins w ts rest h)

pub no_word : (u v : String) (ts rest : List Token) → bytes_eq (codes v) (codes u) ≡ false → grammar.word v ts rest → begins_with (codes u) ts ≡ false
no_word u v ts rest e h = begins_no (codes u) (codes v) ts e (word_begins v ts rest h)

pub two_fronts : (w : List ℕ) (ts us : List Token) → ts ≡ us → begins_with w ts ≡ true → begins_with w us ≡ false → ⊥
two_fronts w ts us e h k = cc (ap (begins_with w) e, h, k)

pub two_words : (v w : String) (ts us r s : List Token) → bytes_eq (codes v) (codes w) ≡ false → ts ≡ us → grammar.word v ts r → grammar.word w us s → ⊥
two_words v w ts us r s n e h k = two_fronts (codes w) us ts (sym e) (word_begins w us s k) (no_word w v ts r n h)

-- a name is none of the texts that are no names
pub name_begins_no : (s : List ℕ) (m : Mark) (ts rest : List Token) → is_name s ≡ false → grammar.name m ts rest → begins_with s ts ≡ false
name_begins_no s m [] rest e h = absurd h
name_begins_no s m (t ∷ ts) rest e h = told_apart is_name s t.text e h.0

-- a word at the front is taken, where it opens and closes nothing
pub first_plain : (w : List ℕ) (due : List Symbol) (os : List Open) (ts rest : List Token) → is_plain w ≡ true → begins_with w ts ≡ true → rest ≡ drop 1 ts
    → outcome (text w ∷ due) os ts ≡ outcome due (without_negations os) rest
first_plain w due os ts rest p h e = plain_taken w due os ts rest p (first_spelled w ts rest h e)
