-- What printed words are: tokens that a piece of the grammar reads.
use Rattle.std.proofs.Common.{◌≡◌, ◌+◌, length, List, [], ◌∷◌, ◌++◌, true, refl, sym, ◌∙◌, subst, append_assoc}
use Rattle.std.specs.Prelude.{ℕ, codes, flat_map, map}
use Rattle.std.specs.List.{list_all, AllByRecursion}
use Prim.Native.String.{String}
use Rattle.std.proofs.lemmas.List.Folds.{list_all-append}
use Rattle.argos_base.proofs.Bools.{and_both}
use Rattle.argos_tokens.specs.Tokens.{Token, is_token, IsTokens}
use Rattle.argos_grammar.specs.Grammar.{Piece, ◌⨾◌, word, each}
use Rattle.argos_grammar.specs.Printed.{Words, text_of_words}
use Rattle.argos_grammar.specs.Text.{IsNestedWithin, IsTextOf}
use Rattle.argos_grammar.proofs.PrintedTokens.{tokens_from, tokens_of_words, words_are_utf8}

-- the tokens before the rest have these words for their texts
abbrev pub Spelt : Words → List Token → List Token → Type 0
Spelt [] ts rest = ts ≡ rest
Spelt (w ∷ ws) [] rest = ⊥
Spelt (w ∷ ws) (t ∷ ts) rest = (t.text ≡ w) × Spelt ws ts rest

split : (ws vs : Words) (ts rest : List Token) → Spelt (ws ++ vs) ts rest → (between : List Token) × Spelt ws ts between × Spelt vs between rest
split [] vs ts rest h = (ts, refl, h)
split (w ∷ ws) vs [] rest h = absurd h
split (w ∷ ws) vs (t ∷ ts) rest h = let s = split ws vs ts rest h.1 in (s.0, (h.0, s.1), s.2)

word_first : (s : String) (ws : Words) (ts rest : List Token) → Spelt (codes s ∷ ws) ts rest → (between : List Token) × word s ts between × Spelt ws between rest
word_first s ws [] rest h = absurd h
word_first s ws (t ∷ ts) rest h = (ts, (h.0, refl), h.1)

pub word_alone : (s : String) (ts rest : List Token) → Spelt (codes s ∷ []) ts rest → word s ts rest
word_alone s [] rest h = absurd h
word_alone s (t ∷ ts) rest h = h

-- Each of the words is a token, and tokens that are spelled so are the piece of a tree of which S holds.
pub record Prints {A : Type 0} (ws : Words) (P : A → Piece) (S : A → Type 0) : Type 0 where
  pub tokens : list_all is_token ws ≡ true
  pub reads : (ts rest : List Token) → Spelt ws ts rest → (y : A) × P y ts rest × S y

-- one piece, and then the other
pub both : {A B : Type 0} {ws vs : Words} {P : A → Piece} {Q : B → Piece} {S : A → Type 0} {T : B → Type 0} → Prints ws P S → Prints vs Q T → Prints {A = A × B} (ws ++ vs) (λ p. P p.0 ⨾ Q p.1) (λ p. S p.0 × T p.1)
both {ws = ws} {vs = vs} x y = record {
  tokens = list_all-append is_token ws vs ∙ and_both _ _ x.tokens y.tokens;
  reads = λ ts rest h.
      let s = split ws vs ts rest h in
      let a = x.reads ts s.0 s.1 in
      let b = y.reads s.0 rest s.2 in
      ((a.0, b.0), (s.0, a.1, b.1), (a.2, b.2));
}

-- a word before a piece, and a word behind it
pub after_word : {A : Type 0} {ws : Words} {P : A → Piece} {S : A → Type 0} (s : String) → is_token (codes s) ≡ true → Prints ws P S → Prints (codes s ∷ ws) (λ y. word s ⨾ P y) S
after_word {ws = ws} s t x = record {
  tokens = and_both (is_token (codes s)) _ t x.tokens;
  reads = λ ts rest h.
      let f = word_first s ws ts rest h in
      let a = x.reads f.0 rest f.2 in
      (a.0, (f.0, f.1, a.1), a.2);
}

pub before_word : {A : Type 0} {ws : Words} {P : A → Piece} {S : A → Type 0} (s : String) → is_token (codes s) ≡ true → Prints ws P S → Prints (ws ++ codes s ∷ []) (λ y. P y ⨾ word s) S
before_word {ws = ws} s t x = record {
  tokens = list_all-append is_token ws (codes s ∷ []) ∙ and_both _ _ x.tokens (and_both (is_token (codes s)) true t refl);
  reads = λ ts rest h.
      let f = split ws (codes s ∷ []) ts rest h in
      let a = x.reads ts f.0 f.1 in
      (a.0, (f.0, a.1, word_alone s f.0 rest f.2), a.2);
}

-- nothing but a word, which says that the tree is y
pub only_word : {A : Type 0} {P : A → Piece} {S : A → Type 0} (s : String) (y : A) → is_token (codes s) ≡ true → ((ts rest : List Token) → word s ts rest → P y ts rest) → S y → Prints (codes s ∷ []) P S
only_word s y t to h = record { tokens = and_both (is_token (codes s)) true t refl; reads = λ ts rest k. (y, to ts rest (word_alone s ts rest k), h) }

-- no words
pub no_words : {A : Type 0} {P : A → Piece} {S : A → Type 0} (y : A) → ((ts rest : List Token) → ts ≡ rest → P y ts rest) → S y → Prints [] P S
no_words y to h = record { tokens = refl; reads = λ ts rest k. (y, to ts rest k, h) }

-- the same words, of another piece, and spelled otherwise
pub made : {A B : Type 0} {ws : Words} {P : A → Piece} {S : A → Type 0} {Q : B → Piece} {T : B → Type 0} → Prints ws P S → (f : A → B) → ((a : A) (ts rest : List Token) → P a ts rest → Q (f a) ts rest) → ((a : A) → S a → T (f a))
    → Prints ws Q T
made x f to same = record { tokens = x.tokens; reads = λ ts rest h. let a = x.reads ts rest h in (f a.0, to a.0 ts rest a.1, same a.0 a.2) }

pub respelled : {A : Type 0} {ws vs : Words} {P : A → Piece} {S : A → Type 0} → Prints ws P S → ws ≡ vs → Prints vs P S
respelled {P = P} {S = S} x e = subst (λ ws. Prints ws P S) e x

-- the word that stands between two
pub word_between : (ws vs : Words) (s : String) → ws ++ codes s ∷ vs ≡ ws ++ (codes s ∷ []) ++ vs
word_between ws vs s = sym (append_assoc ws (codes s ∷ []) vs)

-- one after the other
pub prints_each : {A : Type 0} (P : A → Piece) (u : A → A) (g : A → Words) (I : A → Type 0) → ((x : A) → I x → Prints (g x) P (λ y. u y ≡ u x)) → (xs : List A) → AllByRecursion I xs
    → Prints (flat_map g xs) (each P) (λ ys. map u ys ≡ map u xs)
prints_each P u g I one [] h = no_words [] (λ ts rest e. e) refl
prints_each P u g I one (x ∷ xs) h = made (both (one x h.0) (prints_each P u g I one xs h.1)) (λ p. p.0 ∷ p.1) (λ p ts rest k. k) (λ p s i. s.0 i ∷ s.1 i)

spelt_from : (n : ℕ) (ws : Words) → Spelt ws (tokens_from n ws) []
spelt_from n [] = refl
spelt_from n (w ∷ ws) = (refl, spelt_from (n + length w + 1) ws)

-- What is printed is a text, where it isn't nested too deep.
pub read_back : {A : Type 0} {ws : Words} {P : A → Piece} {S : A → Type 0} → Prints ws P S → IsNestedWithin (text_of_words ws) → (q : A) × IsTextOf (P q) (text_of_words ws) × S q
read_back {ws = ws} x shallow =
    let a = x.reads (tokens_from 0 ws) [] (spelt_from 0 ws) in
    let tokens : IsTokens (text_of_words ws) (tokens_from 0 ws) = tokens_of_words ws x.tokens in
    (a.0, (tokens_from 0 ws, words_are_utf8 ws x.tokens, tokens, shallow (tokens_from 0 ws) tokens, a.1), a.2)
