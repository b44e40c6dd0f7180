-- The words of a line, the first of them taken off.
use Rattle.std.proofs.Common.{◌≡◌, ℕ, ◌<◌, List, [], ◌∷◌, ◌++◌, Bool, true, false, ◌&&◌, not, cond, Option, Some, None, length, nat_eq, filter, refl, sym, ap, ◌∙◌, arith}
use Rattle.std.specs.Borrow.{Bor}
use Rattle.std.specs.List.{slice_split, list_all}
use Rattle.std.proofs.lemmas.Bool.Decides.{nat_tests}
use Rattle.std.proofs.lemmas.Grind.{common_steps}
use Rattle.trace_io.specs.Lines.{words_of}
use Rattle.trace_io.specs.Parts.{parts_of}

-- what stands behind a cut, if anything does
abbrev pub behind_cut : Option (Bor (List ℕ)) → List ℕ
behind_cut None = []
behind_cut (Some rest) = rest.now

-- words among parts
abbrev pub words_among : List (List ℕ) → List (List ℕ)
words_among parts = filter (λ w. not (nat_eq (length w) 0)) parts

words_behind : (rest : Option (Bor (List ℕ))) → words_among (parts_of 32 rest) ≡ words_of (behind_cut rest)
words_behind None = refl
words_behind (Some rest) = refl

some_word : (w : List ℕ) (parts : List (List ℕ)) → 0 < length w → words_among (w ∷ parts) ≡ w ∷ words_among parts
some_word [] parts h = absurd (omega arith)
some_word (b ∷ w) parts h =
    let some : not (nat_eq (length (b ∷ w)) 0) ≡ true = grind (arith, nat_tests) in
    ap (λ t. cond t ((b ∷ w) ∷ words_among parts) (words_among parts)) some

-- a word stands before the cut
pub words-first : (line word : List ℕ) (rest : Option (Bor (List ℕ))) (left : List ℕ) → slice_split (λ b. nat_eq b 32) line ≡ word ∷ parts_of 32 rest → 0 < length word → left ≡ behind_cut rest → words_of line ≡ word ∷ words_of left
words-first line word rest left h some is = ap words_among h ∙ some_word word (parts_of 32 rest) some ∙ ap (λ ws. word ∷ ws) (words_behind rest ∙ ap words_of (sym is))

-- none does
pub words-later : (line word : List ℕ) (rest : Option (Bor (List ℕ))) (left : List ℕ) → slice_split (λ b. nat_eq b 32) line ≡ word ∷ parts_of 32 rest → length word ≡ 0 → left ≡ behind_cut rest → words_of line ≡ words_of left
words-later line word rest left h none is = ap words_among (h ∙ ap (λ (w : List ℕ). w ∷ parts_of 32 rest) (no_bytes word none)) ∙ words_behind rest ∙ ap words_of (sym is)
  where
    no_bytes : (w : List ℕ) → length w ≡ 0 → w ≡ []
    no_bytes [] e = refl
    no_bytes (b ∷ w) e = absurd (omega arith)

pub words-none : (line : List ℕ) → length line ≡ 0 → words_of line ≡ []
words-none [] e = refl
words-none (b ∷ line) e = absurd (omega arith)

-- one more word of a list that all pass a test, or don't
pub all-next : (test : List ℕ → Bool) (words more : List (List ℕ)) (word : List ℕ) (b : Bool) → b ≡ list_all test words → words ≡ word ∷ more → test word ≡ true → b ≡ list_all test more
all-next test words more word b h e t = h ∙ ap (list_all test) e ∙ passes (test word) (list_all test more) t
  where
    passes : (a c : Bool) → a ≡ true → (a && c) ≡ c
    passes true c p = refl
    passes false c p = cc

pub all-fails : (test : List ℕ → Bool) (words more : List (List ℕ)) (word : List ℕ) (b : Bool) → b ≡ list_all test words → words ≡ word ∷ more → test word ≡ false → b ≡ false
all-fails test words more word b h e t = h ∙ ap (list_all test) e ∙ fails (test word) (list_all test more) t
  where
    fails : (a c : Bool) → a ≡ false → (a && c) ≡ false
    fails true c p = cc
    fails false c p = refl

pub all-none : (test : List ℕ → Bool) (words : List (List ℕ)) (b : Bool) → b ≡ list_all test words → words ≡ [] → b ≡ true
all-none test words b h e = h ∙ ap (list_all test) e

-- one more word was seen
pub seen-next : (all seen words more : List (List ℕ)) (word : List ℕ) → all ≡ seen ++ words → words ≡ word ∷ more → all ≡ (seen ++ word ∷ []) ++ more
seen-next all seen words more word h e = h ∙ ap (λ z. seen ++ z) e ∙ grind (arith, common_steps)

pub seen-all : (all seen words : List (List ℕ)) → all ≡ seen ++ words → words ≡ [] → all ≡ seen
seen-all all seen words h e = h ∙ ap (λ z. seen ++ z) e ∙ append-none seen
  where
    append-none : (xs : List (List ℕ)) → xs ++ [] ≡ xs
    append-none xs = grind (arith, common_steps)

pub ruleset words = (common_steps, words-first, words-later, words-none, all-next, all-fails, all-none)
