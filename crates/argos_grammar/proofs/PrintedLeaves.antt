-- Names, numbers and lists of names, as they are printed.
use Rattle.std.proofs.Common.{◌≡◌, ◌≤◌, List, [], ◌∷◌, ◌++◌, true, refl, sym, ap, ◌∙◌, subst, arith, append_assoc, append-nil}
use Rattle.std.specs.Prelude.{ℕ, codes, flat_map, map, decimal}
use Rattle.std.specs.List.{list_all, AllByRecursion}
use Prim.Native.String.{String}
use Rattle.argos_base.specs.Spelling.{is_word, is_free_word, IsName, Spells}
use Rattle.argos_base.proofs.Bools.{and_first, and_both, or_left, or_right}
use Rattle.argos_tokens.specs.Tokens.{Token, is_token}
use Rattle.argos_grammar.specs.Forms.{Mark, Numeral}
use Rattle.argos_grammar.specs.Grammar.{Piece, ◌⨾◌, word, name, numeral, number, version, count, separated, optional, names, listed, emitted, effect, braced, interface}
use Rattle.argos_grammar.specs.Printed.{Words, w, name_words, number_words, separated_words, names_words, listed_words, emitted_words, braced_words}
use Rattle.argos_grammar.specs.Text.{IsMark, AreMarks, IsNumber}
use Rattle.argos_grammar.specs.Unplaced.{unplaced_mark, unplaced_marks, unplaced_numeral}
use Rattle.argos_grammar.proofs.PrintedNumbers.{decimal_digits, decimal_spells}
use Rattle.argos_grammar.proofs.Prints.{Spelt, Prints, both, after_word, before_word, no_words, made, respelled, word_between, prints_each}

-- a name
name_is_token : (t : List ℕ) → IsName t → is_token t ≡ true
name_is_token t h = or_left _ _ (or_left _ _ (and_first (is_word t) _ (and_first (is_free_word t) _ h)))

name_reads : (m : Mark) → IsMark m → (ts rest : List Token) → Spelt (name_words m) ts rest → (y : Mark) × name y ts rest × (unplaced_mark y ≡ unplaced_mark m)
name_reads m h [] rest k = absurd k
name_reads m h (t ∷ ts) rest k = (record { name = t.text; at = t.at }, (subst IsName (sym k.0) h, refl, refl, k.1), λ i. record { name = k.0 i; at = 0 })

pub prints_name : (m : Mark) → IsMark m → Prints (name_words m) name (λ y. unplaced_mark y ≡ unplaced_mark m)
prints_name m h = record { tokens = and_both (is_token m.name) true (name_is_token m.name h) refl; reads = name_reads m h }

-- a number
number_is_token : (n : ℕ) → n ≤ 65535 → list_all is_token (number_words n) ≡ true
number_is_token n l = and_both (is_token (decimal n)) true (or_left _ _ (or_right (is_word (decimal n)) _ (decimal_digits n l))) refl

number_reads : (n : ℕ) → n ≤ 65535 → (ts rest : List Token) → Spelt (number_words n) ts rest → number n ts rest
number_reads n l [] rest k = absurd k
number_reads n l (t ∷ ts) rest k = (t.at, (subst (Spells n) (sym k.0) (decimal_spells n l), l, refl, k.1))

pub prints_numeral : (n : Numeral) → IsNumber n.number → Prints (number_words n.number) numeral (λ y. unplaced_numeral y ≡ unplaced_numeral n)
prints_numeral n l = record {
  tokens = number_is_token n.number l;
  reads = λ ts rest k. let r = number_reads n.number l ts rest k in (record { number = n.number; at = r.0 }, r.1, refl);
}

pub prints_version : (n : ℕ) → n ≡ 1 → Prints (number_words n) version (λ y. y ≡ n)
prints_version n e = let l : n ≤ 65535 = omega arith in record { tokens = number_is_token n l; reads = λ ts rest k. (n, (e, number_reads n l ts rest k), refl) }

pub prints_count : (n : ℕ) → 1 ≤ n → IsNumber n → Prints (number_words n) count (λ y. y ≡ n)
prints_count n some l = record { tokens = number_is_token n l; reads = λ ts rest k. (n, (some, number_reads n l ts rest k), refl) }

-- one or more, with a word between two
separated_is : {A : Type 0} (s : String) (g : A → Words) (x : A) (xs : List A) → separated_words s g (x ∷ xs) ≡ g x ++ flat_map (λ y. codes s ∷ g y) xs
separated_is s g x [] = sym (append-nil (g x))
separated_is s g x (y ∷ ys) = append_assoc (g x) (codes s ∷ []) (separated_words s g (y ∷ ys)) ∙ ap (λ ws. g x ++ codes s ∷ ws) (separated_is s g y ys)

pub prints_separated : {A : Type 0} (s : String) (P : A → Piece) (u : A → A) (g : A → Words) (I : A → Type 0) → is_token (codes s) ≡ true → ((x : A) → I x → Prints (g x) P (λ y. u y ≡ u x)) → (x : A) (xs : List A) → AllByRecursion I (x ∷ xs)
    → Prints {A = A × List A} (separated_words s g (x ∷ xs)) (λ p. separated s P (p.0 ∷ p.1)) (λ p. map u (p.0 ∷ p.1) ≡ map u (x ∷ xs))
prints_separated s P u g I t one x xs h =
    let more = prints_each (λ y. word s ⨾ P y) u (λ y. codes s ∷ g y) I (λ y i. after_word s t (one y i)) xs h.1 in
    respelled (made (both (one x h.0) more) (λ p. p) (λ p ts rest k. k) (λ p k i. k.0 i ∷ k.1 i)) (sym (separated_is s g x xs))

pub prints_optional : {A : Type 0} (s : String) (P : A → Piece) (u : A → A) (g : A → Words) (I : A → Type 0) → is_token (codes s) ≡ true → ((x : A) → I x → Prints (g x) P (λ y. u y ≡ u x)) → (xs : List A) → AllByRecursion I xs
    → Prints (separated_words s g xs) (optional (separated s P)) (λ ys. map u ys ≡ map u xs)
prints_optional s P u g I t one [] h = no_words [] (λ ts rest e. e) refl
prints_optional s P u g I t one (x ∷ xs) h = made (prints_separated s P u g I t one x xs h) (λ p. p.0 ∷ p.1) (λ p ts rest k. k) (λ p k. k)

some_names : (m : Mark) (ms : List Mark) → AreMarks (m ∷ ms) → Prints {A = Mark × List Mark} (names_words (m ∷ ms)) (λ p. names (p.0 ∷ p.1)) (λ p. unplaced_marks (p.0 ∷ p.1) ≡ unplaced_marks (m ∷ ms))
some_names m ms h = prints_separated "," name unplaced_mark name_words IsMark refl prints_name m ms h

pub prints_names : (m : Mark) (ms : List Mark) → AreMarks (m ∷ ms) → Prints (names_words (m ∷ ms)) names (λ ys. unplaced_marks ys ≡ unplaced_marks (m ∷ ms))
prints_names m ms h = made (some_names m ms h) (λ p. p.0 ∷ p.1) (λ p ts rest k. k) (λ p k. k)

pub prints_optional_names : (ms : List Mark) → AreMarks ms → Prints (names_words ms) (optional names) (λ ys. unplaced_marks ys ≡ unplaced_marks ms)
prints_optional_names ms h = prints_optional "," name unplaced_mark name_words IsMark refl prints_name ms h

-- in braces
pub prints_braced : {A : Type 0} {ws : Words} {P : A → Piece} {S : A → Type 0} → Prints ws P S → Prints (braced_words ws) (λ y. braced (P y)) S
prints_braced x = after_word "{" refl (before_word "}" refl x)

pub prints_listed : (ms : List Mark) → AreMarks ms → Prints (listed_words ms) listed (λ ys. unplaced_marks ys ≡ unplaced_marks ms)
prints_listed ms h = after_word "(" refl (before_word ")" refl (prints_optional_names ms h))

pub prints_interface : (xs ys : List Mark) → AreMarks xs → AreMarks ys
    → Prints {A = List Mark × List Mark} (listed_words xs ++ w "->" ++ listed_words ys) (λ p. interface p.0 p.1) (λ p. (unplaced_marks p.0 ≡ unplaced_marks xs) × (unplaced_marks p.1 ≡ unplaced_marks ys))
prints_interface xs ys h k = respelled (both (prints_listed xs h) (after_word "->" refl (prints_listed ys k))) (word_between (listed_words xs) (listed_words ys) "->")

-- what is emitted
pub prints_emitted : (ms : List Mark) → AreMarks ms → Prints (emitted_words ms) emitted (λ ys. unplaced_marks ys ≡ unplaced_marks ms)
prints_emitted [] h = no_words [] (λ ts rest e. e) refl
prints_emitted (m ∷ ms) h = made (after_word "emit" refl (some_names m ms h)) (λ p. p.0 ∷ p.1) (λ p ts rest k. k) (λ p k. k)

pub prints_effect : (outs : List Mark) (target : Mark) → AreMarks outs → IsMark target
    → Prints {A = List Mark × Mark} (emitted_words outs ++ codes "goto" ∷ target.name ∷ codes ";" ∷ []) (λ p. effect p.0 p.1) (λ p. (unplaced_marks p.0 ≡ unplaced_marks outs) × (unplaced_mark p.1 ≡ unplaced_mark target))
prints_effect outs target h k = both (prints_emitted outs h) (after_word "goto" refl (before_word ";" refl (prints_name target k)))
