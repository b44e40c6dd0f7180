-- Words behind spaces, appended one after another.
use Rattle.std.proofs.Common.{◌≡◌, ℕ, ◌+◌, ◌<◌, ◌≤◌, List, [], ◌∷◌, ◌++◌, length, get_or, drop, map, refl, ap, sym, ◌∙◌, append_assoc}
use Prim.Native.String.{String}
use Rattle.std.specs.Prelude.{flat_map}
use Rattle.std.specs.List.{join_with_byte}
use Rattle.std.proofs.lemmas.Grind.{common_steps, flat_map-append}
use Rattle.std.proofs.lemmas.List.{at_drop_more, at_drop_all, append-nil}
use Rattle.argos_grammar.specs.Printed.{Words, w, separated_words, name_words, names_words}
use Rattle.argos_printer.specs.Spaced.{spaced}
use Rattle.argos_grammar.specs.Views.{mark_of, marks_of}
use Rattle.argos_grammar.specs.declared.trees.Spot.{Spot}

-- what follows the first word
pub join-cons : (v : List ℕ) (ws : Words) → join_with_byte 32 (v ∷ ws) ≡ v ++ spaced ws
join-cons v [] = sym (append-nil v)
join-cons v (u ∷ ws) = ap (λ x. v ++ 32 ∷ x) (join-cons u ws)

-- words after words
pub spaced-append : (vs ws : Words) → spaced (vs ++ ws) ≡ spaced vs ++ spaced ws
spaced-append vs ws = flat_map-append (λ v. 32 ∷ v) vs ws

-- the words of each
unfoldable pub spaced_each : {X : Type 0} → (X → Words) → List X → List ℕ
spaced_each f xs = spaced (flat_map f xs)

pub spaced_each-nil : {X : Type 0} (f : X → Words) → spaced_each f [] ≡ []
unfolding spaced_each
spaced_each-nil f = refl

pub spaced_each-cons : {X : Type 0} (f : X → Words) (x : X) (xs : List X) → spaced_each f (x ∷ xs) ≡ spaced (f x) ++ spaced_each f xs
unfolding spaced_each
spaced_each-cons f x xs = spaced-append (f x) (flat_map f xs)

pub spaced_each-drop : {X : Type 0} (f : X → Words) (xs : List X) (i : ℕ) (d : X) → i < length xs → spaced_each f (drop i xs) ≡ spaced (f (get_or xs i d)) ++ spaced_each f (drop (i + 1) xs)
spaced_each-drop f xs i d h = at_drop_more (spaced_each f) xs i d h ∙ spaced_each-cons f (get_or xs i d) (drop (i + 1) xs)

pub spaced_each-past : {X : Type 0} (f : X → Words) (xs : List X) (i : ℕ) → length xs ≤ i → spaced_each f (drop i xs) ≡ []
spaced_each-past f xs i h = at_drop_all (spaced_each f) xs i h ∙ spaced_each-nil f

-- another behind a word
abbrev pub name_behind : Spot → Words
name_behind s = w "," ++ name_words (mark_of s)

pub separated_words-cons : {X A : Type 0} (s : String) (f : A → Words) (g : X → A) (x : X) (xs : List X) → separated_words s f (map g (x ∷ xs)) ≡ f (g x) ++ flat_map (λ y. w s ++ f (g y)) xs
separated_words-cons s f g x [] = sym (append-nil (f (g x)))
separated_words-cons s f g x (y ∷ ys) = append_assoc (f (g x)) (w s) (separated_words s f (map g (y ∷ ys))) ∙ ap (λ r. f (g x) ++ (w s ++ r)) (separated_words-cons s f g y ys)

pub names_words-cons : (ns : List Spot) (n : Spot) (more : List Spot) → ns ≡ n ∷ more → spaced (names_words (marks_of ns)) ≡ spaced (name_words (mark_of n)) ++ spaced_each name_behind more
unfolding spaced_each
names_words-cons ns n more e = ap (λ x. spaced (names_words (marks_of x))) e ∙ ap spaced (separated_words-cons "," name_words mark_of n more) ∙ spaced-append (name_words (mark_of n)) (flat_map name_behind more)

-- words that were appended one after another
pub two_appended : (a b : Words) (t t1 t2 : List ℕ) → t1 ≡ t ++ spaced a → t2 ≡ t1 ++ spaced b → t2 ≡ t ++ spaced (a ++ b)
two_appended a b t t1 t2 p q = q ∙ ap (λ u. u ++ spaced b) p ∙ append_assoc t (spaced a) (spaced b) ∙ ap (λ u. t ++ u) (sym (spaced-append a b))

pub four_appended : (a b c d : Words) (t t1 t2 t3 t4 : List ℕ) → t1 ≡ t ++ spaced a → t2 ≡ t1 ++ spaced b → t3 ≡ t2 ++ spaced c → t4 ≡ t3 ++ spaced d → t4 ≡ t ++ spaced (a ++ b ++ c ++ d)
four_appended a b c d t t1 t2 t3 t4 p q r s = two_appended (a ++ b ++ c) d t t3 t4 (two_appended (a ++ b) c t t2 t3 (two_appended a b t t1 t2 p q) r) s

-- the next name of those that are left
pub names_drop : (ns : List Spot) (i : ℕ) (n : Spot) → i < length ns → (get_or ns i n ≡ get_or ns i n) × (spaced_each name_behind (drop i ns) ≡ spaced (w ",") ++ (spaced (name_words (mark_of (get_or ns i n))) ++ spaced_each name_behind (drop (i + 1) ns)))
names_drop ns i n h = (refl, spaced_each-drop name_behind ns i n h)

pub ruleset words = (common_steps, spaced-append, append_assoc, append-nil, spaced_each-past, names_words-cons, names_drop)
