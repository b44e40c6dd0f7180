-- The words of a whole text: the first word, and the others behind spaces.
use Rattle.std.proofs.Common.{◌≡◌, ℕ, ◌+◌, ◌<◌, List, [], ◌∷◌, ◌++◌, length, get_or, drop, map, refl, ap, sym, ◌∙◌, append_assoc, Vec}
use Rattle.std.specs.Prelude.{flat_map, codes}
use Rattle.std.specs.List.{join_with_byte}
use Rattle.std.specs.declared.alloc.Global.{Global}
use Rattle.argos_grammar.specs.Forms.{AspectForm}
use Rattle.argos_grammar.specs.Printed.{Words, w, number_words, component_words, emitted_words, onset_words, aspect_words, aspect_text}
use Rattle.argos_printer.specs.Spaced.{spaced, set_words, sets_words, advice_words}
use Rattle.argos_grammar.specs.Views.{set_of}
use Rattle.argos_grammar.specs.declared.trees.Spot.{Spot}
use Rattle.argos_printer.proofs.Spaced.{words, four_appended, join-cons, separated_words-cons, spaced-append, spaced_each, spaced_each-drop}

-- a set behind a comma
abbrev pub set_behind : Vec Spot Global → Words
set_behind s = w "," ++ set_words (set_of s)

pub sets_words-cons : (ss : List (Vec Spot Global)) (s : Vec Spot Global) (more : List (Vec Spot Global)) → ss ≡ s ∷ more → spaced (sets_words (map set_of ss)) ≡ spaced (set_words (set_of s)) ++ spaced_each set_behind more
unfolding spaced_each
sets_words-cons ss s more e = ap (λ x. spaced (sets_words (map set_of x))) e ∙ ap spaced (separated_words-cons "," set_words set_of s more) ∙ spaced-append (set_words (set_of s)) (flat_map set_behind more)

pub sets_drop : (ss : List (Vec Spot Global)) (i : ℕ) (x : Vec Spot Global) → i < length ss → (get_or ss i x ≡ get_or ss i x) × (spaced_each set_behind (drop i ss) ≡ spaced (w ",") ++ (spaced (set_words (set_of (get_or ss i x))) ++ spaced_each set_behind (drop (i + 1) ss)))
sets_drop ss i x h = (refl, spaced_each-drop set_behind ss i x h)

pub ruleset sets = (words, sets_words-cons, sets_drop)

-- an aspect
advice_apart : (x a e o l s r z : Words) → x ++ a ++ e ++ o ++ l ++ s ++ r ++ z ≡ x ++ (a ++ e ++ o ++ (l ++ s ++ r) ++ z)
advice_apart x a e o l s r z = simp append_assoc

aspect_words-parts : (a : AspectForm) → aspect_words a ≡ codes "larissa" ∷ (number_words a.version ++ w ";" ++ flat_map component_words a.components ++ advice_words a)
aspect_words-parts a = advice_apart (w "larissa" ++ number_words a.version ++ w ";" ++ flat_map component_words a.components) (w "advice") (emitted_words a.outs) (onset_words a.current) (w "[") (sets_words a.trace) (w "]") (w ";")

pub aspect_written : (a : AspectForm) (t1 t2 t3 t4 t5 t6 : List ℕ) → t1 ≡ codes "larissa" → t2 ≡ t1 ++ spaced (number_words a.version) → t3 ≡ t2 ++ spaced (w ";") → t4 ≡ t3 ++ spaced (flat_map component_words a.components) → t5 ≡ t4 ++ spaced (advice_words a) → t6 ≡ t5 ++ 10 ∷ []
    → t6 ≡ aspect_text a
aspect_written a t1 t2 t3 t4 t5 t6 first p q r s end =
    let others = number_words a.version ++ w ";" ++ flat_map component_words a.components ++ advice_words a in
    let appended : t5 ≡ t1 ++ spaced others = four_appended (number_words a.version) (w ";") (flat_map component_words a.components) (advice_words a) t1 t2 t3 t4 t5 p q r s in
    let joined : t5 ≡ join_with_byte 32 (aspect_words a) = appended ∙ ap (λ x. x ++ spaced others) first ∙ sym (join-cons (codes "larissa") others) ∙ ap (join_with_byte 32) (sym (aspect_words-parts a)) in
    end ∙ ap (λ x. x ++ 10 ∷ []) joined

pub ruleset texts = (words, join-cons)
