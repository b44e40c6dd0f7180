-- Lists that are built one by one, and the names of the sample.
use Rattle.std.proofs.Common.{◌≡◌, ap, refl, true, ◌∙◌, sym, arith}
use Rattle.std.specs.Prelude.{ℕ, zero, suc, ◌+◌, List, [], ◌∷◌, ◌++◌, map, codes}
use Rattle.std.specs.List.{range_with_len}
use Rattle.std.proofs.lemmas.Grind.{common_steps}
use Rattle.argos_base.specs.Spelling.{is_name, reserved_words}
use Rattle.argos_grammar.proofs.ProcessViews.{process_of-Automaton, process_of-Local}
use Rattle.argos_grammar.proofs.GuardViews.{guard_of-Sig}

-- a range with one number more
range_more : (from k : ℕ) → range_with_len from (k + 1) ≡ range_with_len from k ++ (from + k) ∷ []
range_more from zero = let e : from ≡ from + 0 = omega arith in ap (λ (n : ℕ). n ∷ []) e
range_more from (suc k) =
    let e : suc k + 1 ≡ suc (k + 1) = omega arith in
    let f : from + 1 + k ≡ from + suc k = omega arith in
    ap (range_with_len from) e ∙ ap (λ (ns : List ℕ). from ∷ ns) (range_more (from + 1) k ∙ ap (λ (n : ℕ). range_with_len (from + 1) k ++ n ∷ []) f)

map_more : {A B : Type 0} (f : A → B) (xs : List A) (x : A) → map f (xs ++ x ∷ []) ≡ map f xs ++ f x ∷ []
map_more f [] x = refl
map_more f (y ∷ xs) x = ap (λ ys. f y ∷ ys) (map_more f xs x)

-- what stands for the first k things that are made is what was made of the numbers up to there; so it stays with one more
pub one_more_made : {A B : Type 0} (view : A → B) (made : ℕ → B) (xs : List A) (x : A) (from k : ℕ) → map view xs ≡ map made (range_with_len from k) → view x ≡ made (from + k)
    → map view (xs ++ x ∷ []) ≡ map made (range_with_len from (k + 1))
one_more_made view made xs x from k h e =
    map_more view xs x ∙ ap (λ ys. ys ++ view x ∷ []) h ∙ ap (λ y. map made (range_with_len from k) ++ y ∷ []) e
    ∙ sym (ap (map made) (range_more from k) ∙ map_more made (range_with_len from k) (from + k))

pub name_main : is_name (codes "main") ≡ true
unfolding reserved_words
name_main = refl

pub name_a : is_name (codes "a") ≡ true
unfolding reserved_words
name_a = refl

pub name_o : is_name (codes "o") ≡ true
unfolding reserved_words
name_o = refl

pub name_off : is_name (codes "Off") ≡ true
unfolding reserved_words
name_off = refl

pub name_on : is_name (codes "On") ≡ true
unfolding reserved_words
name_on = refl

pub ruleset names = (name_main, name_a, name_o, name_off, name_on)

pub ruleset building = (common_steps, names, process_of-Automaton, process_of-Local, guard_of-Sig)
