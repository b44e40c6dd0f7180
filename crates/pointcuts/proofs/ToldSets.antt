-- The sets of the names that are told, name by name.
use Rattle.std.proofs.Common.{◌≡◌, ℕ, zero, suc, ◌+◌, ◌<◌, List, [], ◌∷◌, ◌++◌, Bool, true, false, ◌||◌, Option, Some, None, length, map, get_or, take, slice_get, slice_set, refl, sym, ap, ◌∙◌, inl, inr, arith}
use Rattle.std.specs.Prelude.{bytes_eq}
use Rattle.std.proofs.lemmas.Grind.{common_steps}
use Rattle.std.proofs.lemmas.List.{map-append, map_push, take_more, length-map}
use Rattle.std.proofs.lemmas.List.Folds.{list_any-append}
use Rattle.argos_base.specs.Names.{Spelled, AreDistinct, place_of}
use Rattle.argos_base.specs.SignalSets.{SignalSet, has, set_where, empty}
use Rattle.argos_base.specs.Spelling.{is_one_of}
use Rattle.argos_base.proofs.Bools.{and_first, and_second, or_first_false, or_second_false, not_false, is_false}
use Rattle.argos_grammar.specs.Forms.{Mark}
use Rattle.argos_grammar.specs.Views.{mark_of, marks_of}
use Rattle.argos_grammar.specs.declared.trees.Spot.{Spot}
use Rattle.argos_names.specs.Scope.{names_in}
use Rattle.pointcuts.specs.Pointcuts.{told}
use Rattle.pointcuts.proofs.Places.{same_bytes, bytes_same, stands, unplaced}

-- one more name
with_more : (names : List Spelled) (name x : Spelled) (b : Bool) → bytes_eq x name ≡ b → is_one_of (names ++ name ∷ []) x ≡ (is_one_of names x || b)
with_more names name x true e = list_any-append (bytes_eq x) names (name ∷ []) ∙ ap (λ c. is_one_of names x || (c || false)) e
with_more names name x false e = list_any-append (bytes_eq x) names (name ∷ []) ∙ ap (λ c. is_one_of names x || (c || false)) e

or_true : (b : Bool) → (b || true) ≡ true
or_true true = refl
or_true false = refl

or_false : (b : Bool) → (b || false) ≡ b
or_false true = refl
or_false false = refl

here : (names : List Spelled) (name x : Spelled) → bytes_eq x name ≡ true → is_one_of (names ++ name ∷ []) x ≡ true
here names name x e = with_more names name x true e ∙ or_true (is_one_of names x)

elsewhere : (names : List Spelled) (name x : Spelled) → bytes_eq x name ≡ false → is_one_of (names ++ name ∷ []) x ≡ is_one_of names x
elsewhere names name x e = with_more names name x false e ∙ or_false (is_one_of names x)

other_way : (x y : Spelled) → bytes_eq x y ≡ false → bytes_eq y x ≡ false
other_way x y h = is_false (bytes_eq y x) (λ t. let both : true ≡ false = sym (bytes_same x y (sym (same_bytes y x t))) ∙ h in cc both)

-- a name that isn't among them changes nothing
nowhere : (told_names xs : List Spelled) (name : Spelled) → is_one_of xs name ≡ false → map (is_one_of told_names) xs ≡ map (is_one_of (told_names ++ name ∷ [])) xs
nowhere told_names [] name h = refl
nowhere told_names (x ∷ xs) name h =
    ap (λ (b : Bool). b ∷ map (is_one_of told_names) xs) (sym (elsewhere told_names name x (other_way name x (or_first_false _ _ h))))
    ∙ ap (λ (s : List Bool). is_one_of (told_names ++ name ∷ []) x ∷ s) (nowhere told_names xs name (or_second_false (bytes_eq name x) _ h))

-- a name among others isn't a name that isn't one of them
apart : (xs : List Spelled) (x : Spelled) (k : ℕ) (name : Spelled) → is_one_of xs x ≡ false → slice_get xs k ≡ Some name → bytes_eq x name ≡ false
apart [] x k name h e = cc e
apart (y ∷ xs) x zero name h e = let same : y ≡ name = cc e in ap (bytes_eq x) (sym same) ∙ or_first_false _ _ h
apart (y ∷ xs) x (suc k) name h e = apart xs x k name (or_second_false (bytes_eq x y) _ h) e

-- a name that is puts its place into the set
at_place : (told_names xs : List Spelled) (name : Spelled) (k : ℕ) → AreDistinct xs → slice_get xs k ≡ Some name → slice_set (map (is_one_of told_names) xs) k true ≡ map (is_one_of (told_names ++ name ∷ [])) xs
at_place told_names [] name k d h = refl
at_place told_names (x ∷ xs) name zero d h =
    let same : x ≡ name = cc h in
    let absent : is_one_of xs name ≡ false = ap (is_one_of xs) (sym same) ∙ not_false _ (and_first _ _ d) in
    ap (λ (b : Bool). b ∷ map (is_one_of told_names) xs) (sym (here told_names name x (bytes_same x name same)))
    ∙ ap (λ (s : List Bool). is_one_of (told_names ++ name ∷ []) x ∷ s) (nowhere told_names xs name absent)
at_place told_names (x ∷ xs) name (suc k) d h =
    ap (λ (b : Bool). b ∷ slice_set (map (is_one_of told_names) xs) k true) (sym (elsewhere told_names name x (apart xs x k name (not_false _ (and_first _ _ d)) h)))
    ∙ ap (λ (s : List Bool). is_one_of (told_names ++ name ∷ []) x ∷ s) (at_place told_names xs name k (and_second _ _ d) h)

names_push : (ms : List Mark) (m : Mark) → names_in (ms ++ m ∷ []) ≡ names_in ms ++ m.name ∷ []
names_push ms m = map-append (λ (x : Mark). x.name) ms (m ∷ [])

pub told_there : (names : List Spelled) (ms : List Mark) (m : Mark) (s : SignalSet) (k : ℕ) → AreDistinct names → place_of names m.name ≡ Some k → s ≡ told names ms → slice_set s k true ≡ told names (ms ++ m ∷ [])
told_there names ms m s k d p e =
    ap (λ x. slice_set x k true) e
    ∙ at_place (names_in ms) names m.name k d (stands names m.name k p)
    ∙ ap (λ xs. map (is_one_of xs) names) (sym (names_push ms m))

pub told_nowhere : (names : List Spelled) (ms : List Mark) (m : Mark) (s : SignalSet) → place_of names m.name ≡ None → s ≡ told names ms → s ≡ told names (ms ++ m ∷ [])
told_nowhere names ms m s p e =
    e ∙ nowhere (names_in ms) names m.name (unplaced names m.name p) ∙ ap (λ xs. map (is_one_of xs) names) (sym (names_push ms m))

-- where nothing is told
pub told_none : (names : List Spelled) → empty (length names) ≡ told names []
told_none [] = refl
told_none (x ∷ xs) = ap (λ (s : List Bool). false ∷ s) (told_none xs)

pub told_more : (names : List Spelled) (spots : List Spot) (i : ℕ) (d : Spot) → i < length spots → told names (marks_of (take (i + 1) spots)) ≡ told names (marks_of (take i spots) ++ mark_of (get_or spots i d) ∷ [])
told_more names spots i d h = ap (λ ms. told names (marks_of ms)) (take_more spots i d h) ∙ ap (told names) (map_push mark_of (take i spots) (get_or spots i d))

pub length-told : (names : List Spelled) (ms : List Mark) → length (told names ms) ≡ length names
length-told names ms = length-map names (is_one_of (names_in ms))

pub ruleset told_sets = (common_steps, told_none, told_more, length-told, told_there, told_nowhere)
