-- What names are in scope of an aspect.
use Rattle.std.proofs.Common.{◌≡◌, ℕ, List, [], ◌∷◌, ◌++◌, Bool, true, false, ◌||◌, Option, Some, None, map, slice_get, refl, sym, ap, ◌∙◌}
use Rattle.std.specs.Prelude.{bytes_eq, if◌then◌else◌, option_map}
use Rattle.std.proofs.lemmas.List.{append-nil}
use Rattle.argos_base.specs.Names.{Spelled, place_of}
use Rattle.argos_base.specs.Spelling.{is_one_of}
use Rattle.argos_base.proofs.Bools.{or_first_false, or_second_false, is_false}
use Rattle.argos_names.specs.Scope.{Sort, input, output, Scope, sort_in}
use Rattle.line_format.specs.FileNames.{FileNames}
use Rattle.pointcuts.specs.Pointcuts.{base_scope}
use Rattle.pointcuts.proofs.Places.{same_bytes, bytes_same, placed, unplaced}

abbrev as_sort : Sort → List Spelled → Scope
as_sort s names = map (λ name. (name, s)) names

sort_first : (x name : Spelled) (s : Sort) (rest : Scope) (b : Bool) → bytes_eq x name ≡ b → sort_in ((x, s) ∷ rest) name ≡ (if b then Some s else sort_in rest name)
sort_first x name s rest b e = ap (λ (t : Bool). if t then Some s else sort_in rest name) e

pub sort_there : (names : List Spelled) (s : Sort) (rest : Scope) (name : Spelled) → is_one_of names name ≡ true → sort_in (as_sort s names ++ rest) name ≡ Some s
sort_there [] s rest name h = cc h
sort_there (x ∷ xs) s rest name h = by_test (bytes_eq x name) refl (sort_there xs s rest name)
  where
    by_test : (b : Bool) → bytes_eq x name ≡ b → (is_one_of xs name ≡ true → sort_in (as_sort s xs ++ rest) name ≡ Some s) → sort_in (as_sort s (x ∷ xs) ++ rest) name ≡ Some s
    by_test true e later = sort_first x name s (as_sort s xs ++ rest) true e
    by_test false e later =
        let other : bytes_eq name x ≡ false = is_false (bytes_eq name x) (λ t. let both : true ≡ false = sym (bytes_same x name (sym (same_bytes name x t))) ∙ e in cc both) in
        sort_first x name s (as_sort s xs ++ rest) false e ∙ later (ap (λ (t : Bool). t || is_one_of xs name) (sym other) ∙ h)

pub sort_past : (names : List Spelled) (s : Sort) (rest : Scope) (name : Spelled) → is_one_of names name ≡ false → sort_in (as_sort s names ++ rest) name ≡ sort_in rest name
sort_past [] s rest name h = refl
sort_past (x ∷ xs) s rest name h =
    sort_first x name s (as_sort s xs ++ rest) false (is_false (bytes_eq x name) (λ t. let both : true ≡ false = sym (bytes_same name x (sym (same_bytes x name t))) ∙ or_first_false _ _ h in cc both))
    ∙ sort_past xs s rest name (or_second_false (bytes_eq name x) _ h)

-- an input, an output, or neither
pub sort_input : (n : FileNames) (name : Spelled) → is_one_of n.inputs name ≡ true → sort_in (base_scope n) name ≡ Some input
sort_input n name h = sort_there n.inputs input (as_sort output n.outputs) name h

pub sort_output : (n : FileNames) (name : Spelled) → is_one_of n.inputs name ≡ false → is_one_of n.outputs name ≡ true → sort_in (base_scope n) name ≡ Some output
sort_output n name h k =
    sort_past n.inputs input (as_sort output n.outputs) name h
    ∙ ap (λ s. sort_in s name) (sym (append-nil (as_sort output n.outputs)))
    ∙ sort_there n.outputs output [] name k

pub sort_none : (n : FileNames) (name : Spelled) → is_one_of n.inputs name ≡ false → is_one_of n.outputs name ≡ false → sort_in (base_scope n) name ≡ None
sort_none n name h k =
    sort_past n.inputs input (as_sort output n.outputs) name h
    ∙ ap (λ s. sort_in s name) (sym (append-nil (as_sort output n.outputs)))
    ∙ sort_past n.outputs output [] name k
