-- The first of what is broken, name by name.
use Rattle.std.proofs.Common.{◌≡◌, ℕ, ◌+◌, ◌<◌, ◌≤◌, List, [], ◌∷◌, ◌++◌, Option, Some, None, length, get_or, drop, take, map, append_assoc, refl, sym, ap, subst, ◌∙◌}
use Rattle.std.specs.Prelude.{flat_map, Result, Ok, Err, MatchResult}
use Rattle.std.specs.Result.{IsErrAnd}
use Rattle.std.proofs.lemmas.List.{at_drop_more, at_drop_all, map_push, take_more}
use Rattle.argos_aspects.specs.Aspects as aspects
use Rattle.argos_aspects.specs.Aspects.{Seen}
use Rattle.argos_aspects.specs.Views.{seen_of}
use Rattle.argos_aspects.specs.declared.aspect.Seen.{Seen as RustSeen}
use Rattle.argos_base.specs.Names.{Spelled}
use Rattle.argos_grammar.specs.Forms.{Mark}
use Rattle.argos_grammar.specs.Views.{mark_of, marks_of}
use Rattle.argos_grammar.specs.declared.trees.Spot.{Spot}
use Rattle.argos_names.specs.Scope.{Breach, Unknown, NotReadable, NotEmittable, Sort, input, output, Scope, names_in, sort_in, read_as, emitted_as, reading, emitting}
use Rattle.argos_scope.specs.Faults.{broken_at}
use Rattle.argos_scope.specs.Meaning.{ScopeFault, broken}
use Rattle.argos_scope.specs.declared.errors.ScopeError.{ScopeError}
use Rattle.argos_scope.specs.declared.errors.ScopeError.TheVariants as scopes
use Rattle.line_format.specs.FileNames.{FileNames}
use Rattle.pointcuts.specs.Pointcuts.{seen_as, seeing, IsSeen, AreSeen}
use Rattle.pointcuts.specs.inner.Finding.{IsFirst, TellsFirst, TellsFirstOrNothing}

pub first_append : {A : Type 0} (xs ys : List A) (x : A) → IsFirst xs x → IsFirst (xs ++ ys) x
first_append xs ys x (more, e) = (more ++ ys, ap (λ zs. zs ++ ys) e)

pub first_later : {A : Type 0} (xs ys : List A) (x : A) → xs ≡ [] → IsFirst ys x → IsFirst (xs ++ ys) x
first_later xs ys x e (more, f) = (more, ap (λ zs. zs ++ ys) e ∙ f)

pub first_mapped : {A B : Type 0} (g : A → B) (xs : List A) (x : A) → IsFirst xs x → IsFirst (map g xs) (g x)
first_mapped g xs x (more, e) = (map g more, ap (map g) e)

-- what is broken in each of a list, of which those before have nothing
module _ {X Y : Type 0} (g : X → Y) (f : Y → List Breach) where
  abbrev pub in_all : List X → List Breach
  in_all xs = flat_map f (map g xs)

  next : (xs : List X) (i : ℕ) (x : X) → i < length xs → x ≡ get_or xs i x → in_all (drop i xs) ≡ f (g x) ++ in_all (drop (i + 1) xs)
  next xs i x h e = at_drop_more in_all xs i x h ∙ ap (λ y. f (g y) ++ in_all (drop (i + 1) xs)) (sym e)

  pub nothing_here : (xs : List X) (i : ℕ) (x : X) → i < length xs → x ≡ get_or xs i x → in_all (drop i xs) ≡ in_all xs → f (g x) ≡ [] → in_all (drop (i + 1) xs) ≡ in_all xs
  nothing_here xs i x h e same none = ap (λ bs. bs ++ in_all (drop (i + 1) xs)) (sym none) ∙ sym (next xs i x h e) ∙ same

  pub first_here : (xs : List X) (i : ℕ) (x : X) (error : ScopeError) → i < length xs → x ≡ get_or xs i x → in_all (drop i xs) ≡ in_all xs → TellsFirst (f (g x)) error → TellsFirst (in_all xs) error
  first_here xs i x error h e same (b, first, told) =
      (b, subst (λ bs. IsFirst bs b) (sym (next xs i x h e) ∙ same) (first_append (f (g x)) (in_all (drop (i + 1) xs)) b first), told)

  pub nothing_left : (xs : List X) (i : ℕ) → length xs ≤ i → in_all (drop i xs) ≡ in_all xs → in_all xs ≡ []
  nothing_left xs i h same = sym same ∙ at_drop_all in_all xs i h

-- an error of a name, or want of memory
pub or_nothing : (bs : List Breach) (e : ScopeError) → TellsFirst bs e → TellsFirstOrNothing bs e
or_nothing bs scopes.OutOfMemory h = tt
or_nothing bs (scopes.Unknown name at) h = h
or_nothing bs (scopes.Duplicate name at) h = h
or_nothing bs (scopes.NotReadable name at) h = h
or_nothing bs (scopes.NotEmittable name at) h = h
or_nothing bs (scopes.Arity name at) h = h
or_nothing bs (scopes.NotEarlier name at) h = h
or_nothing bs (scopes.NoInitial name at) h = h
or_nothing bs (scopes.Limit which count) h = h

-- one more input that the observer sees
pub seen_push : (n : FileNames) (names : List Spelled) (seen : List Seen) (name : Spelled) (s : Seen) → AreSeen n names seen → IsSeen n name s → AreSeen n (names ++ name ∷ []) (seen ++ s ∷ [])
seen_push n [] [] name s h k = (k, tt)
seen_push n [] (t ∷ seen) name s h k = absurd h
seen_push n (x ∷ names) [] name s h k = absurd h
seen_push n (x ∷ names) (t ∷ seen) name s h k = (h.0, seen_push n names seen name s h.1 k)

-- what a name that is refused is told as
pub unknown_seen : (s : Scope) (m : Mark) → None ≡ sort_in s m.name → (b : Breach) × IsFirst (seeing s m) b × (Some (broken_at Unknown m.name m.at) ≡ Some (broken b))
unknown_seen s m h = (record { rule = Unknown; mark = m }, ([], ap (λ o. seen_as o m) (sym h)), refl)

pub unknown_emitted : (s : Scope) (m : Mark) → None ≡ sort_in s m.name → (b : Breach) × IsFirst (emitting s m) b × (Some (broken_at Unknown m.name m.at) ≡ Some (broken b))
unknown_emitted s m h = (record { rule = Unknown; mark = m }, ([], ap (λ o. emitted_as o m) (sym h)), refl)

pub input_emitted : (s : Scope) (m : Mark) → Some input ≡ sort_in s m.name → (b : Breach) × IsFirst (emitting s m) b × (Some (broken_at NotEmittable m.name m.at) ≡ Some (broken b))
input_emitted s m h = (record { rule = NotEmittable; mark = m }, ([], ap (λ o. emitted_as o m) (sym h)), refl)

pub unknown_read : (s : Scope) (m : Mark) → None ≡ sort_in s m.name → (b : Breach) × IsFirst (reading s m) b × (Some (broken_at Unknown m.name m.at) ≡ Some (broken b))
unknown_read s m h = (record { rule = Unknown; mark = m }, ([], ap (λ o. read_as o m) (sym h)), refl)

pub output_read : (s : Scope) (m : Mark) → Some output ≡ sort_in s m.name → (b : Breach) × IsFirst (reading s m) b × (Some (broken_at NotReadable m.name m.at) ≡ Some (broken b))
output_read s m h = (record { rule = NotReadable; mark = m }, ([], ap (λ o. read_as o m) (sym h)), refl)

pub seen_more : (n : FileNames) (inputs : List Spot) (i : ℕ) (item : Spot) (before after : List RustSeen) (s : RustSeen) → i < length inputs → item ≡ get_or inputs i item → after ≡ before ++ s ∷ []
    → AreSeen n (names_in (marks_of (take i inputs))) (map seen_of before) → IsSeen n item.name (seen_of s) → AreSeen n (names_in (marks_of (take (i + 1) inputs))) (map seen_of after)
seen_more n inputs i item before after s h e a seen one =
    let names : names_in (marks_of (take (i + 1) inputs)) ≡ names_in (marks_of (take i inputs)) ++ item.name ∷ [] =
    ap (λ xs. names_in (marks_of xs)) (take_more inputs i item h ∙ ap (λ (x : Spot). take i inputs ++ x ∷ []) (sym e))
    ∙ ap names_in (map_push mark_of (take i inputs) item)
    ∙ map_push (λ (m : Mark). m.name) (marks_of (take i inputs)) (mark_of item) in
    let items : map seen_of after ≡ map seen_of before ++ seen_of s ∷ [] = ap (map seen_of) a ∙ map_push seen_of before s in
    subst (λ xs. AreSeen n xs (map seen_of after)) (sym names)
    (subst (λ ss. AreSeen n (names_in (marks_of (take i inputs)) ++ item.name ∷ []) ss) (sym items)
    (seen_push n (names_in (marks_of (take i inputs))) (map seen_of before) item.name (seen_of s) seen one))

-- what an error of a `?` says
pub error_found : {T : Type 0} (P : ScopeError → Type 0) (Q : T → Type 0) (r : Result T ScopeError) (e : ScopeError) → IsErrAnd r (λ x. x ≡ e) → P e → MatchResult r Q P
error_found P Q (Ok x) e h p = absurd h
error_found P Q (Err x) e h p = subst P (sym h) p
