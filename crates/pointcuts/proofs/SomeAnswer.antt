-- A tree tells an aspect over a base, or has a fault.
use Rattle.std.proofs.Common.{◌≡◌, ℕ, zero, suc, ◌+◌, ◌<◌, ◌≤◌, List, [], ◌∷◌, ◌++◌, Option, Some, None, true, false, length, map, append_assoc, refl, sym, ap, subst, ◌∙◌, ◌⊎◌, inl, inr, arith}
use Rattle.std.specs.Prelude.{flat_map, Contains}
use Rattle.std.specs.List.{AllByRecursion}
use Rattle.std.proofs.lemmas.List.{append-nil, length-map}
use Rattle.argos_aspects.specs.Aspects as aspects
use Rattle.argos_aspects.specs.Aspects.{Aspect, Seen}
use Rattle.argos_aspects.specs.Views.{onset_of}
use Rattle.argos_base.specs.Names.{Spelled, place_of}
use Rattle.argos_core.specs.Process.{PlainModule}
use Rattle.argos_expansion.specs.Expansion.{Visit, expansion, last_of}
use Rattle.argos_expansion.specs.Limits.{Which, passed, WithinFrom, IsWithin}
use Rattle.argos_grammar.specs.Forms.{Mark, ComponentForm, AspectForm}
use Rattle.argos_grammar.specs.Text.{HasSome, IsAspectForm}
use Rattle.argos_names.specs.Scope.{Breach, breaches, names_in}
use Rattle.argos_scope.specs.Meaning.{Resolves, broken, limit}
use Rattle.line_format.specs.FileNames.{FileNames}
use Rattle.pointcuts.specs.Laws.{Answered, an_aspect, a_fault}
use Rattle.pointcuts.specs.Pointcuts.{base_scope, seeing, IsSeen, AreSeen, told, IsAspectOf, AspectFault, scope, faults_over, name_rule, over_base}
use Rattle.pointcuts.specs.Pointcuts as points
use Rattle.pointcuts.specs.inner.Finding.{IsOverBase}
use Rattle.pointcuts.proofs.BaseScope.{sort_none}
use Rattle.pointcuts.proofs.Places.{stands, unplaced}
use Rattle.pointcuts.proofs.Refusing.{aspect_is, nothing_first, nothing_second, no_seen_told}

by_order : (n k : ℕ) → (k ≤ n) ⊎ (n < k)
by_order n zero = inl (omega arith)
by_order zero (suc k) = inr (omega arith)
by_order (suc n) (suc k) = elim (by_order n k) [ inl h ↦ inl (omega arith) | inr h ↦ inr (omega arith) ]

-- of some breaches one is the least
record Least (bs : List Breach) : Type 0 where
  breach : Breach
  there : Contains bs breach
  least : AllByRecursion (λ other. breach.mark.at ≤ other.mark.at) bs

wider : (b c : Breach) (bs : List Breach) → b.mark.at ≤ c.mark.at → AllByRecursion (λ other. c.mark.at ≤ other.mark.at) bs → AllByRecursion (λ other. b.mark.at ≤ other.mark.at) bs
wider b c [] h all = tt
wider b c (x ∷ bs) h all = ((let g = all.0 in omega arith), wider b c bs h all.1)

least_breach : (b : Breach) (bs : List Breach) → Least (b ∷ bs)
least_breach b [] = record { breach = b; there = (0, omega arith, refl); least = (omega arith, tt) }
least_breach b (c ∷ bs) =
    let l = least_breach c bs in
    elim (by_order l.breach.mark.at b.mark.at) [
      | inl h ↦ record { breach = b; there = (0, omega arith, refl); least = (omega arith, wider b l.breach (c ∷ bs) h l.least) }
      | inr h ↦ record { breach = l.breach; there = (suc l.there.0, (let below = l.there.1 in omega arith), l.there.2); least = (omega arith, l.least) }
    ]

-- no limit is passed, or one is the first
data Grows (acc : List Visit) (vs : List Visit) : Type 0 where
  within : WithinFrom acc vs → Grows acc vs
  passes : (before : List Visit) (at : Visit) (after : List Visit) (x : Which × ℕ) → vs ≡ before ++ at ∷ after → WithinFrom acc before → passed (acc ++ before) at ≡ Some x → Grows acc vs

grows_here : (acc : List Visit) (v : Visit) (vs : List Visit) (o : Option (Which × ℕ)) → passed acc v ≡ o → Grows (acc ++ v ∷ []) vs → Grows acc (v ∷ vs)
grows_here acc v vs (Some x) e g = passes [] v vs x refl tt (ap (λ z. passed z v) (append-nil acc) ∙ e)
grows_here acc v vs None e (within w) = within (e, w)
grows_here acc v vs None e (passes before at after x split w p) =
    passes (v ∷ before) at after x (ap (λ (z : List Visit). v ∷ z) split) (e, w) (ap (λ z. passed z at) (sym (append_assoc acc (v ∷ []) before)) ∙ p)

grows : (acc vs : List Visit) → Grows acc vs
grows acc [] = within tt
grows acc (v ∷ vs) = grows_here acc v vs (passed acc v) refl (grows (acc ++ v ∷ []) vs)

last_there : (c : ComponentForm) (cs : List ComponentForm) → (main : ComponentForm) × (last_of (c ∷ cs) ≡ Some main)
last_there c [] = (c, refl)
last_there c (d ∷ cs) = last_there d cs

some_last : (cs : List ComponentForm) → HasSome cs → (main : ComponentForm) × (last_of cs ≡ Some main)
some_last [] h = absurd h
some_last (c ∷ cs) h = last_there c cs

-- what the inputs of the observer are, where none of them is unknown
seen_one : (n : FileNames) (m : Mark) (o p : Option ℕ) → place_of n.inputs m.name ≡ o → place_of n.outputs m.name ≡ p → seeing (base_scope n) m ≡ [] → (s : Seen) × IsSeen n m.name s
seen_one n m (Some k) p h e none = (aspects.input k, stands n.inputs m.name k h)
seen_one n m None (Some k) h e none = (aspects.output k, stands n.outputs m.name k e)
seen_one n m None None h e none =
    let unknown = sort_none n m.name (unplaced n.inputs m.name h) (unplaced n.outputs m.name e) in
    let both = sym (ap (λ o. points.seen_as o m) unknown) ∙ none in
    cc both

seen_all : (n : FileNames) (ms : List Mark) → flat_map (seeing (base_scope n)) ms ≡ [] → (seen : List Seen) × AreSeen n (names_in ms) seen
seen_all n [] h = ([], tt)
seen_all n (m ∷ ms) h =
    let s = seen_one n m (place_of n.inputs m.name) (place_of n.outputs m.name) refl refl (nothing_first (seeing (base_scope n) m) (flat_map (seeing (base_scope n)) ms) h) in
    let more = seen_all n ms (nothing_second (seeing (base_scope n) m) (flat_map (seeing (base_scope n)) ms) h) in
    (s.0 ∷ more.0, (s.1, more.1))

-- an aspect, where nothing is refused
module _ (t : AspectForm) (n : FileNames) (main : ComponentForm) (last : last_of t.components ≡ Some main) (none : faults_over n main t ≡ []) where
  seen_there : (seen : List Seen) × AreSeen n (names_in main.inputs) seen
  seen_there = seen_all n main.inputs (no_seen_told n main t none)

  abbrev the_module : PlainModule
  the_module = record { process = (expansion t.components).whole; inputs = names_in main.inputs; outputs = names_in main.outputs; locals = (expansion t.components).locals }

  abbrev the_aspect : Aspect
  the_aspect = record { observer = the_module; seen = seen_there.0; advice = record { outs = told n.outputs t.outs; onset = onset_of t.current; trace = map (told n.inputs) t.trace } }

  the_aspect_is : breaches t.components ≡ [] → IsWithin (expansion t.components).visits → IsAspectOf t n the_aspect
  the_aspect_is sound fits =
      let r : Resolves t.components the_module = record { sound = sound; within = fits; main = main; last = last; inputs = refl; outputs = refl; locals = refl; process = refl } in
      let over : IsOverBase n main t seen_there.0 the_aspect.advice = record { none = none; sees = seen_there.1; advice = record { outs = refl; onset = refl; trace = refl } } in
      aspect_is t n the_aspect main r last over

by_expansion : (t : AspectForm) (n : FileNames) (main : ComponentForm) → breaches t.components ≡ [] → last_of t.components ≡ Some main → faults_over n main t ≡ [] → Grows [] (expansion t.components).visits → Answered t n
by_expansion t n main sound last none (within w) = an_aspect _ (the_aspect_is t n main last none sound w)
by_expansion t n main sound last none (passes before at after x split w p) =
    a_fault _ (points.passed main x.0 x.1 sound last none (record { before = before; at = at; after = after; split = split; within = w; passes = p }))

by_base : (t : AspectForm) (n : FileNames) (main : ComponentForm) → breaches t.components ≡ [] → last_of t.components ≡ Some main → (fs : List AspectFault) → faults_over n main t ≡ fs → Answered t n
by_base t n main sound last [] e = by_expansion t n main sound last e (grows [] (expansion t.components).visits)
by_base t n main sound last (f ∷ more) e = a_fault f (over_base main f more sound last e)

by_names : (t : AspectForm) (n : FileNames) (main : ComponentForm) → last_of t.components ≡ Some main → (bs : List Breach) → breaches t.components ≡ bs → Answered t n
by_names t n main last [] e = by_base t n main e last (faults_over n main t) refl
by_names t n main last (b ∷ bs) e =
    let l = least_breach b bs in
    a_fault (scope (broken l.breach)) (name_rule l.breach (record { broken = subst (λ xs. Contains xs l.breach) (sym e) l.there; least = subst (AllByRecursion (λ other. l.breach.mark.at ≤ other.mark.at)) (sym e) l.least }))

pub some_answer : (t : AspectForm) (n : FileNames) → IsAspectForm t → Answered t n
some_answer t n h = let main = some_last t.components h.1 in by_names t n main.0 main.1 (breaches t.components) refl
