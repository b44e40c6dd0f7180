-- Signals, guards and transitions, one after another.
use Rattle.std.proofs.Common.{◌≡◌, ℕ, ◌+◌, ◌-◌, ◌<◌, ◌≤◌, List, [], ◌∷◌, ◌++◌, Option, length, get_or, drop, map, refl, ap, sym, ◌∙◌, arith}
use Rattle.std.specs.Prelude.{flat_map}
use Rattle.std.proofs.lemmas.Grind.{flat_map-append}
use Rattle.std.proofs.lemmas.List.{at_drop_more, at_drop_all, drop-drop}
use Rattle.std.proofs.lemmas.List.Folds.{flat_map-map}
use Rattle.argos_grammar.specs.Views.{mark_of, marks_of, guard_of, formulas_of, trans_of}
use Rattle.argos_grammar.specs.declared.trees.Spot.{Spot}
use Rattle.argos_grammar.specs.declared.trees.GuardTree.{GuardTree}
use Rattle.argos_grammar.specs.declared.trees.TransTree.{TransTree}
use Rattle.argos_names.specs.Scope.{Scope, Sort, Breach, reading, emitting, with_names, declaring, declared_as, sort_in, atoms, atoms_in, in_trans}
use Rattle.argos_names.specs.inner.Least.{least_after}
use Rattle.argos_names.proofs.Breaches.{leasts, least_after-append, after_each, after_each-drop}

-- signals that are read, or emitted
abbrev pub read_each : Scope → Spot → List Breach
read_each s x = reading s (mark_of x)

abbrev pub emit_each : Scope → Spot → List Breach
emit_each s x = emitting s (mark_of x)

pub reads : (s : Scope) (o : Option Breach) (xs : List Spot) → least_after o (flat_map (reading s) (marks_of xs)) ≡ after_each (read_each s) o xs
unfolding after_each
reads s o xs = ap (least_after o) (flat_map-map (reading s) mark_of xs)

pub emits : (s : Scope) (o : Option Breach) (xs : List Spot) → least_after o (flat_map (emitting s) (marks_of xs)) ≡ after_each (emit_each s) o xs
unfolding after_each
emits s o xs = ap (least_after o) (flat_map-map (emitting s) mark_of xs)

pub reads_drop : (s : Scope) (o : Option Breach) (xs : List Spot) (i : ℕ) (x : Spot) → i < length xs → (get_or xs i x ≡ get_or xs i x) × (after_each (read_each s) o (drop i xs) ≡ after_each (read_each s) (least_after o (reading s (mark_of (get_or xs i x)))) (drop (i + 1) xs))
reads_drop s o xs i x h = (refl, after_each-drop (read_each s) o xs i x h)

pub emits_drop : (s : Scope) (o : Option Breach) (xs : List Spot) (i : ℕ) (x : Spot) → i < length xs → (get_or xs i x ≡ get_or xs i x) × (after_each (emit_each s) o (drop i xs) ≡ after_each (emit_each s) (least_after o (emitting s (mark_of (get_or xs i x)))) (drop (i + 1) xs))
emits_drop s o xs i x h = (refl, after_each-drop (emit_each s) o xs i x h)

-- guards whose signals are read
abbrev pub guard_each : Scope → GuardTree → List Breach
guard_each s g = flat_map (reading s) (atoms (guard_of g))

guards_each : (s : Scope) (gs : List GuardTree) → flat_map (reading s) (atoms_in (formulas_of (map guard_of gs))) ≡ flat_map (guard_each s) gs
guards_each s [] = refl
guards_each s (g ∷ gs) = flat_map-append (reading s) (atoms (guard_of g)) (atoms_in (formulas_of (map guard_of gs))) ∙ ap (λ bs. guard_each s g ++ bs) (guards_each s gs)

pub guards : (s : Scope) (o : Option Breach) (gs : List GuardTree) → least_after o (flat_map (reading s) (atoms_in (formulas_of (map guard_of gs)))) ≡ after_each (guard_each s) o gs
unfolding after_each
guards s o gs = ap (least_after o) (guards_each s gs)

pub guards_drop : (s : Scope) (o : Option Breach) (gs : List GuardTree) (i : ℕ) (x : GuardTree) → i < length gs → (get_or gs i x ≡ get_or gs i x) × (after_each (guard_each s) o (drop i gs) ≡ after_each (guard_each s) (least_after o (guard_each s (get_or gs i x))) (drop (i + 1) gs))
guards_drop s o gs i x h = (refl, after_each-drop (guard_each s) o gs i x h)

-- transitions
abbrev pub trans_each : Scope → List (List ℕ) → TransTree → List Breach
trans_each s names t = in_trans s names (trans_of t)

pub transitions : (s : Scope) (names : List (List ℕ)) (o : Option Breach) (ts : List TransTree) → least_after o (flat_map (in_trans s names) (map trans_of ts)) ≡ after_each (trans_each s names) o ts
unfolding after_each
transitions s names o ts = ap (least_after o) (flat_map-map (in_trans s names) trans_of ts)

pub transitions_drop : (s : Scope) (names : List (List ℕ)) (o : Option Breach) (ts : List TransTree) (i : ℕ) (x : TransTree) → i < length ts → (get_or ts i x ≡ get_or ts i x) × (after_each (trans_each s names) o (drop i ts) ≡ after_each (trans_each s names) (least_after o (trans_each s names (get_or ts i x))) (drop (i + 1) ts))
transitions_drop s names o ts i x h = (refl, after_each-drop (trans_each s names) o ts i x h)

-- names that come into scope
unfoldable pub names_after : Sort → List Spot → Scope → Scope
names_after sort xs s = with_names sort (marks_of xs) s

unfoldable pub least_declaring : Sort → Scope → Option Breach → List Spot → Option Breach
least_declaring sort s o xs = least_after o (declaring sort (marks_of xs) s)

pub names_come : (sort : Sort) (xs : List Spot) (s : Scope) → with_names sort (marks_of xs) s ≡ names_after sort xs s
unfolding names_after
names_come sort xs s = refl

pub names_after-past : (sort : Sort) (xs : List Spot) (s : Scope) (i : ℕ) → length xs ≤ i → names_after sort (drop i xs) s ≡ s
unfolding names_after
names_after-past sort xs s i h = at_drop_all (λ ys. names_after sort ys s) xs i h

pub names_after-drop : (sort : Sort) (xs : List Spot) (s : Scope) (i : ℕ) (x : Spot) → i < length xs → (get_or xs i x ≡ get_or xs i x) × (names_after sort (drop i xs) s ≡ names_after sort (drop (i + 1) xs) (((get_or xs i x).name, sort) ∷ s))
unfolding names_after
names_after-drop sort xs s i x h = (refl, at_drop_more (λ ys. names_after sort ys s) xs i x h)

pub declares : (sort : Sort) (s : Scope) (o : Option Breach) (xs : List Spot) → least_after o (declaring sort (marks_of xs) s) ≡ least_declaring sort s o xs
unfolding least_declaring
declares sort s o xs = refl

pub least_declaring-past : (sort : Sort) (s : Scope) (o : Option Breach) (xs : List Spot) (i : ℕ) → length xs ≤ i → least_declaring sort s o (drop i xs) ≡ o
unfolding least_declaring
least_declaring-past sort s o xs i h = at_drop_all (least_declaring sort s o) xs i h

pub least_declaring-drop : (sort : Sort) (s : Scope) (o : Option Breach) (xs : List Spot) (i : ℕ) (x : Spot) → i < length xs → (get_or xs i x ≡ get_or xs i x) × (least_declaring sort s o (drop i xs) ≡ least_declaring sort (((get_or xs i x).name, sort) ∷ s) (least_after o (declared_as (sort_in s (get_or xs i x).name) (mark_of (get_or xs i x)))) (drop (i + 1) xs))
unfolding least_declaring
least_declaring-drop sort s o xs i x h = (refl, at_drop_more (least_declaring sort s o) xs i x h ∙ least_after-append o (declared_as (sort_in s (get_or xs i x).name) (mark_of (get_or xs i x))) (declaring sort (marks_of (drop (i + 1) xs)) (((get_or xs i x).name, sort) ∷ s)))

pub ruleset signals = (leasts, reads, emits, reads_drop, emits_drop, guards, guards_drop, transitions, transitions_drop)

pub ruleset declarations = (leasts, names_come, names_after-past, names_after-drop, declares, least_declaring-past, least_declaring-drop, drop-drop)
