-- Components, one after another.
use Rattle.std.proofs.Common.{◌≡◌, ℕ, ◌+◌, ◌<◌, ◌≤◌, suc, zero, List, [], ◌∷◌, ◌++◌, Bool, true, false, not, ◌||◌, Option, Some, None, length, get_or, drop, take, map, refl, ap, sym, subst, ◌∙◌, arith, Bor}
use Rattle.std.specs.Prelude.{bytes_eq, cond, if◌then◌else◌, nat_lt, slice_get, option_map, option_copied, is_some, IfSome}
use Rattle.std.specs.Cmp.Lexicographic.{nat_list_eq_equiv}
use Rattle.std.proofs.lemmas.Bool.{cond_below, cond_above, ltb-true}
use Rattle.std.proofs.lemmas.Bool.Decides.{nat_tests}
use Rattle.std.proofs.lemmas.Option.{slice_get-map, slice_get-get_or, slice_get_past}
use Rattle.std.proofs.Math.Dec.{ltb}
use Rattle.std.proofs.lemmas.Grind.{common_steps}
use Rattle.std.proofs.lemmas.List.{at_drop_more, at_drop_all, take_more, take-map, length-map, length-take-le, map-append}
use Rattle.argos_base.specs.Spelling.{is_one_of}
use Rattle.argos_grammar.specs.Forms.{Mark, BlockForm, ComponentForm}
use Rattle.argos_grammar.specs.Views.{component_of}
use Rattle.argos_grammar.specs.declared.trees.ComponentTree.{ComponentTree}
use Rattle.argos_names.specs.Scope.{Scope, input, output, Breach, Duplicate, breach_unless, with_names, declaring, in_block, IsLeastBreach, Around, named, in_component, breaches_from, breaches}
use Rattle.indexmap.specs.IndexMap.{IndexMap, get}
use Rattle.argos_names.specs.inner.FirstPlaces.{first_place, first_or, AreFirst}
use Rattle.argos_names.specs.inner.Least.{least_after}
use Rattle.argos_names.specs.Refusals.{breach_at, breach_in, Refuses}
use Rattle.argos_names.specs.declared.errors.NameFault.{NameFault}
use Rattle.argos_names.specs.declared.errors.NameFault.TheVariants as faults
use Rattle.argos_names.proofs.Breaches.{leasts, least_after-append, after_four}

-- the names of components
abbrev pub names_of : List ComponentTree → List (List ℕ)
names_of cs = map (λ c. c.name.name) (map component_of cs)

-- a component by the first place of its name
abbrev pub at_place : ℕ → List ComponentForm → Option ℕ → Option ComponentForm
at_place k cs None = None
at_place k cs (Some j) = if nat_lt j k then slice_get cs j else None

none_before : (cs : List ComponentForm) (o : Option ℕ) → None ≡ at_place 0 cs o
none_before cs None = refl
none_before cs (Some j) = cond_above j 0 (slice_get cs j) None None (omega arith) refl

one_on : (c : ComponentForm) (cs : List ComponentForm) (k : ℕ) (o : Option ℕ) → at_place k cs o ≡ at_place (suc k) (c ∷ cs) (option_map suc o)
one_on c cs k None = refl
one_on c cs k (Some j) = grind (arith, nat_tests)

chosen : (b : Bool) (c : ComponentForm) (cs : List ComponentForm) (k : ℕ) (o : Option ComponentForm) (p : Option ℕ) → o ≡ at_place k cs p → cond b (Some c) o ≡ at_place (suc k) (c ∷ cs) (cond b (Some 0) (option_map suc p))
chosen true c cs k o p h = cond_below 0 (suc k) (Some c) None (omega arith)
chosen false c cs k o p h = h ∙ one_on c cs k p

named_at : (name : List ℕ) (cs : List ComponentForm) (k : ℕ) → named name (take k cs) ≡ at_place k cs (first_place name cs)
named_at name [] zero = refl
named_at name [] (suc k) = refl
named_at name (c ∷ cs) zero = none_before (c ∷ cs) (first_place name (c ∷ cs))
named_at name (c ∷ cs) (suc k) = chosen (bytes_eq c.name.name name) c cs k (named name (take k cs)) (first_place name cs) (named_at name cs k)

pub named_before : (name : List ℕ) (cs : List ComponentTree) (k : ℕ) → named name (map component_of (take k cs)) ≡ at_place k (map component_of cs) (first_place name (map component_of cs))
named_before name cs k = ap (named name) (sym (take-map component_of k cs)) ∙ named_at name (map component_of cs) k

-- what a slice lends at a place
pub lent : {X : Type 0} (xs : List X) (i : ℕ) (r : Option (Bor X)) → is_some r ≡ ltb i (length xs) → IfSome r (λ x. x.now ≡ get_or xs i x.now) → option_copied r ≡ slice_get xs i
lent xs i None e h = sym (slice_get_past xs i (grind (arith, nat_tests)))
lent xs i (Some x) e h = ap Some h ∙ sym (slice_get-get_or xs i x.now (ltb-true i (length xs) (sym e)))

-- one that was found by its place
copied : (r : Option (Bor ComponentTree)) → option_map (λ c. component_of c.now) r ≡ option_map component_of (option_copied r)
copied None = refl
copied (Some c) = refl

pub named_found : (name : List ℕ) (cs : List ComponentTree) (k j : ℕ) (r : Option (Bor ComponentTree)) → first_place name (map component_of cs) ≡ Some j → j < k → option_copied r ≡ slice_get cs j
    → option_map (λ c. component_of c.now) r ≡ named name (map component_of (take k cs))
named_found name cs k j r found before got =
    copied r ∙ ap (option_map component_of) got ∙ sym (slice_get-map component_of cs j)
    ∙ cond_below j k (slice_get (map component_of cs) j) None before
    ∙ ap (at_place k (map component_of cs)) (sym found) ∙ sym (named_before name cs k)

-- whether a component has a name
some_named : (b c r : Bool) (x : ComponentForm) (o : Option ComponentForm) → b ≡ c → is_some o ≡ r → is_some (cond b (Some x) o) ≡ (c || r)
some_named true true r x o e h = refl
some_named true false r x o e h = cc
some_named false true r x o e h = cc
some_named false false r x o e h = h

pub is_some-named : (name : List ℕ) (cs : List ComponentForm) → is_some (named name cs) ≡ is_one_of (map (λ c. c.name.name) cs) name
is_some-named name [] = refl
is_some-named name (c ∷ cs) = some_named (bytes_eq c.name.name name) (bytes_eq name c.name.name) _ c (named name cs) (nat_list_eq_equiv.symm c.name.name name) (is_some-named name cs)

some_mapped : (r : Option (Bor ComponentTree)) → is_some (option_map (λ c. component_of c.now) r) ≡ is_some r
some_mapped None = refl
some_mapped (Some c) = refl

pub named_earlier : (name : List ℕ) (cs : List ComponentForm) (r : Option (Bor ComponentTree)) (b : Bool) → option_map (λ c. component_of c.now) r ≡ named name cs → b ≡ is_some r → b ≡ is_one_of (map (λ c. c.name.name) cs) name
named_earlier name cs r b found some = some ∙ sym (some_mapped r) ∙ ap is_some found ∙ is_some-named name cs

some_placed : (b c r : Bool) (o : Option ℕ) → b ≡ c → is_some o ≡ r → is_some (cond b (Some 0) (option_map suc o)) ≡ (c || r)
some_placed true true r o e h = refl
some_placed true false r o e h = cc
some_placed false true r o e h = cc
some_placed false false r None e h = h
some_placed false false r (Some k) e h = h

pub is_some-first_place : (name : List ℕ) (cs : List ComponentForm) → is_some (first_place name cs) ≡ is_one_of (map (λ c. c.name.name) cs) name
is_some-first_place name [] = refl
is_some-first_place name (c ∷ cs) = some_placed (bytes_eq c.name.name name) (bytes_eq name c.name.name) _ (first_place name cs) (nat_list_eq_equiv.symm c.name.name name) (is_some-first_place name cs)

-- one more component
past_one : (b here : Bool) (o p : Option ℕ) (k n : ℕ) → p ≡ first_or o here k → n ≡ suc k → cond b (Some 0) (option_map suc p) ≡ first_or (cond b (Some 0) (option_map suc o)) here n
past_one true here o p k n h e = refl
past_one false here (Some j) p k n h e = ap (option_map suc) h
past_one false true None p k n h e = ap (option_map suc) h ∙ ap Some (sym e)
past_one false false None p k n h e = ap (option_map suc) h

first_place-push : (name : List ℕ) (cs : List ComponentForm) (c : ComponentForm) → first_place name (cs ++ c ∷ []) ≡ first_or (first_place name cs) (bytes_eq c.name.name name) (length cs)
first_place-push name [] c = only (bytes_eq c.name.name name)
  where
    only : (b : Bool) → cond b (Some 0) None ≡ first_or None b 0
    only true = refl
    only false = refl
first_place-push name (x ∷ cs) c = past_one (bytes_eq x.name.name name) (bytes_eq c.name.name name) (first_place name cs) (first_place name (cs ++ c ∷ [])) (length cs) (length (x ∷ cs)) (first_place-push name cs c) refl

-- the components from a place on, where those before stand as earlier
abbrev pub around_at : List ComponentTree → ℕ → Around
around_at cs i = record { earlier = map component_of (take i cs); names = names_of cs }

unfoldable pub after_components : List ComponentTree → ℕ → Option Breach → Option Breach
after_components cs i o = least_after o (breaches_from (names_of cs) (map component_of (take i cs)) (map component_of (drop i cs)))

pub components_come : (cs : List ComponentTree) (o : Option Breach) → least_after o (breaches (map component_of cs)) ≡ after_components cs 0 o
unfolding after_components
components_come cs o = refl

pub components_past : (cs : List ComponentTree) (i : ℕ) (o : Option Breach) → length cs ≤ i → after_components cs i o ≡ o
unfolding after_components
components_past cs i o h = at_drop_all (λ xs. least_after o (breaches_from (names_of cs) (map component_of (take i cs)) (map component_of xs))) cs i h

next_earlier : (cs : List ComponentTree) (i : ℕ) (x : ComponentTree) → i < length cs → map component_of (take i cs) ++ component_of (get_or cs i x) ∷ [] ≡ map component_of (take (i + 1) cs)
next_earlier cs i x h = sym (ap (map component_of) (take_more cs i x h) ∙ map-append component_of (take i cs) (get_or cs i x ∷ []))

pub components_next : (cs : List ComponentTree) (i : ℕ) (o : Option Breach) (x : ComponentTree) → i < length cs → (get_or cs i x ≡ get_or cs i x) × (after_components cs i o ≡ after_components cs (i + 1) (least_after o (in_component (around_at cs i) (component_of (get_or cs i x)))))
unfolding after_components
components_next cs i o x h = (
  refl,
  at_drop_more (λ xs. least_after o (breaches_from (names_of cs) (map component_of (take i cs)) (map component_of xs))) cs i x h
      ∙ least_after-append o (in_component (around_at cs i) (component_of (get_or cs i x))) (breaches_from (names_of cs) (map component_of (take i cs) ++ component_of (get_or cs i x) ∷ []) (map component_of (drop (i + 1) cs)))
      ∙ ap (λ before. least_after (least_after o (in_component (around_at cs i) (component_of (get_or cs i x)))) (breaches_from (names_of cs) before (map component_of (drop (i + 1) cs)))) (next_earlier cs i x h),
)

-- a component whose parts were looked at
pub after_component : (a : Around) (x : ComponentForm) (ins outs : List Mark) (block : BlockForm) (there : Bool) (s t u : Scope) (o p q r w : Option Breach) → ins ≡ x.inputs → outs ≡ x.outputs → block ≡ x.block
    → there ≡ is_one_of (map (λ c. c.name.name) a.earlier) x.name.name → p ≡ least_after o (breach_unless (not there) Duplicate x.name) → s ≡ []
    → t ≡ with_names input ins s → q ≡ least_after p (declaring input ins s) → u ≡ with_names output outs t → r ≡ least_after q (declaring output outs t)
    → w ≡ least_after r (in_block a u block) → w ≡ least_after o (in_component a x)
after_component a x ins outs block there s t u o p q r w is_ins is_outs is_block e f none g h k l m =
    let first : p ≡ least_after o (breach_unless (not (is_one_of (map (λ c. c.name.name) a.earlier) x.name.name)) Duplicate x.name) = f ∙ ap (λ b. least_after o (breach_unless (not b) Duplicate x.name)) e in
    let t' : t ≡ with_names input x.inputs [] = g ∙ ap (with_names input ins) none ∙ ap (λ ms. with_names input ms []) is_ins in
    let u' : u ≡ with_names output x.outputs (with_names input x.inputs []) = k ∙ ap (with_names output outs) t' ∙ ap (λ ms. with_names output ms (with_names input x.inputs [])) is_outs in
    let second : q ≡ least_after p (declaring input x.inputs []) = h ∙ ap (λ z. least_after p (declaring input ins z)) none ∙ ap (λ ms. least_after p (declaring input ms [])) is_ins in
    let third : r ≡ least_after q (declaring output x.outputs (with_names input x.inputs [])) = l ∙ ap (λ z. least_after q (declaring output outs z)) t' ∙ ap (λ ms. least_after q (declaring output ms (with_names input x.inputs []))) is_outs in
    let last : w ≡ least_after r (in_block a (with_names output x.outputs (with_names input x.inputs [])) x.block) = m ∙ ap (λ z. least_after r (in_block a z block)) u' ∙ ap (λ b. least_after r (in_block a (with_names output x.outputs (with_names input x.inputs [])) b)) is_block in
    after_four (breach_unless (not (is_one_of (map (λ c. c.name.name) a.earlier) x.name.name)) Duplicate x.name) (declaring input x.inputs []) (declaring output x.outputs (with_names input x.inputs []))
    (in_block a (with_names output x.outputs (with_names input x.inputs [])) x.block) o p q r w first second third last

pub first_places : {S : Type 0} (cs : List ComponentTree) (i : ℕ) (x : ComponentTree) (m n : IndexMap (List ℕ) ℕ S) → i < length cs → x ≡ get_or cs i x → AreFirst (map component_of (take i cs)) m
    → ((q : List ℕ) → get bytes_eq n q ≡ first_or (get bytes_eq m q) (bytes_eq x.name.name q) i) → AreFirst (map component_of (take (i + 1) cs)) n
first_places cs i x m n h e before put name =
    let count : length (map component_of (take i cs)) ≡ i = length-map (take i cs) component_of ∙ length-take-le i cs (omega arith) in
    put name ∙ ap (λ o. first_or o (bytes_eq x.name.name name) i) (before name)
    ∙ ap (first_or (first_place name (map component_of (take i cs))) (bytes_eq x.name.name name)) (sym count)
    ∙ sym (first_place-push name (map component_of (take i cs)) (component_of x))
    ∙ ap (λ y. first_place name (map component_of (take i cs) ++ component_of y ∷ [])) e
    ∙ ap (first_place name) (next_earlier cs i x h)

-- what an error says
pub refuses : (cs : List ComponentForm) (e : NameFault) (b : Breach) → breach_in e ≡ Some b → IsLeastBreach cs b → Refuses cs e
refuses cs (faults.Broken r name at) b h l = let same : b ≡ breach_at r name at = cc in subst (IsLeastBreach cs) same l
refuses cs faults.OutOfMemory b h l = tt

pub ruleset lookups = (common_steps, named_before, is_some-named, is_some-first_place)

pub ruleset components = (leasts, components_come, components_past, components_next)
