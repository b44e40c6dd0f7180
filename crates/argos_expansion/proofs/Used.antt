-- The component that a run uses.
use Rattle.std.proofs.Common.{◌≡◌, ℕ, ◌<◌, ◌≤◌, zero, suc, List, [], ◌∷◌, ◌++◌, Option, Some, None, Bool, true, false, cond, map, length, get_or, take, refl, sym, ap, ◌∙◌, append_assoc, arith}
use Rattle.std.specs.Prelude.{nat_lt, slice_get}
use Rattle.std.proofs.lemmas.Bool.Decides.{nat_tests}
use Rattle.std.proofs.lemmas.List.{append-nil, length-map}
use Rattle.argos_expansion.specs.inner.ShapeGrowth.{Growth, growth_at, growth_of, growths_after, growths_of, place_within}
use Rattle.argos_expansion.specs.inner.Shapes.{ComponentShape, component_shape}
use Rattle.argos_expansion.specs.declared.placed.PlacedComponent.{PlacedComponent}

-- what is known more
abbrev more_growths : List Growth → List ComponentShape → List Growth
more_growths gs [] = []
more_growths gs (c ∷ cs) = growth_of gs c ∷ more_growths (gs ++ growth_of gs c ∷ []) cs

growths_more : (gs : List Growth) (cs : List ComponentShape) → growths_after gs cs ≡ gs ++ more_growths gs cs
growths_more gs [] = sym (append-nil gs)
growths_more gs (c ∷ cs) = growths_more (gs ++ growth_of gs c ∷ []) cs ∙ append_assoc gs (growth_of gs c ∷ []) (more_growths (gs ++ growth_of gs c ∷ []) cs)

length-more : (gs : List Growth) (cs : List ComponentShape) → length (more_growths gs cs) ≡ length cs
length-more gs [] = refl
length-more gs (c ∷ cs) = ap suc (length-more (gs ++ growth_of gs c ∷ []) cs)

used_from : (gs : List Growth) (cs : List PlacedComponent) (k : ℕ) (d : PlacedComponent) → k < length cs
    → slice_get (more_growths gs (map component_shape cs)) k ≡ Some (growth_of (growths_after gs (map component_shape (take k cs))) (component_shape (get_or cs k d)))
used_from gs [] k d h = absurd (omega arith)
used_from gs (c ∷ cs) zero d h = refl
used_from gs (c ∷ cs) (suc k) d h = used_from (gs ++ growth_of gs (component_shape c) ∷ []) cs k d (omega arith)

pub used_at : (cs : List PlacedComponent) (k : ℕ) (d : PlacedComponent) → k < length cs → slice_get (growths_of cs) k ≡ Some (growth_of (growths_of (take k cs)) (component_shape (get_or cs k d)))
used_at cs k d h = ap (λ gs. slice_get gs k) (growths_more [] (map component_shape cs)) ∙ used_from [] cs k d h

length-growths : (cs : List PlacedComponent) → length (growths_of cs) ≡ length cs
length-growths cs = ap (λ (gs : List Growth). length gs) (growths_more [] (map component_shape cs)) ∙ length-more [] (map component_shape cs) ∙ length-map cs component_shape

past : (gs : List Growth) (k : ℕ) → length gs ≤ k → slice_get gs k ≡ None
past [] k h = refl
past (g ∷ gs) zero h = absurd (omega arith)
past (g ∷ gs) (suc k) h = past gs k (omega arith)

there : (b : Bool) (j k : ℕ) → Some k ≡ cond b (Some j) None → j ≡ k
there true j k e = cc
there false j k e = absurd (cc)

-- the place is the one that was named
pub place_some : (o : Option ℕ) (n k : ℕ) → Some k ≡ place_within n o → o ≡ Some k
place_some None n k e = absurd (cc)
place_some (Some j) n k e = ap Some (there (nat_lt j n) j k e)

missing : (b : Bool) (j : ℕ) → None ≡ cond b (Some j) None → b ≡ false
missing true j e = absurd (cc)
missing false j e = refl

pub place_none : (cs : List PlacedComponent) (o : Option ℕ) → None ≡ place_within (length cs) o → growth_at (growths_of cs) o ≡ None
place_none cs None e = refl
place_none cs (Some j) e =
    let t : nat_lt j (length cs) ≡ false = missing (nat_lt j (length cs)) j e in
    let l = length-growths cs in
    let high : length cs ≤ j = grind (arith, nat_tests) in
    past (growths_of cs) j (omega arith)
