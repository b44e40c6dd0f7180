-- The least of breaches that come one after another.
use Rattle.std.proofs.Common.{◌≡◌, ℕ, ◌+◌, ◌<◌, ◌≤◌, List, [], ◌∷◌, ◌++◌, Option, Some, None, length, get_or, drop, refl, sym, subst, ap, ◌∙◌, Bool, true, false, inl, inr, suc, arith}
use Rattle.std.specs.Prelude.{flat_map, nat_lt, if◌then◌else◌, ◌⊎◌, Contains}
use Rattle.std.specs.List.{AllByRecursion}
use Rattle.std.proofs.lemmas.Bool.{ltb-true}
use Rattle.std.proofs.lemmas.Bool.Decides.{nat_tests}
use Rattle.argos_grammar.specs.Forms.{ComponentForm}
use Rattle.std.proofs.lemmas.Grind.{common_steps}
use Rattle.std.proofs.lemmas.List.{at_drop_more, at_drop_all, append-nil}
use Rattle.argos_names.specs.Scope.{Breach, breaches, IsLeastBreach}
use Rattle.argos_names.specs.inner.Least.{lesser, least_after}

pub least_after-append : (o : Option Breach) (bs cs : List Breach) → least_after o (bs ++ cs) ≡ least_after (least_after o bs) cs
least_after-append o [] cs = refl
least_after-append o (b ∷ bs) cs = least_after-append (Some (lesser o b)) bs cs

-- after the breaches of each
unfoldable pub after_each : {X : Type 0} → (X → List Breach) → Option Breach → List X → Option Breach
after_each f o xs = least_after o (flat_map f xs)

pub after_each-drop : {X : Type 0} (f : X → List Breach) (o : Option Breach) (xs : List X) (i : ℕ) (d : X) → i < length xs → after_each f o (drop i xs) ≡ after_each f (least_after o (f (get_or xs i d))) (drop (i + 1) xs)
unfolding after_each
after_each-drop f o xs i d h = at_drop_more (after_each f o) xs i d h ∙ least_after-append o (f (get_or xs i d)) (flat_map f (drop (i + 1) xs))

pub after_each-past : {X : Type 0} (f : X → List Breach) (o : Option Breach) (xs : List X) (i : ℕ) → length xs ≤ i → after_each f o (drop i xs) ≡ o
unfolding after_each
after_each-past f o xs i h = at_drop_all (after_each f o) xs i h

-- four lists of breaches, one after another
pub after_four : (a b c d : List Breach) (o p q r s : Option Breach) → p ≡ least_after o a → q ≡ least_after p b → r ≡ least_after q c → s ≡ least_after r d → s ≡ least_after o (a ++ b ++ c ++ d)
after_four a b c d o p q r s e f g h =
    h ∙ ap (λ x. least_after x d) (g ∙ ap (λ x. least_after x c) (f ∙ ap (λ x. least_after x b) e ∙ sym (least_after-append o a b)) ∙ sym (least_after-append o (a ++ b) c)) ∙ sym (least_after-append o (a ++ b ++ c) d)

-- nothing is found only where nothing is broken
some_stays : (c : Breach) (bs : List Breach) → least_after (Some c) bs ≡ None → ⊥
some_stays c [] h = cc
some_stays c (b ∷ bs) h = some_stays (lesser (Some c) b) bs h

pub none_broken : (bs : List Breach) → least_after None bs ≡ None → bs ≡ []
none_broken [] h = refl
none_broken (b ∷ bs) h = absurd (some_stays b bs h)

-- what is found is the first or one of the others, at a place that isn't greater than any
record Found (c : Breach) (bs : List Breach) (b : Breach) : Type 0 where
  among : (b ≡ c) ⊎ Contains bs b
  first : b.mark.at ≤ c.mark.at
  others : AllByRecursion (λ other. b.mark.at ≤ other.mark.at) bs

contains_first : (b c : Breach) (bs : List Breach) → b ≡ c → Contains (c ∷ bs) b
contains_first b c bs e = (0, omega arith, sym e)

contains_later : (b c : Breach) (bs : List Breach) → Contains bs b → Contains (c ∷ bs) b
contains_later b c bs (k, h, e) = (suc k, omega arith, e)

found_next : (c x : Breach) (bs : List Breach) (b : Breach) (t : Bool) → nat_lt x.mark.at c.mark.at ≡ t → Found (if t then x else c) bs b → Found c (x ∷ bs) b
found_next c x bs b true h f = record {
  among = inr (elim f.among [ inl e ↦ contains_first b x bs e | inr e ↦ contains_later b x bs e ]);
  first = let l : x.mark.at < c.mark.at = ltb-true x.mark.at c.mark.at h in let m = f.first in omega arith;
  others = (f.first, f.others);
}
found_next c x bs b false h f = record {
  among = elim f.among [ inl e ↦ inl e | inr e ↦ inr (contains_later b x bs e) ];
  first = f.first;
  others = (let m = f.first in grind (arith, nat_tests), f.others);
}

found : (c : Breach) (bs : List Breach) (b : Breach) → least_after (Some c) bs ≡ Some b → Found c bs b
found c [] b h = let e : b ≡ c = cc in record { among = inl e; first = ap_le e; others = tt }
  where
    ap_le : b ≡ c → b.mark.at ≤ c.mark.at
    ap_le e = subst (λ x. b.mark.at ≤ x.mark.at) e (omega arith)
found c (x ∷ bs) b h = found_next c x bs b (nat_lt x.mark.at c.mark.at) refl (found (lesser (Some c) x) bs b h)

-- what is found is the broken rule at the least place
pub least_broken : (cs : List ComponentForm) (b : Breach) → least_after None (breaches cs) ≡ Some b → IsLeastBreach cs b
least_broken cs b h = let f = by (breaches cs) h in record { broken = f.0; least = f.1 }
  where
    by : (bs : List Breach) → least_after None bs ≡ Some b → Contains bs b × AllByRecursion (λ other. b.mark.at ≤ other.mark.at) bs
    by [] h = cc
    by (c ∷ bs) h = let f = found c bs b h in (elim f.among [ inl e ↦ contains_first b c bs e | inr e ↦ contains_later b c bs e ], (f.first, f.others))

pub ruleset leasts = (common_steps, least_after-append, after_each-past, append-nil)
