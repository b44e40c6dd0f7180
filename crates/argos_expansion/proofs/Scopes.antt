-- Names that come into scope, and leave it.
use Rattle.std.proofs.Common.{◌≡◌, ℕ, ◌+◌, ◌-◌, ◌<◌, length, get_or, take, subst, arith, List, [], ◌∷◌, ◌++◌, Bool, true, false, Option, Some, refl, sym, ap, ◌∙◌}
use Rattle.std.specs.Prelude.{cond, unwrap_or, bytes_eq}
use Rattle.std.proofs.lemmas.Grind.{common_steps}
use Rattle.std.proofs.lemmas.List.{take_more, take_all}
use Rattle.std.proofs.lemmas.Slice.Eq.{bytes_eq-Decides}
use Rattle.indexmap.specs.IndexMap.{IndexMap, get}
use Rattle.argos_expansion.specs.Expansion.{Numbers, number_in}
use Rattle.argos_expansion.specs.inner.ScopeViews.{scope_from, AreHidden, IsKept}
use Rattle.argos_expansion.specs.declared.scope.Declared.{Declared}

pub scope_from-push : (ds : List Declared) (d : Declared) (s : Numbers) → scope_from (ds ++ d ∷ []) s ≡ (d.name, d.place) ∷ scope_from ds s
scope_from-push [] d s = refl
scope_from-push (e ∷ ds) d s = scope_from-push ds d ((e.name, e.place) ∷ s)

AreHidden-push : (ds : List Declared) (d : Declared) (s : Numbers) → AreHidden ds s → d.hidden ≡ number_in (scope_from ds s) d.name → AreHidden (ds ++ d ∷ []) s
AreHidden-push [] d s h e = (e, tt)
AreHidden-push (c ∷ ds) d s h e = (h.0, AreHidden-push ds d ((c.name, c.place) ∷ s) h.1 e)

AreHidden-pop : (ds : List Declared) (d : Declared) (s : Numbers) → AreHidden (ds ++ d ∷ []) s → AreHidden ds s × (d.hidden ≡ number_in (scope_from ds s) d.name)
AreHidden-pop [] d s h = (tt, h.0)
AreHidden-pop (c ∷ ds) d s h = let more = AreHidden-pop ds d ((c.name, c.place) ∷ s) h.1 in ((h.0, more.0), more.1)

-- a name that comes in stands in front
put_in : (b : Bool) (n : ℕ) (o : Option ℕ) → unwrap_or (cond b (Some n) o) 0 ≡ cond b n (unwrap_or o 0)
put_in true n o = refl
put_in false n o = refl

pub IsKept-declare : {S : Type 0} (ds : List Declared) (d : Declared) (m n : IndexMap (List ℕ) ℕ S) → IsKept ds m → d.hidden ≡ number_in (scope_from ds []) d.name
    → ((q : List ℕ) → get bytes_eq n q ≡ cond (bytes_eq d.name q) (Some d.place) (get bytes_eq m q)) → IsKept (ds ++ d ∷ []) n
IsKept-declare ds d m n kept e put = record {
  places = λ q. ap (λ o. unwrap_or o 0) (put q) ∙ put_in (bytes_eq d.name q) d.place (get bytes_eq m q) ∙ ap (cond (bytes_eq d.name q) d.place) (kept.places q) ∙ ap (λ s. number_in s q) (sym (scope_from-push ds d []));
  hidden = AreHidden-push ds d [] kept.hidden e;
}

-- where it leaves, what it hid stands there again
put_back : (b : Bool) (h n : ℕ) (o : Option ℕ) (x : ℕ) → (b ≡ true → h ≡ x) → unwrap_or o 0 ≡ cond b n x → unwrap_or (cond b (Some h) o) 0 ≡ x
put_back true h n o x f e = f refl
put_back false h n o x f e = e

pub IsKept-leave : {S : Type 0} (ds : List Declared) (d : Declared) (m n : IndexMap (List ℕ) ℕ S) → IsKept (ds ++ d ∷ []) m
    → ((q : List ℕ) → get bytes_eq n q ≡ cond (bytes_eq d.name q) (Some d.hidden) (get bytes_eq m q)) → IsKept ds n
IsKept-leave ds d m n kept put = record {
  places = λ q. ap (λ o. unwrap_or o 0) (put q) ∙ put_back (bytes_eq d.name q) d.hidden d.place (get bytes_eq m q) (number_in (scope_from ds []) q)
      (λ t. before.1 ∙ ap (number_in (scope_from ds [])) ((bytes_eq-Decides d.name q).0 t))
      (kept.places q ∙ ap (λ s. number_in s q) (scope_from-push ds d []));
  hidden = before.0;
}
  where
    before : AreHidden ds [] × (d.hidden ≡ number_in (scope_from ds []) d.name)
    before = AreHidden-pop ds d [] kept.hidden

-- what is left of some items without the last, and the last
split_last : {A : Type 0} (n : ℕ) (xs : List A) (d : A) → n + 1 ≡ length xs → xs ≡ take n xs ++ get_or xs n d ∷ []
split_last n xs d h = sym (take_all (n + 1) xs (omega arith)) ∙ take_more xs n d (omega arith)

pub IsKept-leave_last : {S : Type 0} (ds items : List Declared) (count : ℕ) (d : Declared) (m n : IndexMap (List ℕ) ℕ S) → IsKept items m → count ≡ length items → 0 < length items → ds ≡ take (count - 1) items → d ≡ get_or items (length items - 1) d
    → ((q : List ℕ) → get bytes_eq n q ≡ cond (bytes_eq d.name q) (Some d.hidden) (get bytes_eq m q)) → IsKept ds n
IsKept-leave_last ds items count d m n kept all some left last put =
    let e : items ≡ ds ++ d ∷ [] = split_last (length items - 1) items d (omega arith) ∙ ap (λ k. take (k - 1) items ++ get_or items (length items - 1) d ∷ []) (sym all) ∙ ap (λ xs. xs ++ get_or items (length items - 1) d ∷ []) (sym left) ∙ ap (λ x. ds ++ x ∷ []) (sym last) in
    IsKept-leave ds d m n (subst (λ xs. IsKept xs m) e kept) put

pub ruleset scopes = (common_steps, scope_from-push)
