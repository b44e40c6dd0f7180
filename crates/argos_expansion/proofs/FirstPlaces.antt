-- The first places of names, and how far the first one stands.
use Rattle.std.proofs.Common.{◌≡◌, ℕ, ◌+◌, ◌<◌, suc, List, [], ◌∷◌, ◌++◌, Bool, true, false, Option, Some, None, length, get_or, take, refl, ap, sym, ◌∙◌, arith}
use Rattle.std.specs.Prelude.{bytes_eq, cond, not, option_map}
use Rattle.std.specs.List.{position_or_len}
use Rattle.std.specs.Cmp.Lexicographic.{nat_list_eq_equiv}
use Rattle.std.proofs.lemmas.Grind.{common_steps}
use Rattle.std.proofs.lemmas.List.{take_more, length-take-le}
use Rattle.indexmap.specs.IndexMap.{IndexMap, get}
use Rattle.argos_expansion.specs.inner.FirstPlaces.{first_place, first_or, AreFirst}

past_one : (b here : Bool) (o p : Option ℕ) (k n : ℕ) → p ≡ first_or o here k → n ≡ suc k → cond b (Some 0) (option_map suc p) ≡ first_or (cond b (Some 0) (option_map suc o)) here n
past_one true here o p k n h e = refl
past_one false here (Some j) p k n h e = ap (option_map suc) h
past_one false true None p k n h e = ap (option_map suc) h ∙ ap Some (sym e)
past_one false false None p k n h e = ap (option_map suc) h

first_place-push : (name : List ℕ) (ns : List (List ℕ)) (n : List ℕ) → first_place name (ns ++ n ∷ []) ≡ first_or (first_place name ns) (bytes_eq n name) (length ns)
first_place-push name [] n = only (bytes_eq n name)
  where
    only : (b : Bool) → cond b (Some 0) None ≡ first_or None b 0
    only true = refl
    only false = refl
first_place-push name (x ∷ ns) n = past_one (bytes_eq x name) (bytes_eq n name) (first_place name ns) (first_place name (ns ++ n ∷ [])) (length ns) (length (x ∷ ns)) (first_place-push name ns n) refl

-- one more name
pub first_places_on : {S : Type 0} (ns : List (List ℕ)) (i : ℕ) (x : List ℕ) (m n : IndexMap (List ℕ) ℕ S) → i < length ns → x ≡ get_or ns i x → AreFirst (take i ns) m
    → ((q : List ℕ) → get bytes_eq n q ≡ first_or (get bytes_eq m q) (bytes_eq x q) i) → AreFirst (take (i + 1) ns) n
first_places_on ns i x m n h e before put name =
    let count : length (take i ns) ≡ i = length-take-le i ns (omega arith) in
    put name ∙ ap (λ o. first_or o (bytes_eq x name) i) (before name)
    ∙ ap (first_or (first_place name (take i ns)) (bytes_eq x name)) (sym count)
    ∙ sym (first_place-push name (take i ns) x)
    ∙ ap (λ y. first_place name (take i ns ++ y ∷ [])) e
    ∙ ap (first_place name) (sym (take_more ns i x h))

-- a place, or how many there are
abbrev or_all : Option ℕ → ℕ → ℕ
or_all None n = n
or_all (Some k) n = k

one_past : (b : Bool) (o : Option ℕ) (n p : ℕ) → p ≡ or_all o n → cond (not b) (1 + p) 0 ≡ or_all (cond b (Some 0) (option_map suc o)) (suc n)
one_past true o n p h = refl
one_past false None n p h = omega arith
one_past false (Some k) n p h = omega arith

place_found : (name : List ℕ) (ns : List (List ℕ)) → position_or_len (bytes_eq name) ns ≡ or_all (first_place name ns) (length ns)
place_found name [] = refl
place_found name (n ∷ ns) =
    ap (λ b. cond (not b) (1 + position_or_len (bytes_eq name) ns) 0) (nat_list_eq_equiv.symm name n)
    ∙ one_past (bytes_eq n name) (first_place name ns) (length ns) (position_or_len (bytes_eq name) ns) (place_found name ns)

pub place_some : (name : List ℕ) (ns : List (List ℕ)) (k : ℕ) → first_place name ns ≡ Some k → position_or_len (bytes_eq name) ns ≡ k
place_some name ns k h = place_found name ns ∙ ap (λ o. or_all o (length ns)) h

pub place_none : (name : List ℕ) (ns : List (List ℕ)) → first_place name ns ≡ None → position_or_len (bytes_eq name) ns ≡ length ns
place_none name ns h = place_found name ns ∙ ap (λ o. or_all o (length ns)) h

pub ruleset first_places = (common_steps, place_some, place_none)
