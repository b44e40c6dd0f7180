-- Names that are copied one after the other.
use Rattle.std.proofs.Common.{◌≡◌, ℕ, ◌+◌, ◌<◌, List, [], ◌∷◌, ◌++◌, Some, None, Result, Ok, Err, length, take, drop, get_or, sym, ap, ◌∙◌, subst, arith}
use Rattle.std.specs.Prelude.{bytes_eq, slice_get, IfOk}
use Rattle.std.proofs.lemmas.List.{take-append-drop, drop_more, take_more, length-take-le}
use Rattle.std.proofs.lemmas.Option.{get_or_from_slice_get}
use Rattle.argos_base.specs.Names.{Spelled, AreDistinct, place_of, IsTable}
use Rattle.argos_base.proofs.NameLemmas.{position-absent}
use Rattle.line_format.proofs.Names.{not_before}

-- the next of distinct names isn't among those before it
next_unplaced : (names : List Spelled) (k : ℕ) (d : Spelled) → AreDistinct names → k < length names → place_of (take k names) (get_or names k d) ≡ None
next_unplaced names k d h l =
    let whole : names ≡ take k names ++ get_or names k d ∷ drop (k + 1) names = sym (take-append-drop k names) ∙ ap (λ z. take k names ++ z) (drop_more names k d l) in
    position-absent (bytes_eq (get_or names k d)) (take k names) (not_before (take k names) (get_or names k d) (drop (k + 1) names) (subst AreDistinct whole h))

name_here : (names : List Spelled) (k : ℕ) (name : Spelled) → Some name ≡ slice_get names k → get_or names k [] ≡ name
name_here names k name h = get_or_from_slice_get names k name [] (sym h)

pub unplaced_at : (names table : List Spelled) (k : ℕ) (name : Spelled) → AreDistinct names → k < length names → table ≡ take k names → Some name ≡ slice_get names k → place_of table name ≡ None
unplaced_at names table k name h l e f = ap (λ z. place_of z name) e ∙ ap (place_of (take k names)) (sym (name_here names k name f)) ∙ next_unplaced names k [] h l

pub one_more : (names table new : List Spelled) (k : ℕ) (name : Spelled) → k < length names → table ≡ take k names → Some name ≡ slice_get names k → new ≡ table ++ name ∷ [] → new ≡ take (k + 1) names
one_more names table new k name l e f g = g ∙ ap (λ z. z ++ name ∷ []) e ∙ ap (λ z. take k names ++ z ∷ []) (sym (name_here names k name f)) ∙ sym (take_more names k [] l)

pub few : (names table : List Spelled) (k : ℕ) → IsTable names → k < length names → table ≡ take k names → length table < 16384
few names table k h l e = omega (arith, h.short, ap length e, length-take-le k names (omega arith))

pub where_ok : {T E : Type 0} (r : Result T E) (P Q : Type 0) → (P → Q) → IfOk r (λ _. P) → IfOk r (λ _. Q)
where_ok (Ok x) P Q f h = f h
where_ok (Err e) P Q f h = h
