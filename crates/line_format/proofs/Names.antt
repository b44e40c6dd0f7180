-- Names that are distinct: a front of them, and what stands before one.
use Rattle.std.proofs.Common.{◌≡◌, List, [], ◌∷◌, ◌++◌, false, not, IsTrue, refl, ap, ◌∙◌}
use Rattle.std.specs.Prelude.{bytes_eq}
use Rattle.std.specs.Cmp.Lexicographic.{nat_list_eq_equiv}
use Rattle.argos_base.specs.Names.{Spelled, AreDistinct}
use Rattle.argos_base.specs.Spelling.{is_one_of}
use Rattle.argos_base.proofs.Bools.{and_first, and_second, and_both, not_false, or_first_false, or_second_false, or_neither}

pub not_before : (front : List Spelled) (y : Spelled) (rest : List Spelled) → AreDistinct (front ++ y ∷ rest) → is_one_of front y ≡ false
not_before [] y rest h = refl
not_before (p ∷ front) y rest h =
    let absent : is_one_of (front ++ y ∷ rest) p ≡ false = not_false _ (and_first _ _ h) in
    or_neither (bytes_eq y p) (is_one_of front y) (nat_list_eq_equiv.symm y p ∙ differs front p absent) (not_before front y rest (and_second (not (is_one_of (front ++ y ∷ rest) p)) _ h))
  where
    differs : (front : List Spelled) (p : Spelled) → is_one_of (front ++ y ∷ rest) p ≡ false → bytes_eq p y ≡ false
    differs [] p h = or_first_false _ _ h
    differs (q ∷ front) p h = differs front p (or_second_false (bytes_eq p q) _ h)

pub distinct_front : (xs ys : List Spelled) → AreDistinct (xs ++ ys) → AreDistinct xs
distinct_front [] ys h = refl
distinct_front (x ∷ xs) ys h = and_both _ _ (kept xs (and_first _ _ h)) (distinct_front xs ys (and_second (not (is_one_of (xs ++ ys) x)) _ h))
  where
    kept_false : (xs : List Spelled) → is_one_of (xs ++ ys) x ≡ false → is_one_of xs x ≡ false
    kept_false [] h = refl
    kept_false (z ∷ zs) h = or_neither _ _ (or_first_false (bytes_eq x z) _ h) (kept_false zs (or_second_false (bytes_eq x z) _ h))

    kept : (xs : List Spelled) → IsTrue (not (is_one_of (xs ++ ys) x)) → IsTrue (not (is_one_of xs x))
    kept xs h = ap not (kept_false xs (not_false _ h))
