-- Lists that are empty, and facts of each element.
use Rattle.std.proofs.Common.{◌≡◌, ℕ, ◌+◌, ◌<◌, List, [], ◌∷◌, ◌++◌, Bool, true, false, cond, not, ◌||◌, length, refl, sym, ◌∙◌, arith}
use Rattle.std.specs.List.{AllByRecursion, flat_map, list_any, position_or_len}
use Rattle.std.proofs.lemmas.Grind.{flat_map-append}

pub left_empty : {A : Type 0} (xs ys : List A) → xs ++ ys ≡ [] → xs ≡ []
left_empty [] ys h = refl
left_empty (x ∷ xs) ys h = cc

pub right_empty : {A : Type 0} (xs ys : List A) → xs ++ ys ≡ [] → ys ≡ []
right_empty [] ys h = h
right_empty (x ∷ xs) ys h = cc

-- all parts of a list that is empty
pub three_empty : {A : Type 0} (xs ys zs : List A) → xs ++ ys ++ zs ≡ [] → (xs ≡ []) × (ys ≡ []) × (zs ≡ [])
three_empty xs ys zs h = let front = left_empty (xs ++ ys) zs h in (left_empty xs ys front, right_empty xs ys front, right_empty (xs ++ ys) zs h)

pub four_empty : {A : Type 0} (xs ys zs us : List A) → xs ++ ys ++ zs ++ us ≡ [] → (xs ≡ []) × (ys ≡ []) × (zs ≡ []) × (us ≡ [])
four_empty xs ys zs us h = let front = three_empty xs ys zs (left_empty (xs ++ ys ++ zs) us h) in (front.0, front.1, front.2, right_empty (xs ++ ys ++ zs) us h)

-- what each element gives to a list that is empty
pub each_empty : {A B : Type 0} (f : A → List B) (P : A → Type 0) → ((x : A) → f x ≡ [] → P x) → (xs : List A) → flat_map f xs ≡ [] → AllByRecursion P xs
each_empty f P g [] h = tt
each_empty f P g (x ∷ xs) h = (g x (left_empty (f x) (flat_map f xs) h), each_empty f P g xs (right_empty (f x) (flat_map f xs) h))

-- the same, where the lists are taken of two parts
pub left_part_empty : {A B : Type 0} (f : A → List B) (xs ys : List A) → flat_map f (xs ++ ys) ≡ [] → flat_map f xs ≡ []
left_part_empty f xs ys h = left_empty (flat_map f xs) (flat_map f ys) (sym (flat_map-append f xs ys) ∙ h)

pub right_part_empty : {A B : Type 0} (f : A → List B) (xs ys : List A) → flat_map f (xs ++ ys) ≡ [] → flat_map f ys ≡ []
right_part_empty f xs ys h = right_empty (flat_map f xs) (flat_map f ys) (sym (flat_map-append f xs ys) ∙ h)

-- facts of each element
pub all_from : {A : Type 0} (P Q : A → Type 0) (xs : List A) → ((x : A) → P x → Q x) → AllByRecursion P xs → AllByRecursion Q xs
all_from P Q [] f h = tt
all_from P Q (x ∷ xs) f h = (f x h.0, all_from P Q xs f h.1)

pub all_append : {A : Type 0} (P : A → Type 0) (xs ys : List A) → AllByRecursion P xs → AllByRecursion P ys → AllByRecursion P (xs ++ ys)
all_append P [] ys h k = k
all_append P (x ∷ xs) ys h k = (h.0, all_append P xs ys h.1 k)

pub all_left : {A : Type 0} (P : A → Type 0) (xs ys : List A) → AllByRecursion P (xs ++ ys) → AllByRecursion P xs
all_left P [] ys h = tt
all_left P (x ∷ xs) ys h = (h.0, all_left P xs ys h.1)

pub all_right : {A : Type 0} (P : A → Type 0) (xs ys : List A) → AllByRecursion P (xs ++ ys) → AllByRecursion P ys
all_right P [] ys h = h
all_right P (x ∷ xs) ys h = all_right P xs ys h.1

-- where some element passes, the first that does has a place
below_step : (b c : Bool) (n m : ℕ) → (b || c) ≡ true → (c ≡ true → n < m) → cond (not b) (1 + n) 0 < m + 1
below_step true c n m h k = omega arith
below_step false c n m h k = let e = k h in omega arith

pub position_below : {A : Type 0} (p : A → Bool) (xs : List A) → list_any p xs ≡ true → position_or_len p xs < length xs
position_below p [] h = cc
position_below p (x ∷ xs) h =
    let e = below_step (p x) (list_any p xs) (position_or_len p xs) (length xs) h (position_below p xs) in
    omega arith
