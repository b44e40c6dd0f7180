-- What it says that two interfaces have the same names.
use Rattle.std.proofs.Common.{◌≡◌, List, [], ◌∷◌, ◌++◌, true, false, ◌&&◌, ◌||◌, refl, sym, ap, ◌∙◌, ◌⊎◌, inl, inr}
use Rattle.std.specs.Prelude.{bytes_eq}
use Rattle.std.proofs.lemmas.Slice.Eq.{bytes_eq-Decides}
use Rattle.std.proofs.lemmas.List.Folds.{list_any-append}
use Rattle.argos_base.specs.Names.{Spelled, AreDistinct}
use Rattle.argos_base.specs.Spelling.{is_one_of}
use Rattle.argos_base.proofs.Bools.{and_first, and_second, and_both, or_first_false, or_second_false, or_left, or_right, or_cases, not_false, false_not}
use Rattle.argos_core.specs.Process.{PlainModule}
use Rattle.argos_congruence.specs.Congruence.{is_shared, all_names, HaveSameNames}
use Rattle.argos_congruence.proofs.Naming.{AreAmong, Stands, stands}
use Rattle.argos_congruence.proofs.Watching.{ShareNames}

-- of distinct names in two lists the first ones are distinct, the second ones too, and none is in both
none_of_rest : (x : Spelled) (xs ys : List Spelled) → AreDistinct (x ∷ xs ++ ys) → (is_one_of xs x || is_one_of ys x) ≡ false
none_of_rest x xs ys h = sym (list_any-append (bytes_eq x) xs ys) ∙ not_false _ (and_first _ _ h)

pub distinct_first : (xs ys : List Spelled) → AreDistinct (xs ++ ys) → AreDistinct xs
distinct_first [] ys h = refl
distinct_first (x ∷ xs) ys h =
    let other : is_one_of xs x ≡ false = or_first_false (is_one_of xs x) (is_one_of ys x) (none_of_rest x xs ys h) in
    and_both _ _ (false_not _ other) (distinct_first xs ys (and_second _ _ h))

pub distinct_second : (xs ys : List Spelled) → AreDistinct (xs ++ ys) → AreDistinct ys
distinct_second [] ys h = h
distinct_second (x ∷ xs) ys h = distinct_second xs ys (and_second _ _ h)

pub in_one : (xs ys : List Spelled) (name : Spelled) → AreDistinct (xs ++ ys) → is_one_of xs name ≡ true → is_one_of ys name ≡ false
in_one [] ys name d h = cc
in_one (x ∷ xs) ys name d h = elim (or_cases (bytes_eq name x) (is_one_of xs name) h) [
  | inl t ↦
      let e : name ≡ x = (bytes_eq-Decides name x).0 t in
      let none : is_one_of ys x ≡ false = or_second_false (is_one_of xs x) (is_one_of ys x) (none_of_rest x xs ys d) in
      ap (is_one_of ys) e ∙ none
  | inr t ↦ in_one xs ys name (and_second _ _ d) t
]

-- what is shared is in both places
abbrev SharedInput : PlainModule → PlainModule → Spelled → Type 0
SharedInput P Q name = (is_one_of P.inputs name && is_one_of Q.inputs name) ≡ true

abbrev SharedOutput : PlainModule → PlainModule → Spelled → Type 0
SharedOutput P Q name = (is_one_of P.outputs name && is_one_of Q.outputs name) ≡ true

shared_as : (P Q : PlainModule) (name : Spelled) → is_shared P Q name ≡ true → SharedInput P Q name ⊎ SharedOutput P Q name
shared_as P Q name = or_cases (is_one_of P.inputs name && is_one_of Q.inputs name) (is_one_of P.outputs name && is_one_of Q.outputs name)

shared_input : (P Q : PlainModule) (name : Spelled) → AreDistinct (P.inputs ++ P.outputs) → is_one_of P.inputs name ≡ true
    → is_shared P Q name ≡ true → is_one_of Q.inputs name ≡ true
shared_input P Q name d h s = elim (shared_as P Q name s) [
  | inl t ↦ and_second (is_one_of P.inputs name) _ t
  | inr t ↦ let u = and_first (is_one_of P.outputs name) (is_one_of Q.outputs name) t in let f = in_one P.inputs P.outputs name d h in cc (u, f)
]

shared_output : (P Q : PlainModule) (name : Spelled) → AreDistinct (P.inputs ++ P.outputs) → is_one_of P.outputs name ≡ true
    → is_shared P Q name ≡ true → is_one_of Q.outputs name ≡ true
shared_output P Q name d h s = elim (shared_as P Q name s) [
  | inl t ↦ let u = in_one P.inputs P.outputs name d (and_first (is_one_of P.inputs name) (is_one_of Q.inputs name) t) in cc (u, h)
  | inr t ↦ and_second (is_one_of P.outputs name) _ t
]

-- the names of each of the four lists are among all names, and so shared
in_append_left : (xs ys : List Spelled) (name : Spelled) → is_one_of xs name ≡ true → is_one_of (xs ++ ys) name ≡ true
in_append_left xs ys name h = list_any-append (bytes_eq name) xs ys ∙ or_left _ _ h

in_append_right : (xs ys : List Spelled) (name : Spelled) → is_one_of ys name ≡ true → is_one_of (xs ++ ys) name ≡ true
in_append_right xs ys name h = list_any-append (bytes_eq name) xs ys ∙ or_right (is_one_of xs name) _ h

module _ (P Q : PlainModule) (same : HaveSameNames P Q) (name : Spelled) where
  listed_shared : is_one_of (all_names P Q) name ≡ true → is_shared P Q name ≡ true
  listed_shared t = let s : Stands (all_names P Q) name = stands (all_names P Q) name t in same s.place name s.at

  left_shared : is_one_of (P.inputs ++ P.outputs) name ≡ true → is_shared P Q name ≡ true
  left_shared t = listed_shared (in_append_left (P.inputs ++ P.outputs ++ Q.inputs) Q.outputs name (in_append_left (P.inputs ++ P.outputs) Q.inputs name t))

  right_input_shared : is_one_of Q.inputs name ≡ true → is_shared P Q name ≡ true
  right_input_shared t =
      listed_shared (in_append_left (P.inputs ++ P.outputs ++ Q.inputs) Q.outputs name (in_append_right (P.inputs ++ P.outputs) Q.inputs name t))

  right_output_shared : is_one_of Q.outputs name ≡ true → is_shared P Q name ≡ true
  right_output_shared t = listed_shared (in_append_right (P.inputs ++ P.outputs ++ Q.inputs) Q.outputs name t)

pub share_names : (P Q : PlainModule) → AreDistinct (P.inputs ++ P.outputs) → HaveSameNames P Q → ShareNames P Q
share_names P Q d h = record {
  inputs = λ name t. shared_input P Q name d t (left_shared P Q h name (in_append_left P.inputs P.outputs name t));
  outputs = λ name t. shared_output P Q name d t (left_shared P Q h name (in_append_right P.inputs P.outputs name t));
  distinct_inputs = distinct_first P.inputs P.outputs d;
  distinct_outputs = distinct_second P.inputs P.outputs d;
}

-- and the other way round
pub share_back : (P Q : PlainModule) → AreDistinct (Q.inputs ++ Q.outputs) → HaveSameNames P Q → AreAmong Q.outputs P.outputs
share_back P Q d h name t = elim (shared_as P Q name (right_output_shared P Q h name t)) [
  | inl u ↦ let f = in_one Q.inputs Q.outputs name d (and_second (is_one_of P.inputs name) _ u) in cc (t, f)
  | inr u ↦ and_first (is_one_of P.outputs name) (is_one_of Q.outputs name) u
]

pub share_inputs_back : (P Q : PlainModule) → AreDistinct (Q.inputs ++ Q.outputs) → HaveSameNames P Q → AreAmong Q.inputs P.inputs
share_inputs_back P Q d h name t = elim (shared_as P Q name (right_input_shared P Q h name t)) [
  | inl u ↦ and_first (is_one_of P.inputs name) (is_one_of Q.inputs name) u
  | inr u ↦ let f = in_one Q.inputs Q.outputs name d t in let g = and_second (is_one_of P.outputs name) _ u in cc (f, g)
]
