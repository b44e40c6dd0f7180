-- The walk that takes the least values.
use Rattle.std.proofs.Common.{◌≡◌, ◌≢◌, ℕ, ◌+◌, ◌<◌, ◌≤◌, List, [], ◌∷◌, ◌++◌, Some, None, Bool, true, false, nat_eq, length, take, drop, get_or, append_assoc, length-append, refl, sym, ap, ◌∙◌, subst, inl, inr, ◌⊎◌, arith}
use Rattle.std.specs.List.{slice_get}
use Rattle.std.proofs.lemmas.Bool.{false≢true}
use Rattle.std.proofs.lemmas.Bool.Decides.{nat_tests}
use Rattle.std.proofs.lemmas.List.{take_more, take_all, take-append-le, take-append-drop, drop_more}
use Rattle.std.proofs.lemmas.Option.{slice_get_within, slice_get-get_or}
use Rattle.dd_core.specs.declared.nodes.Node.{Node}
use Rattle.dd_core.specs.Functions.{AreEqual, constant}
use Rattle.dd_core.specs.Diagrams.{node_at, after, walk}
use Rattle.dd_core.specs.Arenas.{ArenaView, IsArena, Holds, level_of, function_of}
use Rattle.dd_core.proofs.Walks.{child-held, child-later, held_cases, level_at, walk-constant}
use Rattle.dd_core.proofs.Making.{function_of-false}
use Rattle.dd_core.proofs.Lists.{slice_get-append, slice_get-seam}
use Rattle.dd_ops.specs.Least.{IsBefore, IsLeast}

-- after the first k variables the walk stands at g
pub record LeastSoFar (arena : ArenaView) (f k : ℕ) (values : List Bool) (g : ℕ) : Type 0 where
  pub sized : length values ≡ k
  pub held : Holds arena g
  pub possible : g ≢ 0
  pub later : k ≤ level_of arena g
  pub rest : (ys : List Bool) → function_of arena f (values ++ ys) ≡ walk arena.nodes k g ys
  pub first : (y : List Bool) → length y ≡ arena.variables → function_of arena f y ≡ true → (take k y ≡ values) ⊎ IsBefore values y

pub least_none : (arena : ArenaView) (f : ℕ) → Holds arena f → f ≢ 0 → LeastSoFar arena f 0 [] f
least_none arena f held possible = record {
  sized = refl;
  held = held;
  possible = possible;
  later = omega arith;
  rest = λ ys. refl;
  first = λ y sized holds. inl refl;
}

before_more : (x y : List Bool) (b : Bool) → IsBefore x y → IsBefore (x ++ b ∷ []) y
before_more x y b before = record {
  place = before.place;
  same = take-append-le before.place x (b ∷ []) (omega (arith, slice_get_within x before.place false before.here)) ∙ before.same;
  here = slice_get-append x (b ∷ []) before.place false before.here;
  there = before.there;
}

pub least_more : (arena : ArenaView) (f k g next : ℕ) (values : List Bool) (b : Bool) → IsArena arena → k < arena.variables → LeastSoFar arena f k values g
    → next ≡ after k b g (node_at arena.nodes g) → (b ≡ true → after k false g (node_at arena.nodes g) ≡ 0) → next ≢ 0 → LeastSoFar arena f (k + 1) (values ++ b ∷ []) next
least_more arena f k g next values b valid below before next_is forced possible =
    let v = arena.variables in
    let later = child-later v arena.nodes valid.reduced k b g before.held before.later below in
    record {
      sized = length-append values (b ∷ []) ∙ ap (λ n. n + 1) before.sized;
      held = subst (λ h. Holds arena h) (sym next_is) (child-held v arena.nodes valid.reduced k b g before.held before.later below);
      possible = possible;
      later = subst (λ h. k + 1 ≤ level_of arena h) (sym next_is) (omega (arith, later));
      rest = λ ys. ap (function_of arena f) (append_assoc values (b ∷ []) ys) ∙ before.rest (b ∷ ys) ∙ ap (λ h. walk arena.nodes (k + 1) h ys) (sym next_is);
      first = λ y sized holds. elim (before.first y sized holds) [
        | inl front ↦ at_front y sized holds front (get_or y k false) refl
        | inr is_before ↦ inr (before_more values y b is_before)
      ];
    }
  where
    same_value : (y : List Bool) → length y ≡ arena.variables → take k y ≡ values → get_or y k false ≡ b → (take (k + 1) y ≡ values ++ b ∷ []) ⊎ IsBefore (values ++ b ∷ []) y
    same_value y sized front value = inl (take_more y k false (omega arith) ∙ ap (λ xs. xs ++ get_or y k false ∷ []) front ∙ ap (λ c. values ++ c ∷ []) value)

    at_front : (y : List Bool) → length y ≡ arena.variables → function_of arena f y ≡ true → take k y ≡ values → (c : Bool) → get_or y k false ≡ c → (take (k + 1) y ≡ values ++ b ∷ []) ⊎ IsBefore (values ++ b ∷ []) y
    at_front y sized holds front c is = other y sized holds front c b refl is
      where
        other : (y : List Bool) → length y ≡ arena.variables → function_of arena f y ≡ true → take k y ≡ values → (c d : Bool) → b ≡ d → get_or y k false ≡ c → (take (k + 1) y ≡ values ++ b ∷ []) ⊎ IsBefore (values ++ b ∷ []) y
        other y sized holds front true true b_is is = same_value y sized front (is ∙ sym b_is)
        other y sized holds front false false b_is is = same_value y sized front (is ∙ sym b_is)
        other y sized holds front true false b_is is = inr (record {
          place = k;
          same = take-append-le k values (b ∷ []) (omega (arith, before.sized)) ∙ take_all k values (omega (arith, before.sized)) ∙ sym front;
          here = ap (slice_get (values ++ b ∷ [])) (sym before.sized) ∙ slice_get-seam values b ∙ ap Some b_is;
          there = slice_get-get_or y k false (omega arith) ∙ ap Some is;
        })
        other y sized holds front false true b_is is = absurd (dead y sized holds front is (forced b_is))
          where
            dead : (y : List Bool) → length y ≡ arena.variables → function_of arena f y ≡ true → take k y ≡ values → get_or y k false ≡ false → after k false g (node_at arena.nodes g) ≡ 0 → ⊥
            dead y sized holds front is none =
                let split : y ≡ values ++ drop k y = sym (take-append-drop k y) ∙ ap (λ xs. xs ++ drop k y) front in
                let rest : drop k y ≡ false ∷ drop (k + 1) y = drop_more y k false (omega arith) ∙ ap (λ c. c ∷ drop (k + 1) y) is in
                let value : function_of arena f y ≡ false =
                ap (function_of arena f) split ∙ before.rest (drop k y) ∙ ap (walk arena.nodes k g) rest
                ∙ ap (λ h. walk arena.nodes (k + 1) h (drop (k + 1) y)) none ∙ walk-constant arena.nodes (k + 1) 0 (drop (k + 1) y) valid.reduced.no_false in
                false≢true (sym value ∙ holds)

append_none : (xs : List Bool) → xs ++ [] ≡ xs
append_none [] = refl
append_none (x ∷ xs) = ap (λ ys. x ∷ ys) (append_none xs)

pub least_all : (arena : ArenaView) (f k g : ℕ) (values : List Bool) → IsArena arena → arena.variables ≤ k → k ≤ arena.variables → LeastSoFar arena f k values g → IsLeast arena.variables (function_of arena f) values
least_all arena f k g values valid past within before =
    let all : k ≡ arena.variables = omega arith in
    let end : g < 2 = constant_at (held_cases arena.nodes g before.held) in
    let one : nat_eq g 1 ≡ true = is_one g end before.possible in
    record {
      sized = before.sized ∙ all;
      holds = ap (function_of arena f) (sym (append_none values)) ∙ before.rest [] ∙ one;
      first = λ y sized holds. elim (before.first y sized holds) [
        | inl front ↦ inl (sym (take_all k y (omega arith)) ∙ front)
        | inr is_before ↦ inr is_before
      ];
    }
  where
    constant_at : ((g < 2) × (node_at arena.nodes g ≡ None)) ⊎ ((n : Node) × (node_at arena.nodes g ≡ Some n)) → g < 2
    constant_at (inl c) = c.0
    constant_at (inr some) = absurd (omega (arith, past, before.later, level_at arena.variables arena.nodes g some.0 some.1, valid.reduced.variable g some.0 some.1))

    is_one : (g : ℕ) → g < 2 → g ≢ 0 → nat_eq g 1 ≡ true
    is_one g h p = let e : g ≡ 1 = omega arith in grind (arith, nat_tests)

pub false_everywhere : (arena : ArenaView) (f : ℕ) → IsArena arena → f ≡ 0 → AreEqual arena.variables (function_of arena f) (constant false)
false_everywhere arena f valid is x sized = ap (λ g. function_of arena g x) is ∙ function_of-false arena x valid
