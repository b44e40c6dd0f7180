-- Orderable systems with a plan have places, and can be drawn.
use Rattle.std.proofs.Common.{◌≡◌, ℕ, zero, suc, ◌<◌, ◌≤◌, List, [], ◌∷◌, Some, Bool, true, nat_eq, nat_lt, length, get_or, slice_get, All, refl, ap, ◌∙◌, inl, inr, arith}
use Rattle.std.specs.Prelude.{filter}
use Rattle.std.specs.List.{IsDistinct}
use Rattle.std.proofs.lemmas.Bool.Decides.{nat_tests}
use Rattle.std.proofs.lemmas.Map.Keys.{IsDistinct-from_apart}
use Rattle.argos_base.proofs.Bools.{true_or_false, and_first, and_second}
use Rattle.eqn_core.specs.Equations.{Equations, bit_count}
use Rattle.eqn_core.specs.Orderable.{IsOrderable}
use Rattle.eqn_core.specs.Ordered.{all_below}
use Rattle.eqn_completion.proofs.Reading.{nat_eq-tells}
use Rattle.eqn_dd.specs.Laws.{PlannedArePlaceable, PlannedAreDrawable}
use Rattle.eqn_dd.proofs.Variables.{different_few}

filter-few : (p : ℕ → Bool) (xs : List ℕ) → length (filter p xs) ≤ length xs
filter-few p [] = omega arith
filter-few p (x ∷ xs) = elim (true_or_false (p x)) [
  | inl y ↦ rw y (let r = filter-few p xs in omega arith)
  | inr n ↦ rw n (let r = filter-few p xs in omega arith)
]

lt_tells : (k n : ℕ) → nat_lt k n ≡ true → k < n
lt_tells k n h = grind (arith, nat_tests)

below_each : (n : ℕ) (xs : List ℕ) → all_below n xs ≡ true → All (λ k. k < n) xs
below_each n [] h k d below = absurd (omega arith)
below_each n (x ∷ xs) h zero d below = lt_tells x n (and_first _ _ h)
below_each n (x ∷ xs) h (suc k) d below = below_each n xs (and_second (nat_lt x n) _ h) k d (omega arith)

get_there : (xs : List ℕ) (i d : ℕ) → i < length xs → slice_get xs i ≡ Some (get_or xs i d)
get_there [] i d inside = absurd (omega arith)
get_there (x ∷ xs) zero d inside = refl
get_there (x ∷ xs) (suc i) d inside = get_there xs i d (omega arith)

once_distinct : (xs : List ℕ) → ((j k x : ℕ) → slice_get xs j ≡ Some x → slice_get xs k ≡ Some x → j ≡ k)
    → IsDistinct nat_eq xs
once_distinct xs once =
    IsDistinct-from_apart nat_eq xs (λ i j d less below.
    elim (true_or_false (nat_eq (get_or xs i d) (get_or xs j d))) [
      | inl y ↦
          let same = nat_eq-tells (get_or xs i d) (get_or xs j d) y in
          let one : i ≡ j = once i j (get_or xs j d) (get_there xs i d (omega arith) ∙ ap Some same)
          (get_there xs j d below) in
          absurd (omega arith)
      | inr n ↦ n
    ])

locals_few : {E : Equations} → IsOrderable E → length E.locals ≤ bit_count E
locals_few {E} orderable =
    different_few (bit_count E) E.locals (below_each (bit_count E) E.locals orderable.locals_exist)
    (once_distinct E.locals orderable.locals_once)

pub planned_placeable : PlannedArePlaceable
planned_placeable E order cyclic orderable plan = record {
  register_limit = orderable.register_limit;
  input_limit = orderable.input_limit;
  line_limit = omega (arith, orderable.line_limit);
  few_cyclic = omega (
    arith,
    ap length plan.cyclic_bits.is,
    filter-few plan.cyclic_bits.test E.locals,
    locals_few
        orderable,
  );
}

pub planned_drawable : PlannedAreDrawable
planned_drawable E order cyclic orderable plan = record {
  register_limit = orderable.register_limit;
  input_limit = orderable.input_limit;
  line_limit = omega (arith, orderable.line_limit);
  plan = plan;
  each = orderable.each;
}
