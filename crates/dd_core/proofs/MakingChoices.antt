-- The recursion that makes a choice: what each of its ways out leaves.
use Rattle.std.proofs.Common.{◌≡◌, ℕ, ◌+◌, ◌-◌, ◌*◌, ◌^◌, ◌<◌, ◌≤◌, Bool, true, false, if◌then◌else◌, refl, sym, ap, ◌∙◌, subst, inl, inr, arith, Result, Ok, Err}
use Rattle.std.proofs.Math.Pow.{pow_mono}
use Rattle.std.proofs.lemmas.Nat.{pow_pos}
use Rattle.std.proofs.lemmas.Bool.{false≢true}
use Rattle.dd_core.specs.declared.nodes.NodeId.{NodeId}
use Rattle.dd_core.specs.declared.errors.DdError.{DdError}
use Rattle.dd_core.specs.declared.cache.Choice.{Choice}
use Rattle.dd_core.specs.declared.cache.Operation.TheVariants.{Choose}
use Rattle.dd_core.specs.Functions.{Function, AreEqual, if_else, variable_value}
use Rattle.dd_core.specs.Diagrams.{node_count}
use Rattle.dd_core.specs.Arenas.{ArenaView, IsArena, Holds, level_of, function_of, Keeps, Makes}
use Rattle.dd_core.specs.Operations.{choice_function, IsHeld, first_level, IsResult}
use Rattle.dd_core.specs.inner.Choices.{choice_child, IsSettled, MakesChoice}
use Rattle.dd_core.proofs.Walks.{held_cases, level_at}
use Rattle.dd_core.proofs.Making.{is_node_of, makes_unchanged, makes_equal, makes_within, function_of-true, function_of-false, IsNodeOf-equal}
use Rattle.dd_core.proofs.Composing.{Splits, one_variable_more, level_after, low_fails, high_fails, node_made}
use Rattle.dd_core.proofs.Chosen.{child_held, child_first, child_splits, IsHeld-kept, first_level-kept, choice_function-kept}

-- a result is no new node
pub makes_result : (arena : ArenaView) (c : Choice) (f : NodeId) → IsArena arena → IsResult arena (Choose c) f → MakesChoice arena arena c (Ok f)
makes_result arena c f valid is = record {
  made = makes_unchanged (2 ^ (arena.variables - first_level arena c) - 1) arena (choice_function arena c) f valid is.node;
  later = is.later;
}

module _ (arena : ArenaView) (c : Choice) (valid : IsArena arena) (held : IsHeld arena c) where
  result_is : (f : NodeId) → Holds arena f.0 → first_level arena c ≤ level_of arena f.0 → AreEqual arena.variables (function_of arena f.0) (choice_function arena c) → IsResult arena (Choose c) f
  result_is f held_f later equal = record { held = held; node = is_node_of arena (choice_function arena c) f.0 valid held_f equal; later = later }

  at_true : (t y n : Bool) → t ≡ true → y ≡ (if t then y else n)
  at_true true y n e = refl
  at_true false y n e = absurd (false≢true e)

  at_false : (t y n : Bool) → t ≡ false → n ≡ (if t then y else n)
  at_false true y n e = absurd (false≢true (sym e))
  at_false false y n e = refl

  same_branches : (t y : Bool) → y ≡ (if t then y else y)
  same_branches true y = refl
  same_branches false y = refl

  test_itself : (t y n : Bool) → y ≡ true → n ≡ false → t ≡ (if t then y else n)
  test_itself true y n p q = sym p
  test_itself false y n p q = sym q

  test_is_true : (f : NodeId) → c.test.0 ≡ 1 → f ≡ c.yes → IsResult arena (Choose c) f
  test_is_true f one is = subst (λ g. IsResult arena (Choose c) g) (sym is) (result_is c.yes held.yes (omega arith) (λ x sized.
      at_true (function_of arena c.test.0 x) (function_of arena c.yes.0 x) (function_of arena c.no.0 x) (ap (λ g. function_of arena g x) one ∙ function_of-true arena x valid)))

  test_is_false : (f : NodeId) → c.test.0 ≡ 0 → f ≡ c.no → IsResult arena (Choose c) f
  test_is_false f none is = subst (λ g. IsResult arena (Choose c) g) (sym is) (result_is c.no held.no (omega arith) (λ x sized.
      at_false (function_of arena c.test.0 x) (function_of arena c.yes.0 x) (function_of arena c.no.0 x) (ap (λ g. function_of arena g x) none ∙ function_of-false arena x valid)))

  branches_agree : (f : NodeId) → c.yes ≡ c.no → f ≡ c.yes → IsResult arena (Choose c) f
  branches_agree f same is = subst (λ g. IsResult arena (Choose c) g) (sym is) (result_is c.yes held.yes (omega arith) (λ x sized.
      let no_is : function_of arena c.no.0 x ≡ function_of arena c.yes.0 x = ap (λ (g : NodeId). function_of arena g.0 x) (sym same) in
      same_branches (function_of arena c.test.0 x) (function_of arena c.yes.0 x) ∙ ap (λ b. if function_of arena c.test.0 x then function_of arena c.yes.0 x else b) (sym no_is)))

  constant_branches : (f : NodeId) → c.yes.0 ≡ 1 → c.no.0 ≡ 0 → f ≡ c.test → IsResult arena (Choose c) f
  constant_branches f one none is = subst (λ g. IsResult arena (Choose c) g) (sym is) (result_is c.test held.test (omega arith) (λ x sized.
      test_itself (function_of arena c.test.0 x) (function_of arena c.yes.0 x) (function_of arena c.no.0 x) (ap (λ g. function_of arena g x) one ∙ function_of-true arena x valid) (ap (λ g. function_of arena g x) none ∙ function_of-false arena x valid)))

  pub settled_is : (f : NodeId) → IsSettled c f → IsResult arena (Choose c) f
  settled_is f settled =
      elim settled.is [
        | inl (inl (inl first)) ↦ test_is_true f first.0 first.1
        | inl (inl (inr second)) ↦ test_is_false f second.0 second.1
        | inl (inr third) ↦ branches_agree f third.0 third.1
        | inr fourth ↦ constant_branches f fourth.0 fourth.1 fourth.2
      ]

pub makes_settled : (arena : ArenaView) (c : Choice) (f : NodeId) → IsArena arena → IsHeld arena c → IsSettled c f → MakesChoice arena arena c (Ok f)
makes_settled arena c f valid held settled = makes_result arena c f valid (settled_is arena c valid held f settled)

pub first_below : (arena : ArenaView) (c : Choice) → IsArena arena → IsHeld arena c → 2 ≤ c.test.0 → first_level arena c < arena.variables
first_below arena c valid held undecided =
    elim (held_cases arena.nodes c.test.0 held.test) [
      | inl none ↦ absurd (omega (arith, none.0))
      | inr some ↦ omega (arith, level_at arena.variables arena.nodes c.test.0 some.0 some.1, valid.reduced.variable c.test.0 some.0 some.1)
    ]

-- a choice whose test is no constant, and its operands with their first variable k set to false and to true
pub record AreBranches (a : ArenaView) (c : Choice) (k : ℕ) (low high : Choice) : Type 0 where
  pub valid : IsArena a
  pub held : IsHeld a c
  pub undecided : 2 ≤ c.test.0
  pub variable : k ≡ first_level a c
  pub without : low ≡ choice_child a k false c
  pub with : high ≡ choice_child a k true c

branches_at_first : (a : ArenaView) (c : Choice) (k : ℕ) (low high : Choice) → AreBranches a c k low high → (P : ℕ → Choice → Choice → Type 0)
    → P (first_level a c) (choice_child a (first_level a c) false c) (choice_child a (first_level a c) true c) → P k low high
branches_at_first a c k low high are P at_first =
    let at_k : P k (choice_child a k false c) (choice_child a k true c) = subst (λ j. P j (choice_child a j false c) (choice_child a j true c)) (sym are.variable) at_first in
    subst (λ h. P k low h) (sym are.with) (subst (λ l. P k l (choice_child a k true c)) (sym are.without) at_k)

-- the two calls for the branches, and then the node at variable k
module _ {a : ArenaView} {c : Choice} {k : ℕ} {low_choice high_choice : Choice} (branches : AreBranches a c k low_choice high_choice) where
  valid : IsArena a
  valid = branches.valid

  held : IsHeld a c
  held = branches.held

  abbrev v : ℕ
  v = a.variables

  abbrev most : ℕ
  most = 2 ^ (v - first_level a c) - 1

  abbrev low_most : ℕ
  low_most = 2 ^ (v - first_level a low_choice) - 1

  first_is_below : first_level a c < v
  first_is_below = first_below a c valid held branches.undecided

  below : k < v
  below = omega (arith, first_is_below, branches.variable)

  low_first : k < first_level a low_choice
  low_first = branches_at_first a c k low_choice high_choice branches (λ j l h. j < first_level a l) (child_first a valid c held first_is_below false)

  high_first_a : k < first_level a high_choice
  high_first_a = branches_at_first a c k low_choice high_choice branches (λ j l h. j < first_level a h) (child_first a valid c held first_is_below true)

  splits : Splits v k (choice_function a c) (choice_function a low_choice) (choice_function a high_choice)
  splits = branches_at_first a c k low_choice high_choice branches (λ j l h. Splits v j (choice_function a c) (choice_function a l) (choice_function a h)) (child_splits a valid c held first_is_below)

  pub low_held : IsHeld a low_choice
  low_held = branches_at_first a c k low_choice high_choice branches (λ j l h. IsHeld a l) (child_held a valid c held first_is_below false)

  high_held_a : IsHeld a high_choice
  high_held_a = branches_at_first a c k low_choice high_choice branches (λ j l h. IsHeld a h) (child_held a valid c held first_is_below true)

  pub low_smaller : 2 * (v - first_level a low_choice) + 1 < 2 * (v - first_level a c)
  low_smaller = omega (arith, low_first, below, branches.variable)

  one_more : (i j : ℕ) → k < i → k < j → (2 ^ (v - i) - 1) + (2 ^ (v - j) - 1) + 1 ≤ most
  one_more i j p q = one_variable_more v (first_level a c) i j first_is_below (omega (arith, branches.variable)) (omega (arith, branches.variable))

  pub after_low_fails : {b : ArenaView} {e : DdError} → MakesChoice a b low_choice (Err e) → MakesChoice a b c (Err e)
  after_low_fails {b} {e} failed = record {
    made = low_fails a k (choice_function a c) (choice_function a low_choice) (choice_function a high_choice) splits most low_most b e
        (omega (arith, one_more (first_level a low_choice) (first_level a low_choice) low_first low_first)) failed.made;
    later = tt;
  }

  -- after the call for the variable's false
  module _ {b : ArenaView} {low : NodeId} (first : MakesChoice a b low_choice (Ok low)) where
    keeps_first : Keeps a b
    keeps_first = first.made.keeps

    pub high_held : IsHeld b high_choice
    high_held = IsHeld-kept a b valid first.made.arena keeps_first high_choice high_held_a

    high_first : k < first_level b high_choice
    high_first = omega (arith, high_first_a, first_level-kept a b valid first.made.arena keeps_first high_choice high_held_a)

    pub high_smaller : 2 * (b.variables - first_level b high_choice) + 1 < 2 * (v - first_level a c)
    high_smaller = omega (arith, high_first, keeps_first.variables, below, branches.variable)

    abbrev high_most : ℕ
    high_most = 2 ^ (b.variables - first_level b high_choice) - 1

    fits : low_most + high_most + 1 ≤ most
    fits = subst (λ w. low_most + (2 ^ (w - first_level b high_choice) - 1) + 1 ≤ most) (sym keeps_first.variables) (one_more (first_level a low_choice) (first_level b high_choice) low_first high_first)

    second_made : (d : ArenaView) (result : Result NodeId DdError) → MakesChoice b d high_choice result → Makes high_most b d (choice_function a high_choice) result
    second_made d result second = makes_equal high_most b d (choice_function b high_choice) (choice_function a high_choice) result (λ x sized. choice_function-kept a b keeps_first high_choice high_held_a x (sized ∙ keeps_first.variables)) second.made

    pub after_high_fails : {d : ArenaView} {e : DdError} → MakesChoice b d high_choice (Err e) → MakesChoice a d c (Err e)
    after_high_fails {d} {e} failed = record {
      made = high_fails a k (choice_function a c) (choice_function a low_choice) (choice_function a high_choice) splits most low_most high_most b d low e (omega (arith, fits)) first.made (second_made d (Err e) failed);
      later = tt;
    }

    -- after the call for its true
    module _ {d : ArenaView} {high : NodeId} (second : MakesChoice b d high_choice (Ok high)) where
      pub variable_below : k < d.variables
      variable_below = omega (arith, below, keeps_first.variables, second.made.keeps.variables)

      pub low_later : k < level_of d low.0
      low_later = omega (arith, low_first, first.later, level_after b d first.made.arena second.made.arena second.made.keeps low.0 first.made.node.held)

      pub high_later : k < level_of d high.0
      high_later = omega (arith, high_first, second.later)

      abbrev last_function : Function
      last_function = if_else (variable_value k) (function_of d high.0) (function_of d low.0)

      node : (e : ArenaView) (result : Result NodeId DdError) → Makes 1 d e last_function result → Makes most a e (choice_function a c) result
      node e result last = node_made a k (choice_function a c) (choice_function a low_choice) (choice_function a high_choice) splits most low_most high_most b d e low high result fits first.made (second_made d (Ok high) second) last

      pub after_node_fails : {e : ArenaView} {error : DdError} → Makes 1 d e last_function (Err error) → MakesChoice a e c (Err error)
      after_node_fails {e} {error} failed = record { made = node e (Err error) failed; later = tt }

      -- the node is the choice's result
      pub node_is_result : {e : ArenaView} {f : NodeId} → Makes 1 d e last_function (Ok f) → k ≤ level_of e f.0 → IsResult e (Choose c) f
      node_is_result {e} {f} last later =
          let made = node e (Ok f) last in
          let first_is : first_level e c ≡ first_level a c = first_level-kept a e valid made.arena made.keeps c held in
          record {
            held = IsHeld-kept a e valid made.arena made.keeps c held;
            node = IsNodeOf-equal e (choice_function a c) (choice_function e c) f.0 (λ x sized. sym (choice_function-kept a e made.keeps c held x (sized ∙ made.keeps.variables))) made.node;
            later = omega (arith, later, first_is, branches.variable);
          }

      -- after the node was made
      pub after_node : {e : ArenaView} {f : NodeId} → Makes 1 d e last_function (Ok f) → k ≤ level_of e f.0 → MakesChoice a e c (Ok f)
      after_node {e} {f} last later = record { made = node e (Ok f) last; later = omega (arith, later, branches.variable) }

-- the bounds by the number of variables alone
pub makes_few : {old new : ArenaView} {c : Choice} {result : Result NodeId DdError} → MakesChoice old new c result → Makes (2 ^ (old.variables + 1)) old new (choice_function old c) result
makes_few {old} {new} {c} {result} m =
    let p : 2 ^ (old.variables - first_level old c) ≤ 2 ^ (old.variables + 1) = pow_mono (omega arith) in
    makes_within (2 ^ (old.variables - first_level old c) - 1) (2 ^ (old.variables + 1)) old new (choice_function old c) result (omega (arith, p)) m.made

pub makes_fewer : {old new : ArenaView} {c : Choice} {result : Result NodeId DdError} → MakesChoice old new c result → node_count new.nodes < node_count old.nodes + 2 ^ old.variables
makes_fewer {old} {new} {c} {result} m =
    let p : 2 ^ (old.variables - first_level old c) ≤ 2 ^ old.variables = pow_mono (omega arith) in
    omega (arith, m.made.few, p, pow_pos (old.variables - first_level old c))
