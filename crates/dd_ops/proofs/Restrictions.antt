-- The recursion that sets a variable: what each of its ways out leaves.
use Rattle.std.proofs.Common.{◌≡◌, ℕ, ◌+◌, ◌-◌, ◌*◌, ◌^◌, ◌<◌, ◌≤◌, List, ◌++◌, Some, None, Bool, true, false, if◌then◌else◌, length, drop, set, get_or, refl, sym, ap, ◌∙◌, subst, inl, inr, ◌⊎◌, arith, Result, Ok, Err}
use Rattle.std.proofs.Math.Pow.{pow_mono}
use Rattle.std.proofs.lemmas.Nat.{pow_pos}
use Rattle.std.proofs.lemmas.List.{drop-set-lt, drop-set-add, set-append_right, get_or-set_other, get_or-set_same, length-set}
use Rattle.dd_core.specs.declared.nodes.Node.{Node}
use Rattle.dd_core.specs.declared.nodes.NodeId.{NodeId}
use Rattle.dd_core.specs.declared.errors.DdError.{DdError}
use Rattle.dd_core.specs.declared.cache.Restriction.{Restriction}
use Rattle.dd_core.specs.declared.cache.Operation.TheVariants.{Restrict}
use Rattle.dd_core.specs.Functions.{Function, IsCofactor, if_else, variable_value, restriction}
use Rattle.dd_core.specs.Operations.{IsResult}
use Rattle.dd_core.specs.Diagrams.{node_at, walk, node_count}
use Rattle.dd_core.specs.Arenas.{ArenaView, IsArena, Holds, level_of, function_of, Makes}
use Rattle.dd_core.proofs.Walks.{child, child-at, child-later, denotes-skip, denotes-child, held_at, held_cases, held_level, level_at, level_constant, tests_from_level}
use Rattle.dd_core.proofs.Cofactors.{front_to, length-front_to, denotes-front_to, IsCofactor-front_to}
use Rattle.dd_core.proofs.Making.{is_node_of, makes_unchanged, makes_equal, makes_within, IsNodeOf-equal}
use Rattle.dd_core.proofs.Composing.{Splits, level_after, low_fails, high_fails, node_made}
use Rattle.dd_core.proofs.Composing.{one_variable_more}
use Rattle.dd_ops.specs.inner.Restricting.{MakesRestriction}

-- a function that doesn't depend on variable k
pub restricted-later : (arena : ArenaView) (k : ℕ) (b : Bool) (f : ℕ) (x : List Bool) → k < level_of arena f → function_of arena f (set x k b) ≡ function_of arena f x
restricted-later arena k b f x later =
    let from = tests_from_level arena.variables arena.nodes (k + 1) f (omega arith) in
    denotes-skip arena.nodes (k + 1) f (set x k b) from
    ∙ ap (walk arena.nodes (k + 1) f) (drop-set-lt (k + 1) x k b (omega arith))
    ∙ sym (denotes-skip arena.nodes (k + 1) f x from)

-- f tests variable k itself: its child
pub restricted-here : (arena : ArenaView) → IsArena arena → (k : ℕ) (b : Bool) (f : ℕ) (n : Node) → node_at arena.nodes f ≡ Some n → n.variable ≡ k
    → (x : List Bool) → length x ≡ arena.variables → function_of arena f (set x k b) ≡ function_of arena (if b then n.high.0 else n.low.0) x
restricted-here arena valid k b f n is same x sized =
    let v = arena.variables in let held = held_at arena.nodes f n is in
    let at : level_of arena f ≡ k = level_at v arena.nodes f n is ∙ same in
    let below : k < v = omega (arith, valid.reduced.variable f n is) in
    let low : k ≤ level_of arena f = omega arith in
    let value : get_or (set x k b) k false ≡ b = get_or-set_same x k b false (omega arith) in
    denotes-child v arena.nodes valid.reduced k f (set x k b) held low below (length-set x k b ∙ sized)
    ∙ ap (λ c. function_of arena (child arena.nodes k c f) (set x k b)) value
    ∙ restricted-later arena k b (child arena.nodes k b f) x (child-later v arena.nodes valid.reduced k b f held low below)
    ∙ ap (λ g. function_of arena g x) (child-at arena.nodes k b f n is same)

-- f tests an earlier variable: its children with variable k set
module _ (arena : ArenaView) (valid : IsArena arena) (k : ℕ) (b : Bool) (f : ℕ) (n : Node) (is : node_at arena.nodes f ≡ Some n) (earlier : n.variable < k) where
  abbrev j : ℕ
  j = n.variable

  abbrev v : ℕ
  v = arena.variables

  below : j < v
  below = valid.reduced.variable f n is

  at_level : level_of arena f ≡ j
  at_level = level_at v arena.nodes f n is

  low_enough : j ≤ level_of arena f
  low_enough = omega (arith, at_level)

  held : Holds arena f
  held = held_at arena.nodes f n is

  cofactor : (c : Bool) → IsCofactor v (restriction k b (function_of arena f)) (restriction k b (function_of arena (child arena.nodes j c f)))
  cofactor c = IsCofactor-front_to v j c (restriction k b (function_of arena f)) (restriction k b (function_of arena (child arena.nodes j c f))) below (λ x sized.
      denotes-front_to v arena.nodes valid.reduced j c f held low_enough below (set x k b)
      ∙ ap (function_of arena f) (moved c x))
    where
      moved : (c : Bool) (x : List Bool) → front_to j c ++ drop (j + 1) (set x k b) ≡ set (front_to j c ++ drop (j + 1) x) k b
      moved c x =
          let rest = k - (j + 1) in
          let whole : k ≡ j + 1 + rest = omega arith in
          ap (λ i. front_to j c ++ drop (j + 1) (set x i b)) whole
          ∙ ap (λ ys. front_to j c ++ ys) (drop-set-add (j + 1) x rest b)
          ∙ sym (set-append_right (front_to j c) (drop (j + 1) x) (j + 1) k b (length-front_to j c) (omega arith))

  value : (x : List Bool) → length x ≡ v → restriction k b (function_of arena f) x ≡ restriction k b (function_of arena (child arena.nodes j (get_or x j false) f)) x
  value x sized =
      denotes-child v arena.nodes valid.reduced j f (set x k b) held low_enough below (length-set x k b ∙ sized)
      ∙ ap (λ c. function_of arena (child arena.nodes j c f) (set x k b)) (get_or-set_other x k j b false (λ same. absurd (omega arith)))

  pub restricted_splits : Splits v j (restriction k b (function_of arena f)) (restriction k b (function_of arena n.low.0)) (restriction k b (function_of arena n.high.0))
  restricted_splits =
      let low_is = child-at arena.nodes j false f n is refl in let high_is = child-at arena.nodes j true f n is refl in
      record {
        low = subst (λ g. IsCofactor v (restriction k b (function_of arena f)) (restriction k b (function_of arena g))) low_is (cofactor false);
        high = subst (λ g. IsCofactor v (restriction k b (function_of arena f)) (restriction k b (function_of arena g))) high_is (cofactor true);
        joins = λ x sized. joined x (get_or x j false) ∙ ap (λ g. restriction k b (function_of arena g) x) (sym (child-at arena.nodes j (get_or x j false) f n is refl)) ∙ sym (value x sized);
      }
    where
      joined : (x : List Bool) (c : Bool) → (if c then restriction k b (function_of arena n.high.0) x else restriction k b (function_of arena n.low.0) x) ≡ restriction k b (function_of arena (if c then n.high.0 else n.low.0)) x
      joined x true = refl
      joined x false = refl

-- ---- the ways out without an inner call

abbrev asked : ℕ → Bool → NodeId → Restriction
asked k b f = record { f = f; variable = k; value = b }

pub makes_result : (arena : ArenaView) (r : Restriction) (g : NodeId) → IsArena arena → IsResult arena (Restrict r) g → MakesRestriction arena arena r (Ok g)
makes_result arena r g valid is = record {
  made = makes_unchanged (2 ^ (r.variable - level_of arena r.f.0) - 1) arena (restriction r.variable r.value (function_of arena r.f.0)) g valid is.node;
  later = is.later;
}

makes_itself : (arena : ArenaView) (r : Restriction) → IsArena arena → Holds arena r.f.0 → r.variable < level_of arena r.f.0 → MakesRestriction arena arena r (Ok r.f)
makes_itself arena r valid held later = makes_result arena r r.f valid (record {
  held = held;
  node = is_node_of arena (restriction r.variable r.value (function_of arena r.f.0)) r.f.0 valid held (λ x sized. sym (restricted-later arena r.variable r.value r.f.0 x later));
  later = omega arith;
})

pub makes_constant : (arena : ArenaView) (r : Restriction) → IsArena arena → Holds arena r.f.0 → node_at arena.nodes r.f.0 ≡ None → r.variable < arena.variables → MakesRestriction arena arena r (Ok r.f)
makes_constant arena r valid held none below = makes_itself arena r valid held (level_is (held_cases arena.nodes r.f.0 held))
  where
    level_is : ((r.f.0 < 2) × (node_at arena.nodes r.f.0 ≡ None)) ⊎ ((n : Node) × (node_at arena.nodes r.f.0 ≡ Some n)) → r.variable < level_of arena r.f.0
    level_is (inl constant) = omega (arith, level_constant arena.variables arena.nodes r.f.0 constant.0 constant.1, below)
    level_is (inr some) = let is = some.1 in absurd (cc)

pub makes_later : (arena : ArenaView) (r : Restriction) (n : Node) → IsArena arena → node_at arena.nodes r.f.0 ≡ Some n → r.variable < n.variable → MakesRestriction arena arena r (Ok r.f)
makes_later arena r n valid is later =
    makes_itself arena r valid (held_at arena.nodes r.f.0 n is) (omega (arith, level_at arena.variables arena.nodes r.f.0 n is))

pub makes_child : (arena : ArenaView) (r : Restriction) (g : NodeId) (n : Node) → IsArena arena → node_at arena.nodes r.f.0 ≡ Some n → n.variable ≡ r.variable → g.0 ≡ (if r.value then n.high.0 else n.low.0) → MakesRestriction arena arena r (Ok g)
makes_child arena r g n valid is same child_is =
    let f = r.f in let k = r.variable in let b = r.value in
    let later : level_of arena f.0 < level_of arena g.0 = subst (λ h. level_of arena f.0 < level_of arena h) (sym child_is) (child_later b) in
    makes_result arena r g valid (record {
      held = held_at arena.nodes f.0 n is;
      node = is_node_of arena (restriction k b (function_of arena f.0)) g.0 valid (held_level arena.variables arena.nodes (level_of arena f.0) g.0 later) (λ x sized.
          ap (λ h. function_of arena h x) child_is ∙ sym (restricted-here arena valid k b f.0 n is same x sized));
      later = omega arith;
    })
  where
    child_later : (c : Bool) → level_of arena r.f.0 < level_of arena (if c then n.high.0 else n.low.0)
    child_later true = omega (arith, valid.reduced.high_later r.f.0 n is, level_at arena.variables arena.nodes r.f.0 n is)
    child_later false = omega (arith, valid.reduced.low_later r.f.0 n is, level_at arena.variables arena.nodes r.f.0 n is)

-- ---- the two inner calls, and then the node

-- f tests a variable before k
pub record TestsEarlier (k : ℕ) (a : ArenaView) (f : NodeId) (n : Node) : Type 0 where
  pub valid : IsArena a
  pub is : node_at a.nodes f.0 ≡ Some n
  pub earlier : n.variable < k

module _ {k : ℕ} {a : ArenaView} {f : NodeId} {n : Node} (b : Bool) (here : TestsEarlier k a f n) where
  abbrev level_f : ℕ
  level_f = level_of a f.0

  abbrev most : ℕ
  most = 2 ^ (k - level_f) - 1

  abbrev low_most : ℕ
  low_most = 2 ^ (k - level_of a n.low.0) - 1

  abbrev whole_function : Function
  whole_function = restriction k b (function_of a f.0)

  abbrev low_function : Function
  low_function = restriction k b (function_of a n.low.0)

  abbrev high_function : Function
  high_function = restriction k b (function_of a n.high.0)

  level_is : level_f ≡ n.variable
  level_is = level_at a.variables a.nodes f.0 n here.is

  tested_below : n.variable < a.variables
  tested_below = here.valid.reduced.variable f.0 n here.is

  low_first : n.variable < level_of a n.low.0
  low_first = here.valid.reduced.low_later f.0 n here.is

  high_first_a : n.variable < level_of a n.high.0
  high_first_a = here.valid.reduced.high_later f.0 n here.is

  pub low_held : Holds a n.low.0
  low_held = held_level a.variables a.nodes n.variable n.low.0 low_first

  high_held_a : Holds a n.high.0
  high_held_a = held_level a.variables a.nodes n.variable n.high.0 high_first_a

  pub low_smaller : 2 * (a.variables - level_of a n.low.0) + 1 < 2 * (a.variables - n.variable)
  low_smaller = omega (arith, low_first, tested_below)

  splits : Splits a.variables n.variable whole_function low_function high_function
  splits = restricted_splits a here.valid k b f.0 n here.is here.earlier

  one_more : (i j : ℕ) → n.variable < i → n.variable < j → (2 ^ (k - i) - 1) + (2 ^ (k - j) - 1) + 1 ≤ most
  one_more i j p q = one_variable_more k level_f i j (omega (arith, level_is, here.earlier)) (omega (arith, level_is)) (omega (arith, level_is))

  pub after_low_fails : {c : ArenaView} {e : DdError} → MakesRestriction a c (asked k b n.low) (Err e) → MakesRestriction a c (asked k b f) (Err e)
  after_low_fails {c} {e} failed = record {
    made = low_fails a n.variable whole_function low_function high_function splits most low_most c e (omega (arith, one_more (level_of a n.low.0) (level_of a n.low.0) low_first low_first)) failed.made;
    later = tt;
  }

  -- after the call for the child at false
  module _ {c : ArenaView} {low : NodeId} (first : MakesRestriction a c (asked k b n.low) (Ok low)) where
    pub high_held : Holds c n.high.0
    high_held = first.made.keeps.held n.high.0 high_held_a

    high_first : n.variable < level_of c n.high.0
    high_first = omega (arith, high_first_a, level_after a c here.valid first.made.arena first.made.keeps n.high.0 high_held_a)

    pub high_smaller : 2 * (c.variables - level_of c n.high.0) + 1 < 2 * (a.variables - n.variable)
    high_smaller = omega (arith, high_first, first.made.keeps.variables, tested_below)

    pub still_below : k < a.variables → k < c.variables
    still_below h = omega (arith, first.made.keeps.variables)

    abbrev high_most : ℕ
    high_most = 2 ^ (k - level_of c n.high.0) - 1

    fits : low_most + high_most + 1 ≤ most
    fits = one_more (level_of a n.low.0) (level_of c n.high.0) low_first high_first

    second_made : (d : ArenaView) (result : Result NodeId DdError) → MakesRestriction c d (asked k b n.high) result → Makes high_most c d high_function result
    second_made d result second = makes_equal high_most c d (restriction k b (function_of c n.high.0)) high_function result
        (λ x sized. first.made.keeps.denotes n.high.0 high_held_a (set x k b) (length-set x k b ∙ sized ∙ first.made.keeps.variables)) second.made

    pub after_high_fails : {d : ArenaView} {e : DdError} → MakesRestriction c d (asked k b n.high) (Err e) → MakesRestriction a d (asked k b f) (Err e)
    after_high_fails {d} {e} failed = record {
      made = high_fails a n.variable whole_function low_function high_function splits most low_most high_most c d low e (omega (arith, fits)) first.made (second_made d (Err e) failed);
      later = tt;
    }

    -- after the call for the child at true
    module _ {d : ArenaView} {high : NodeId} (second : MakesRestriction c d (asked k b n.high) (Ok high)) where
      pub variable_below : n.variable < d.variables
      variable_below = omega (arith, tested_below, first.made.keeps.variables, second.made.keeps.variables)

      pub low_later : n.variable < level_of d low.0
      low_later = omega (arith, low_first, first.later, level_after c d first.made.arena second.made.arena second.made.keeps low.0 first.made.node.held)

      pub high_later : n.variable < level_of d high.0
      high_later = omega (arith, high_first, second.later)

      abbrev last_function : Function
      last_function = if_else (variable_value n.variable) (function_of d high.0) (function_of d low.0)

      node : (e : ArenaView) (result : Result NodeId DdError) → Makes 1 d e last_function result → Makes most a e whole_function result
      node e result last = node_made a n.variable whole_function low_function high_function splits most low_most high_most c d e low high result fits first.made (second_made d (Ok high) second) last

      pub after_node_fails : {e : ArenaView} {error : DdError} → Makes 1 d e last_function (Err error) → MakesRestriction a e (asked k b f) (Err error)
      after_node_fails {e} {error} failed = record { made = node e (Err error) failed; later = tt }

      -- the node is the operation's result
      pub node_is_result : {e : ArenaView} {g : NodeId} → Makes 1 d e last_function (Ok g) → n.variable ≤ level_of e g.0 → IsResult e (Restrict (asked k b f)) g
      node_is_result {e} {g} last later =
          let made = node e (Ok g) last in
          let held_f = held_at a.nodes f.0 n here.is in
          let still : level_of e f.0 ≡ level_f = level_after a e here.valid made.arena made.keeps f.0 held_f in
          record {
            held = made.keeps.held f.0 held_f;
            node = IsNodeOf-equal e whole_function (restriction k b (function_of e f.0)) g.0 (λ x sized. sym (made.keeps.denotes f.0 held_f (set x k b) (length-set x k b ∙ sized ∙ made.keeps.variables))) made.node;
            later = omega (arith, later, still, level_is);
          }

      -- after the node was made
      pub after_node : {e : ArenaView} {g : NodeId} → Makes 1 d e last_function (Ok g) → n.variable ≤ level_of e g.0 → MakesRestriction a e (asked k b f) (Ok g)
      after_node {e} {g} last later = record { made = node e (Ok g) last; later = omega (arith, later, level_is) }

-- the bounds of the whole call
pub makes_few : {old new : ArenaView} {r : Restriction} {result : Result NodeId DdError} → r.variable < old.variables → MakesRestriction old new r result → Makes (2 ^ (old.variables + 1)) old new (restriction r.variable r.value (function_of old r.f.0)) result
makes_few {old} {new} {r} {result} below m =
    let p : 2 ^ (r.variable - level_of old r.f.0) ≤ 2 ^ (old.variables + 1) = pow_mono (omega arith) in
    makes_within (2 ^ (r.variable - level_of old r.f.0) - 1) (2 ^ (old.variables + 1)) old new (restriction r.variable r.value (function_of old r.f.0)) result (omega (arith, p)) m.made

pub makes_fewer : {old new : ArenaView} {r : Restriction} {result : Result NodeId DdError} → MakesRestriction old new r result → node_count new.nodes < node_count old.nodes + 2 ^ r.variable
makes_fewer {old} {new} {r} {result} m =
    let p : 2 ^ (r.variable - level_of old r.f.0) ≤ 2 ^ r.variable = pow_mono (omega arith) in
    omega (arith, m.made.few, p, pow_pos (r.variable - level_of old r.f.0))
