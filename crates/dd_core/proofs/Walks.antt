-- How a walk goes on from a node, and where it stays. Source: Bryant 1986.
use Rattle.std.proofs.Common.{◌≡◌, ◌≢◌, ℕ, zero, suc, ◌+◌, ◌<◌, ◌≤◌, List, [], ◌∷◌, Option, Some, None, Bool, true, false, ◌||◌, if◌then◌else◌, nat_eq, nat_lt, is_some, length, drop, get_or, refl, sym, ap, ◌∙◌, subst, inl, inr, ◌⊎◌, arith, add-zero}
use Rattle.std.proofs.lemmas.Bool.{cases_lt, cases_eq}
use Rattle.std.proofs.lemmas.Bool.Decides.{nat_tests}
use Rattle.std.proofs.lemmas.List.{drop_more}
use Rattle.dd_core.specs.declared.nodes.Node.{Node}
use Rattle.dd_core.specs.Diagrams.{Nodes, node_at, after, walk, denotes, level_as, level, IsReduced, is_held}

-- f tests no variable below k
abbrev pub TestsFrom : Nodes → ℕ → ℕ → Type 0
TestsFrom nodes k f = (n : Node) → node_at nodes f ≡ Some n → k ≤ n.variable

-- where the walk stands after variable k
abbrev pub child : Nodes → ℕ → Bool → ℕ → ℕ
child nodes k b f = after k b f (node_at nodes f)

option_cases : (o : Option Node) → (o ≡ None) ⊎ ((n : Node) × (o ≡ Some n))
option_cases None = inl refl
option_cases (Some n) = inr (n, refl)

or_true : (b : Bool) → (b || true) ≡ true
or_true true = refl
or_true false = refl

or_false : (b : Bool) → (b || false) ≡ b
or_false true = refl
or_false false = refl

-- a node that is held is a constant or tests a variable
pub held_cases : (nodes : Nodes) (f : ℕ) → is_held nodes f ≡ true → ((f < 2) × (node_at nodes f ≡ None)) ⊎ ((n : Node) × (node_at nodes f ≡ Some n))
held_cases nodes f h =
    elim (option_cases (node_at nodes f)) [
      | inl none ↦
          let two : nat_lt f 2 ≡ true = sym (or_false (nat_lt f 2)) ∙ ap (λ o. nat_lt f 2 || is_some o) (sym none) ∙ h in
          inl (grind (arith, nat_tests), none)
      | inr some ↦ inr some
    ]

pub held_at : (nodes : Nodes) (f : ℕ) (n : Node) → node_at nodes f ≡ Some n → is_held nodes f ≡ true
held_at nodes f n is = ap (λ o. nat_lt f 2 || is_some o) is ∙ or_true (nat_lt f 2)

pub held_constant : (nodes : Nodes) (f : ℕ) → f < 2 → is_held nodes f ≡ true
held_constant nodes f h =
    let two : nat_lt f 2 ≡ true = grind (arith, nat_tests) in
    ap (λ b. b || is_some (node_at nodes f)) two

-- a free place has the level 0
pub held_level : (v : ℕ) (nodes : Nodes) (k f : ℕ) → k < level v nodes f → is_held nodes f ≡ true
held_level v nodes k f h =
    elim (option_cases (node_at nodes f)) [
      | inl none ↦
          let at_none : k < level_as v f None = subst (λ o. k < level_as v f o) none h in
          elim (cases_lt f 2) [ inl low ↦ held_constant nodes f low | inr high ↦ absurd (no_level high at_none) ]
      | inr some ↦ held_at nodes f some.0 some.1
    ]
  where
    no_level : 2 ≤ f → k < level_as v f None → ⊥
    no_level high at_none =
        let no : nat_lt f 2 ≡ false = grind (arith, nat_tests) in
        let zero_is : level_as v f None ≡ 0 = ap (λ b. if b then v else 0) no in
        omega (arith, zero_is)

pub level_at : (v : ℕ) (nodes : Nodes) (f : ℕ) (n : Node) → node_at nodes f ≡ Some n → level v nodes f ≡ n.variable
level_at v nodes f n is = ap (level_as v f) is

pub level_constant : (v : ℕ) (nodes : Nodes) (f : ℕ) → f < 2 → node_at nodes f ≡ None → level v nodes f ≡ v
level_constant v nodes f h none =
    let two : nat_lt f 2 ≡ true = grind (arith, nat_tests) in
    ap (level_as v f) none ∙ ap (λ b. if b then v else 0) two

pub tests_from_level : (v : ℕ) (nodes : Nodes) (k f : ℕ) → k ≤ level v nodes f → TestsFrom nodes k f
tests_from_level v nodes k f h n is = omega (arith, h, level_at v nodes f n is)

after-other : (k : ℕ) (b : Bool) (f : ℕ) (o : Option Node) → ((n : Node) → o ≡ Some n → n.variable ≢ k) → after k b f o ≡ f
after-other k b f None h = refl
after-other k b f (Some n) h =
    let other : n.variable ≢ k = h n refl in
    let no : nat_eq n.variable k ≡ false = grind (arith, nat_tests) in
    rw no

-- a node that doesn't test variable k stays where it is there
pub child-other : (nodes : Nodes) (k : ℕ) (b : Bool) (f : ℕ) → ((n : Node) → node_at nodes f ≡ Some n → n.variable ≢ k) → child nodes k b f ≡ f
child-other nodes k b f h = after-other k b f (node_at nodes f) h

pub child-at : (nodes : Nodes) (k : ℕ) (b : Bool) (f : ℕ) (n : Node) → node_at nodes f ≡ Some n → n.variable ≡ k → child nodes k b f ≡ (if b then n.high.0 else n.low.0)
child-at nodes k b f n is same =
    let yes : nat_eq n.variable k ≡ true = grind (arith, nat_tests) in
    ap (after k b f) is ∙ ap (λ t. if t then (if b then n.high.0 else n.low.0) else f) yes

-- a node that tests no variable from k up to k + d stays where it is
pub walk-skip : (nodes : Nodes) (d k f : ℕ) (x : List Bool) → TestsFrom nodes (k + d) f → walk nodes k f x ≡ walk nodes (k + d) f (drop d x)
walk-skip nodes zero k f x later = rw (add-zero)
walk-skip nodes (suc d) k f [] later = refl
walk-skip nodes (suc d) k f (b ∷ x) later =
    let stays : child nodes k b f ≡ f = child-other nodes k b f (λ n e. λ same. absurd (omega (arith, later n e))) in
    let move : k + 1 + d ≡ k + suc d = omega arith in
    ap (λ g. walk nodes (k + 1) g x) stays
    ∙ walk-skip nodes d (k + 1) f x (λ n e. omega (arith, later n e))
    ∙ ap (λ j. walk nodes j f (drop d x)) move

-- a walk ends at a constant at once
pub walk-constant : (nodes : Nodes) (k f : ℕ) (x : List Bool) → node_at nodes f ≡ None → walk nodes k f x ≡ nat_eq f 1
walk-constant nodes k f [] none = refl
walk-constant nodes k f (b ∷ x) none = ap (λ g. walk nodes (k + 1) g x) (ap (after k b f) none) ∙ walk-constant nodes (k + 1) f x none

-- from the first variable on
pub denotes-skip : (nodes : Nodes) (k f : ℕ) (x : List Bool) → TestsFrom nodes k f → denotes nodes f x ≡ walk nodes k f (drop k x)
denotes-skip nodes k f x later =
    let move : 0 + k ≡ k = omega arith in
    walk-skip nodes k 0 f x (λ n e. omega (arith, later n e)) ∙ ap (λ j. walk nodes j f (drop k x)) move

module _ (v : ℕ) (nodes : Nodes) (r : IsReduced v nodes) where
  -- a held node's children test later variables
  pub child-later : (k : ℕ) (b : Bool) (f : ℕ) → is_held nodes f ≡ true → k ≤ level v nodes f → k < v → k < level v nodes (child nodes k b f)
  child-later k b f h low below =
      elim (held_cases nodes f h) [
        | inl none ↦
            let same : child nodes k b f ≡ f = ap (after k b f) none.1 in
            subst (λ g. k < level v nodes g) (sym same) (omega (arith, level_constant v nodes f none.0 none.1))
        | inr some ↦ elim (cases_eq some.0.variable k) [
          | inl same ↦ subst (λ g. k < level v nodes g) (sym (child-at nodes k b f some.0 some.1 same)) (of_branch b some.0 some.1 same)
          | inr other ↦
              let stays : child nodes k b f ≡ f = child-other nodes k b f (λ n is e. absurd (differs some.0 n some.1 is other e)) in
              subst (λ g. k < level v nodes g) (sym stays) (omega (arith, level_at v nodes f some.0 some.1))
        ]
      ]
    where
      of_branch : (c : Bool) (n : Node) → node_at nodes f ≡ Some n → n.variable ≡ k → k < level v nodes (if c then n.high.0 else n.low.0)
      of_branch true n is same = omega (arith, r.high_later f n is)
      of_branch false n is same = omega (arith, r.low_later f n is)

      differs : (m n : Node) → node_at nodes f ≡ Some m → node_at nodes f ≡ Some n → m.variable ≢ k → n.variable ≡ k → ⊥
      differs m n is_m is_n other same =
          let e : m ≡ n = cc in
          other (ap (λ (x : Node). x.variable) e ∙ same)

  pub child-held : (k : ℕ) (b : Bool) (f : ℕ) → is_held nodes f ≡ true → k ≤ level v nodes f → k < v → is_held nodes (child nodes k b f) ≡ true
  child-held k b f h low below = held_level v nodes k (child nodes k b f) (child-later k b f h low below)

  -- one step of the walk: the function of f is that of the child by the value of variable k
  pub denotes-child : (k f : ℕ) (x : List Bool) → is_held nodes f ≡ true → k ≤ level v nodes f → k < v → length x ≡ v → denotes nodes f x ≡ denotes nodes (child nodes k (get_or x k false) f) x
  denotes-child k f x h low below sized =
      let b = get_or x k false in
      let later = child-later k b f h low below in
      let move : drop k x ≡ b ∷ drop (k + 1) x = drop_more x k false (omega arith) in
      denotes-skip nodes k f x (tests_from_level v nodes k f low)
      ∙ ap (walk nodes k f) move
      ∙ sym (denotes-skip nodes (k + 1) (child nodes k b f) x (tests_from_level v nodes (k + 1) (child nodes k b f) (omega (arith, later))))
