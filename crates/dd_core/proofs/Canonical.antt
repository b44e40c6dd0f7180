-- Nodes that denote one function are one node. Source: Bryant 1986.
use Rattle.std.proofs.Common.{◌≡◌, ℕ, zero, suc, ◌+◌, ◌<◌, ◌≤◌, List, [], ◌∷◌, Option, Some, None, Bool, true, false, nat_eq, length, refl, sym, ap, ◌∙◌, inl, inr, ◌⊎◌, arith}
use Rattle.std.proofs.lemmas.Bool.{cases_eq}
use Rattle.std.proofs.lemmas.Bool.Decides.{nat_tests}
use Rattle.dd_core.specs.declared.nodes.Node.{Node}
use Rattle.dd_core.specs.Functions.{AreEqual}
use Rattle.dd_core.specs.Diagrams.{Nodes, node_at, walk, denotes, level, IsReduced, is_held}
use Rattle.dd_core.proofs.Walks.{child, held_cases, level_at, child-at, child-other, child-later, child-held}

abbrev triple : ℕ → ℕ → ℕ → Node
triple k low high = record { variable = k; low = record { 0 = low }; high = record { 0 = high } }

pub one_triple : (m n : Node) → m.variable ≡ n.variable → m.low.0 ≡ n.low.0 → m.high.0 ≡ n.high.0 → m ≡ n
one_triple m n p q s =
    ap (λ a. triple a m.low.0 m.high.0) p ∙ ap (λ b. triple n.variable b m.high.0) q ∙ ap (λ c. triple n.variable n.low.0 c) s

module _ (v : ℕ) (nodes : Nodes) (r : IsReduced v nodes) where
  abbrev Stays : ℕ → ℕ → Type 0
  Stays k f = (b : Bool) → child nodes k b f ≡ f

  abbrev Tests : ℕ → ℕ → Type 0
  Tests k f = (n : Node) × (node_at nodes f ≡ Some n) × (n.variable ≡ k)

  none_is_not_some : (n : Node) → None ≡ Some n → ⊥
  none_is_not_some n e = cc

  same_node : (m n : Node) (o : Option Node) → o ≡ Some m → o ≡ Some n → m ≡ n
  same_node m n o p q = cc

  -- at variable k the walk stays at f, or f tests k
  goes_on : (k f : ℕ) → is_held nodes f ≡ true → Stays k f ⊎ Tests k f
  goes_on k f h =
      elim (held_cases nodes f h) [
        | inl none ↦ inl (λ b. child-other nodes k b f (λ n is. absurd (none_is_not_some n (sym none.1 ∙ is))))
        | inr some ↦ elim (cases_eq some.0.variable k) [
          | inl same ↦ inr (some.0, some.1, same)
          | inr other ↦ inl (λ b. child-other nodes k b f (λ n is same. other (ap (λ (x : Node). x.variable) (same_node some.0 n (node_at nodes f) some.1 is) ∙ same)))
        ]
      ]

  stays_or_differs : (k f g : ℕ) → Stays k f → (n : Node) → node_at nodes g ≡ Some n → n.variable ≡ k → ((b : Bool) → child nodes k b f ≡ child nodes k b g) → ⊥
  stays_or_differs k f g stays n is same equal =
      r.different g n is
      (sym (child-at nodes k false g n is same) ∙ sym (equal false) ∙ stays false ∙ sym (stays true) ∙ equal true ∙ child-at nodes k true g n is same)

  -- nodes that go on alike at variable k are one
  from_children : (k f g : ℕ) → is_held nodes f ≡ true → is_held nodes g ≡ true → ((b : Bool) → child nodes k b f ≡ child nodes k b g) → f ≡ g
  from_children k f g hf hg equal =
      elim (goes_on k f hf) [
        | inl stays_f ↦ elim (goes_on k g hg) [
          | inl stays_g ↦ sym (stays_f true) ∙ equal true ∙ stays_g true
          | inr tests_g ↦ absurd (stays_or_differs k f g stays_f tests_g.0 tests_g.1 tests_g.2 equal)
        ]
        | inr tests_f ↦ elim (goes_on k g hg) [
          | inl stays_g ↦ absurd (stays_or_differs k g f stays_g tests_f.0 tests_f.1 tests_f.2 (λ b. sym (equal b)))
          | inr tests_g ↦
              let low : tests_f.0.low.0 ≡ tests_g.0.low.0 = sym (child-at nodes k false f tests_f.0 tests_f.1 tests_f.2) ∙ equal false ∙ child-at nodes k false g tests_g.0 tests_g.1 tests_g.2 in
              let high : tests_f.0.high.0 ≡ tests_g.0.high.0 = sym (child-at nodes k true f tests_f.0 tests_f.1 tests_f.2) ∙ equal true ∙ child-at nodes k true g tests_g.0 tests_g.1 tests_g.2 in
              let one : tests_g.0 ≡ tests_f.0 = sym (one_triple tests_f.0 tests_g.0 (tests_f.2 ∙ sym tests_g.2) low high) in
              r.once f g tests_f.0 tests_f.1 (tests_g.1 ∙ ap Some one)
        ]
      ]

  -- past the last variable only constants are left
  constant_at_end : (f : ℕ) → is_held nodes f ≡ true → v ≤ level v nodes f → f < 2
  constant_at_end f h low =
      elim (held_cases nodes f h) [
        | inl none ↦ none.0
        | inr some ↦ absurd (omega (arith, r.variable f some.0 some.1, level_at v nodes f some.0 some.1))
      ]

  constants_differ : (f g : ℕ) → f < 2 → g < 2 → nat_eq f 1 ≡ nat_eq g 1 → f ≡ g
  constants_differ f g hf hg same = grind (arith, nat_tests)

  -- equal from variable k on, with d variables left
  same_from : (d k f g : ℕ) → k + d ≡ v → is_held nodes f ≡ true → is_held nodes g ≡ true → k ≤ level v nodes f → k ≤ level v nodes g
      → ((x : List Bool) → length x ≡ d → walk nodes k f x ≡ walk nodes k g x) → f ≡ g
  same_from zero k f g at hf hg lf lg equal =
      constants_differ f g (constant_at_end f hf (omega arith)) (constant_at_end g hg (omega arith)) (equal [] refl)
  same_from (suc d) k f g at hf hg lf lg equal =
      from_children k f g hf hg (λ b.
      same_from d (k + 1) (child nodes k b f) (child nodes k b g) (omega arith)
      (child-held v nodes r k b f hf lf (omega arith)) (child-held v nodes r k b g hg lg (omega arith))
      (omega (arith, child-later v nodes r k b f hf lf (omega arith))) (omega (arith, child-later v nodes r k b g hg lg (omega arith)))
      (λ x sized. equal (b ∷ x) (ap suc sized)))

  -- Reduced diagrams are canonical: held nodes with equal functions are one node.
  pub canonical : (f g : ℕ) → is_held nodes f ≡ true → is_held nodes g ≡ true → AreEqual v (denotes nodes f) (denotes nodes g) → f ≡ g
  canonical f g hf hg equal = same_from v 0 f g (omega arith) hf hg (omega arith) (omega arith) equal
