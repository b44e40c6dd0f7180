-- The plain list of nodes, whose ids begin at 2.
use Rattle.std.proofs.Common.{◌≡◌, ℕ, zero, suc, ◌+◌, ◌-◌, ◌<◌, ◌≤◌, List, [], ◌∷◌, Some, None, true, false, ◌||◌, nat_lt, is_some, length, map, get_or, refl, sym, ap, ◌∙◌, inl, inr, arith}
use Rattle.std.specs.List.{slice_get}
use Rattle.std.proofs.lemmas.Bool.{cases_lt}
use Rattle.std.proofs.lemmas.Bool.Decides.{nat_tests}
use Rattle.std.proofs.lemmas.Grind.{common_steps}
use Rattle.dd_core.specs.declared.nodes.Node.{Node}
use Rattle.dd_core.specs.Diagrams.{node_at, node_count, triple_count, is_held}
use Rattle.dd_core.specs.inner.Adding.{in_turn}

pub triple_count-map : (xs : List Node) → triple_count (map Some xs) ≡ length xs
triple_count-map [] = refl
triple_count-map (x ∷ xs) = ap (λ n. n + 1) (triple_count-map xs) ∙ omega arith

pub node_at-map : (xs : List Node) (k : ℕ) → get_or (map Some xs) k None ≡ slice_get xs k
node_at-map [] k = refl
node_at-map (x ∷ xs) zero = refl
node_at-map (x ∷ xs) (suc k) = node_at-map xs k

pub node_count-in_turn : (v most : ℕ) (xs : List Node) → node_count (in_turn v most xs).nodes ≡ length xs + 2
node_count-in_turn v most xs = ap (λ n. n + 2) (triple_count-map xs)

pub node_at-constant : (v most f : ℕ) (xs : List Node) → f < 2 → node_at (in_turn v most xs).nodes f ≡ None
node_at-constant v most zero xs h = refl
node_at-constant v most (suc zero) xs h = refl
node_at-constant v most (suc (suc f)) xs h = absurd (omega arith)

pub node_at-in_turn : (v most f : ℕ) (xs : List Node) → 2 ≤ f → node_at (in_turn v most xs).nodes f ≡ slice_get xs (f - 2)
node_at-in_turn v most zero xs h = absurd (omega arith)
node_at-in_turn v most (suc zero) xs h = absurd (omega arith)
node_at-in_turn v most (suc (suc f)) xs h =
    let e : suc (suc f) - 2 ≡ f = omega arith in
    node_at-map xs f ∙ ap (slice_get xs) (sym e)

some-slice_get : (xs : List Node) (k : ℕ) → is_some (slice_get xs k) ≡ nat_lt k (length xs)
some-slice_get [] k = let no : nat_lt k 0 ≡ false = grind (arith, nat_tests) in sym no
some-slice_get (x ∷ xs) zero = let yes : nat_lt 0 (suc (length xs)) ≡ true = grind (arith, nat_tests) in sym yes
some-slice_get (x ∷ xs) (suc k) = some-slice_get xs k ∙ shift k (length xs)
  where
    shift : (k n : ℕ) → nat_lt k n ≡ nat_lt (suc k) (suc n)
    shift k n = elim (cases_lt k n) [
      | inl below ↦ grind (arith, nat_tests)
      | inr above ↦ grind (arith, nat_tests)
    ]

-- the ids held are those below the number of nodes
pub is_held-in_turn : (v most : ℕ) (xs : List Node) (f : ℕ) → is_held (in_turn v most xs).nodes f ≡ nat_lt f (node_count (in_turn v most xs).nodes)
is_held-in_turn v most xs f =
    elim (cases_lt f 2) [
      | inl low ↦ grind (arith, nat_tests)
      | inr high ↦ of_place high
    ]
  where
    of_place : 2 ≤ f → is_held (in_turn v most xs).nodes f ≡ nat_lt f (node_count (in_turn v most xs).nodes)
    of_place high =
        let no : nat_lt f 2 ≡ false = grind (arith, nat_tests) in
        let shift : nat_lt (f - 2) (length xs) ≡ nat_lt f (length xs + 2) = moved f (length xs) high in
        ap (λ b. b || is_some (node_at (in_turn v most xs).nodes f)) no
        ∙ ap is_some (node_at-in_turn v most f xs high) ∙ some-slice_get xs (f - 2) ∙ shift
        ∙ ap (nat_lt f) (sym (node_count-in_turn v most xs))
      where
        moved : (f n : ℕ) → 2 ≤ f → nat_lt (f - 2) n ≡ nat_lt f (n + 2)
        moved f n h = elim (cases_lt f (n + 2)) [
          | inl below ↦ grind (arith, nat_tests)
          | inr above ↦ grind (arith, nat_tests)
        ]

pub ruleset in_turn_steps = (common_steps, triple_count-map, node_count-in_turn, node_at-constant, node_at-in_turn, is_held-in_turn)
