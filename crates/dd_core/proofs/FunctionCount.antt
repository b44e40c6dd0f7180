-- There are 2 ^ 2 ^ v functions of v variables, and each node of an arena is another one. Source: this project.
use Rattle.std.proofs.Common.{◌≡◌, ◌≢◌, ℕ, zero, suc, ◌+◌, ◌*◌, ◌^◌, ◌/◌, ◌%◌, ◌<◌, List, [], ◌∷◌, Some, None, Bool, true, false, ◌||◌, if◌then◌else◌, nat_eq, nat_lt, is_some, slice_index_or, length, refl, sym, ap, subst, ◌∙◌, inl, inr, arith}
use Rattle.std.specs.List.{AllByRecursion, list_any, IsDistinct}
use Rattle.std.proofs.lemmas.Bool.{or_cases}
use Rattle.std.proofs.lemmas.Bool.Decides.{nat_tests}
use Rattle.std.proofs.lemmas.Map.Steps.{length-le_from_distinct_below}
use Rattle.std.proofs.lemmas.Nat.{div-mul-add, mod-mul-add, mul-add-lt, pow-add}
use Rattle.dd_core.specs.Functions.{Function, AreEqual}
use Rattle.dd_core.specs.Diagrams.{Nodes, node_at, triple_count}
use Rattle.dd_core.specs.Arenas.{ArenaView, IsArena, Holds, function_of, IsFull, LacksFunction}
use Rattle.dd_core.proofs.Canonical.{canonical}

-- the truth table of a function, as a number
abbrev table : ℕ → Function → ℕ
table zero g = if g [] then 1 else 0
table (suc v) g = table v (λ x. g (false ∷ x)) * 2 ^ 2 ^ v + table v (λ x. g (true ∷ x))

bit-small : (b : Bool) → (if b then 1 else 0) < 2
bit-small true = omega arith
bit-small false = omega arith

twice : (v : ℕ) → 2 ^ 2 ^ suc v ≡ 2 ^ 2 ^ v * 2 ^ 2 ^ v
twice v = let e : 2 ^ suc v ≡ 2 ^ v + 2 ^ v = omega arith in ap (λ n. 2 ^ n) e ∙ pow-add 2 (2 ^ v) (2 ^ v)

table-small : (v : ℕ) (g : Function) → table v g < 2 ^ 2 ^ v
table-small zero g = bit-small (g [])
table-small (suc v) g = subst (λ n. table (suc v) g < n) (sym (twice v)) (mul-add-lt (table v (λ x. g (false ∷ x))) (2 ^ 2 ^ v) (table v (λ x. g (true ∷ x))) (2 ^ 2 ^ v) (table-small v (λ x. g (false ∷ x))) (table-small v (λ x. g (true ∷ x))))

abbrev bit : Bool → ℕ
bit b = if b then 1 else 0

bit-tells : (a b : Bool) → bit a ≡ bit b → a ≡ b
bit-tells true true e = refl
bit-tells false false e = refl
bit-tells true false e = absurd (omega (arith, e))
bit-tells false true e = absurd (omega (arith, e))

-- functions with one table are equal
table-tells : (v : ℕ) (g h : Function) → table v g ≡ table v h → AreEqual v g h
table-tells zero g h e [] sized = bit-tells (g []) (h []) e
table-tells zero g h e (b ∷ x) sized = absurd (omega (arith, sized))
table-tells (suc v) g h e [] sized = absurd (omega (arith, sized))
table-tells (suc v) g h e (false ∷ x) sized =
    table-tells v (λ x. g (false ∷ x)) (λ x. h (false ∷ x))
    (sym (div-mul-add (table v (λ x. g (false ∷ x))) (2 ^ 2 ^ v) (table v (λ x. g (true ∷ x))) (table-small v (λ x. g (true ∷ x))))
    ∙ ap (λ n. n / 2 ^ 2 ^ v) e
    ∙ div-mul-add (table v (λ x. h (false ∷ x))) (2 ^ 2 ^ v) (table v (λ x. h (true ∷ x))) (table-small v (λ x. h (true ∷ x))))
    x (omega (arith, sized))
table-tells (suc v) g h e (true ∷ x) sized =
    table-tells v (λ x. g (true ∷ x)) (λ x. h (true ∷ x))
    (sym (mod-mul-add (table v (λ x. g (false ∷ x))) (2 ^ 2 ^ v) (table v (λ x. g (true ∷ x))) (table-small v (λ x. g (true ∷ x))))
    ∙ ap (λ n. n % 2 ^ 2 ^ v) e
    ∙ mod-mul-add (table v (λ x. h (false ∷ x))) (2 ^ 2 ^ v) (table v (λ x. h (true ∷ x))) (table-small v (λ x. h (true ∷ x))))
    x (omega (arith, sized))

-- the numbers of the nodes that are held, where these nodes stand from place k on
module _ (number : ℕ → ℕ) where
  abbrev numbers_from : ℕ → Nodes → List ℕ
  numbers_from k [] = []
  numbers_from k (None ∷ nodes) = numbers_from (suc k) nodes
  numbers_from k (Some n ∷ nodes) = number k ∷ numbers_from (suc k) nodes

  numbers-sized : (k : ℕ) (nodes : Nodes) → length (numbers_from k nodes) ≡ triple_count nodes
  numbers-sized k [] = refl
  numbers-sized k (None ∷ nodes) = numbers-sized (suc k) nodes
  numbers-sized k (Some n ∷ nodes) = let e = numbers-sized (suc k) nodes in omega (arith, e)

  abbrev StandsAt : Nodes → ℕ → Type 0
  StandsAt nodes i = is_some (slice_index_or nodes i None) ≡ true

  differ : (a b : ℕ) → a ≢ b → nat_eq a b ≡ false
  differ a b h = grind (arith, nat_tests)

  apart : (a k : ℕ) (nodes : Nodes) → ((i : ℕ) → StandsAt nodes i → a ≢ number (k + i)) → AllByRecursion (λ y. nat_eq a y ≡ false) (numbers_from k nodes)
  apart a k [] h = tt
  apart a k (None ∷ nodes) h = apart a (suc k) nodes (λ i some. subst (λ j. a ≢ number j) (omega arith) (h (suc i) some))
  apart a k (Some n ∷ nodes) h = (
    differ a (number k) (subst (λ j. a ≢ number j) (omega arith) (h 0 refl)),
    apart a (suc k) nodes (λ i some. subst (λ j. a ≢ number j) (omega arith) (h (suc i) some)),
  )

  all_apart : (k : ℕ) (nodes : Nodes) → ((i j : ℕ) → StandsAt nodes i → StandsAt nodes j → number (k + i) ≡ number (k + j) → i ≡ j) → IsDistinct nat_eq (numbers_from k nodes)
  unfolding IsDistinct
  all_apart k [] h = tt
  all_apart k (None ∷ nodes) h = all_apart (suc k) nodes (λ i j si sj e. let r = h (suc i) (suc j) si sj (ap number (omega arith) ∙ e ∙ ap number (omega arith)) in omega (arith, r))
  all_apart k (Some n ∷ nodes) h = (
    apart (number k) (suc k) nodes (λ i some e. let r = h 0 (suc i) refl some (ap number (omega arith) ∙ e ∙ ap number (omega arith)) in absurd (omega (arith, r))),
    all_apart (suc k) nodes (λ i j si sj e. let r = h (suc i) (suc j) si sj (ap number (omega arith) ∙ e ∙ ap number (omega arith)) in omega (arith, r)),
  )

  equal_tells : (a b : ℕ) → nat_eq a b ≡ true → a ≡ b
  equal_tells a b h = grind (arith, nat_tests)

  all_below : (most k : ℕ) (nodes : Nodes) → ((f : ℕ) → number f < most) → (q : ℕ) → list_any (nat_eq q) (numbers_from k nodes) ≡ true → q < most
  all_below most k [] h q is = absurd (never is)
    where
      never : false ≡ true → ⊥
      never e = cc
  all_below most k (None ∷ nodes) h q is = all_below most (suc k) nodes h q is
  all_below most k (Some n ∷ nodes) h q is = elim (or_cases (nat_eq q (number k)) (list_any (nat_eq q) (numbers_from (suc k) nodes)) is) [
    | inl here ↦ subst (λ n. n < most) (sym (equal_tells q (number k) here)) (h k)
    | inr later ↦ all_below most (suc k) nodes h q later
  ]

cons_below : (most a : ℕ) (xs : List ℕ) → a < most → ((q : ℕ) → list_any (nat_eq q) xs ≡ true → q < most) → (q : ℕ) → list_any (nat_eq q) (a ∷ xs) ≡ true → q < most
cons_below most a xs small h q is = elim (or_cases (nat_eq q a) (list_any (nat_eq q) xs) is) [
  | inl here ↦ subst (λ n. n < most) (sym (same q a here)) small
  | inr later ↦ h q later
]
  where
    same : (a b : ℕ) → nat_eq a b ≡ true → a ≡ b
    same a b h = grind (arith, nat_tests)

-- So an arena that holds as many nodes as it may, and not all functions, may hold fewer than there are functions.
module _ (arena : ArenaView) (valid : IsArena arena) where
  abbrev number : ℕ → ℕ
  number f = table arena.variables (function_of arena f)

  one_node : (f g : ℕ) → Holds arena f → Holds arena g → number f ≡ number g → f ≡ g
  one_node f g hf hg e = canonical arena.variables arena.nodes valid.reduced f g hf hg (table-tells arena.variables (function_of arena f) (function_of arena g) e)

  held_constant : (f : ℕ) → f < 2 → Holds arena f
  held_constant f small = grind (arith, nat_tests)

  held_node : (f : ℕ) → is_some (node_at arena.nodes f) ≡ true → Holds arena f
  held_node f some = rw some (or-true (nat_lt f 2))
    where
      or-true : (b : Bool) → (b || true) ≡ true
      or-true true = refl
      or-true false = refl

  not_first : (f : ℕ) → is_some (node_at arena.nodes f) ≡ true → (f ≢ 0) × (f ≢ 1)
  not_first f some = ((λ e. none f 0 e valid.reduced.no_false some), (λ e. none f 1 e valid.reduced.no_true some))
    where
      none : (f g : ℕ) → f ≡ g → node_at arena.nodes g ≡ None → is_some (node_at arena.nodes f) ≡ true → ⊥
      none f g e n some = let s : is_some (node_at arena.nodes g) ≡ true = subst (λ h. is_some (node_at arena.nodes h) ≡ true) e some in cc

  pub fewer : IsFull arena → LacksFunction arena → arena.budget < 2 ^ 2 ^ arena.variables
  unfolding IsDistinct
  fewer full lacks =
      let most : ℕ = 2 ^ 2 ^ arena.variables in
      let small : (g : Function) → table arena.variables g < most = table-small arena.variables in
      let missing : ℕ = table arena.variables lacks.function in
      let nodes : List ℕ = numbers_from number 0 arena.nodes in
      let at : (i : ℕ) → number (0 + i) ≡ number i = λ i. ap number (omega arith) in
      let other : (f : ℕ) → Holds arena f → missing ≢ number f = λ f held e. lacks.lacks (record { node = f; held = held; equal = λ x sized. sym (table-tells arena.variables lacks.function (function_of arena f) e x sized) }) in
      let zero_one : number 0 ≢ number 1 = λ e. let r = one_node 0 1 (held_constant 0 (omega arith)) (held_constant 1 (omega arith)) e in omega (arith, r) in
      let all : List ℕ = missing ∷ number 0 ∷ number 1 ∷ nodes in
      let distinct : IsDistinct nat_eq all = (
        (differ number missing (number 0) (other 0 (held_constant 0 (omega arith))), (differ number missing (number 1) (other 1 (held_constant 1 (omega arith))), apart number missing 0 arena.nodes (λ i some e. other i (held_node i some) (e ∙ at i)))),
        (
          (differ number (number 0) (number 1) zero_one, apart number (number 0) 0 arena.nodes (λ i some e. (not_first i some).0 (sym (one_node 0 i (held_constant 0 (omega arith)) (held_node i some) (e ∙ at i))))),
          (
            apart number (number 1) 0 arena.nodes (λ i some e. (not_first i some).1 (sym (one_node 1 i (held_constant 1 (omega arith)) (held_node i some) (e ∙ at i)))),
            all_apart number 0 arena.nodes (λ i j si sj e. one_node i j (held_node i si) (held_node j sj) (sym (at i) ∙ e ∙ at j)),
          ),
        ),
      ) in
      let below : (q : ℕ) → list_any (nat_eq q) all ≡ true → q < 2 ^ 2 ^ arena.variables = cons_below most missing (number 0 ∷ number 1 ∷ nodes) (small lacks.function) (cons_below most (number 0) (number 1 ∷ nodes) (small (function_of arena 0)) (cons_below most (number 1) nodes (small (function_of arena 1)) (all_below number most 0 arena.nodes (λ f. small (function_of arena f))))) in
      let few = length-le_from_distinct_below all (2 ^ 2 ^ arena.variables) distinct below in
      let sized = numbers-sized number 0 arena.nodes in
      omega (arith, few, sized, full)
