-- The nodes of an arena are branches.
use Rattle.std.proofs.Common.{◌≡◌, ℕ, zero, suc, ◌+◌, ◌<◌, ◌≤◌, List, [], ◌∷◌, ◌++◌, Option, Some, None, Bool, true, false, cond, nat_eq, refl, sym, ap, ◌∙◌, ◌⊎◌, inl, inr, subst, arith, length, take, set, get_or, length-append, append_assoc}
use Rattle.std.specs.Prelude.{IsSome, is_some}
use Rattle.std.specs.List.{slice_get}
use Rattle.std.proofs.lemmas.Bool.{cases_lt, cases_eq}
use Rattle.std.proofs.lemmas.List.{ext_get_or, get_or-take, get_or-set_same, get_or-set_other, length-set, length-take-le, take-set-le, set-get_or, get_or_append_left, append-nil}
use Rattle.argos_base.specs.SignalSets.{SignalSet, has, lists}
use Rattle.argos_base.proofs.Bools.{or_left, or_right}
use Rattle.dd_core.specs.declared.nodes.Node.{Node}
use Rattle.dd_core.specs.declared.nodes.NodeId.{NodeId}
use Rattle.dd_core.specs.Diagrams.{Nodes, node_at}
use Rattle.dd_core.specs.Arenas.{ArenaView, IsArena, Holds, function_of}
use Rattle.dd_core.proofs.Canonical.{canonical}
use Rattle.dd_core.proofs.Making.{function_of-false, function_of-true}
use Rattle.dd_core.proofs.Walks.{held_level, held_cases}
use Rattle.dd_ops.specs.Listed.{IsUnder, itself, below}
use Rattle.dd_ops.proofs.Restrictions.{restricted-here}
use Rattle.eqn_completion.specs.Binary.{digits_in}
use Rattle.eqn_verdict.specs.Branches.{IsReference, AreInTurn, AreReferences, ids_with, HaveValues}
use Rattle.eqn_verdict.specs.FromArena.{of_node, branches_of, root_ids, falses, AreLeastRoots, ArenasGiveDiagrams}
use Rattle.eqn_verdict.specs.Searching.{Test}
use Rattle.eqn_completion.specs.Findings.{Finding}
use Rattle.eqn_completion.proofs.Reading.{nat_eq-itself}

none_some : {X : Type 0} (x : X) → None ≡ Some x → ⊥
none_some x e = cc

module _ (arena : ArenaView) (valid : IsArena arena) (a : ℕ) where
  abbrev v : ℕ
  v = arena.variables

  -- a function of the first a variables alone
  abbrev Apart : ℕ → Type 0
  Apart f = (p q : List Bool) → length p ≡ v → length q ≡ v → take a p ≡ take a q → function_of arena f p ≡ function_of arena f q

  take-set : (p q : List Bool) (k : ℕ) (b : Bool) → length p ≡ v → length q ≡ v → a ≤ v → take a p ≡ take a q → take a (set p k b) ≡ take a (set q k b)
  take-set p q k b ps qs room e = ext_get_or false (take a (set p k b)) (take a (set q k b)) (sizes p ps ∙ sym (sizes q qs)) (λ i low. at i (omega (arith, sizes p ps)))
    where
      sizes : (p : List Bool) → length p ≡ v → length (take a (set p k b)) ≡ a
      sizes p ps = length-take-le a (set p k b) (omega (arith, length-set p k b))

      at : (i : ℕ) → i < a → get_or (take a (set p k b)) i false ≡ get_or (take a (set q k b)) i false
      at i low = get_or-take a (set p k b) i false low ∙ inner (cases_eq i k) ∙ sym (get_or-take a (set q k b) i false low)
        where
          inner : (i ≡ k) ⊎ (i ≡ k → ⊥) → get_or (set p k b) i false ≡ get_or (set q k b) i false
          inner (inl same) = subst (λ (z : ℕ). get_or (set p k b) z false ≡ get_or (set q k b) z false) (sym same) (get_or-set_same p k b false (omega arith) ∙ sym (get_or-set_same q k b false (omega arith)))
          inner (inr other) = get_or-set_other p k i b false other ∙ (sym (get_or-take a p i false low) ∙ ap (λ (l : List Bool). get_or l i false) e ∙ get_or-take a q i false low) ∙ sym (get_or-set_other q k i b false other)

  child-apart : (f : ℕ) (n : Node) (b : Bool) → a ≤ v → node_at arena.nodes f ≡ Some n → Apart f → Apart (cond b n.high.0 n.low.0)
  child-apart f n b room is h p q ps qs e =
      sym (restricted-here arena valid n.variable b f n is refl p ps)
      ∙ h (set p n.variable b) (set q n.variable b) (length-set p n.variable b ∙ ps) (length-set q n.variable b ∙ qs) (take-set p q n.variable b ps qs room e)
      ∙ restricted-here arena valid n.variable b f n is refl q qs

  -- so it tests these variables alone
  pub tests-first : (f : ℕ) (n : Node) → node_at arena.nodes f ≡ Some n → Apart f → n.variable < a
  tests-first f n is h = elim (cases_lt n.variable a) [
    | inl low ↦ low
    | inr high ↦ absurd (valid.reduced.different f n is (canonical v arena.nodes valid.reduced n.low.0 n.high.0 (child-held false) (child-held true) (λ x xs.
        sym (restricted-here arena valid n.variable false f n is refl x xs)
        ∙ h (set x n.variable false) (set x n.variable true) (length-set x n.variable false ∙ xs) (length-set x n.variable true ∙ xs) (take-set-le a x n.variable false high ∙ sym (take-set-le a x n.variable true high))
        ∙ restricted-here arena valid n.variable true f n is refl x xs)))
  ]
    where
      child-held : (b : Bool) → Holds arena (cond b n.high.0 n.low.0)
      child-held true = held_level v arena.nodes n.variable n.high.0 (valid.reduced.high_later f n is)
      child-held false = held_level v arena.nodes n.variable n.low.0 (valid.reduced.low_later f n is)

  under-apart : (f g : NodeId) → a ≤ v → IsUnder arena.nodes f g → Apart f.0 → Apart g.0
  under-apart f g room itself h = h
  under-apart f g room (below b n is more) h = under-apart (cond b n.high n.low) g room more (turn b (child-apart f.0 n b room is h))
    where
      turn : (b : Bool) → Apart (cond b n.high.0 n.low.0) → Apart (cond b n.high n.low).0
      turn true h = h
      turn false h = h

  -- a child is a constant, or a node
  child-cases : (f : ℕ) (n : Node) (b : Bool) → node_at arena.nodes f ≡ Some n → ((cond b n.high n.low).0 < 2) ⊎ IsSome (node_at arena.nodes (cond b n.high n.low).0)
  child-cases f n b is = elim (held_cases arena.nodes (cond b n.high n.low).0 (held b)) [
    | inl none ↦ inl none.0
    | inr some ↦ inr (ap is_some some.1)
  ]
    where
      held : (b : Bool) → Holds arena (cond b n.high n.low).0
      held true = held_level v arena.nodes n.variable n.high.0 (valid.reduced.high_later f n is)
      held false = held_level v arena.nodes n.variable n.low.0 (valid.reduced.low_later f n is)

  -- the value at a node is that at the child which its variable takes
  child-value : (f : ℕ) (n : Node) (z : List Bool) → node_at arena.nodes f ≡ Some n → length z ≡ v → function_of arena f z ≡ cond (get_or z n.variable false) (function_of arena n.high.0 z) (function_of arena n.low.0 z)
  child-value f n z is zs =
      ap (function_of arena f) (sym (set-get_or z n.variable false))
      ∙ restricted-here arena valid n.variable (get_or z n.variable false) f n is refl z zs
      ∙ pick (get_or z n.variable false)
    where
      pick : (b : Bool) → function_of arena (cond b n.high.0 n.low.0) z ≡ cond b (function_of arena n.high.0 z) (function_of arena n.low.0 z)
      pick true = refl
      pick false = refl

some-node : (o : Option Node) → IsSome o → (n : Node) × (o ≡ Some n)
some-node None h = cc
some-node (Some n) h = (n, refl)

get-append : {X : Type 0} (xs ys : List X) (j : ℕ) (x : X) → j < length xs → slice_get (xs ++ ys) j ≡ Some x → slice_get xs j ≡ Some x
get-append [] ys j x h e = absurd (omega arith)
get-append (y ∷ xs) ys zero x h e = e
get-append (y ∷ xs) ys (suc j) x h e = get-append xs ys j x (omega arith) e

get-seam : {X : Type 0} (xs : List X) (x : X) (ys : List X) → slice_get (xs ++ x ∷ ys) (length xs) ≡ Some x
get-seam [] x ys = refl
get-seam (y ∷ xs) x ys = get-seam xs x ys

get-front : {X : Type 0} (xs ys : List X) (j : ℕ) (x : X) → slice_get xs j ≡ Some x → slice_get (xs ++ ys) j ≡ Some x
get-front [] ys j x e = absurd (none_some x e)
get-front (y ∷ xs) ys zero x e = e
get-front (y ∷ xs) ys (suc j) x e = get-front xs ys j x e

get-push : {X : Type 0} (xs : List X) (y : X) (j : ℕ) (x : X) → slice_get (xs ++ y ∷ []) j ≡ Some x → (slice_get xs j ≡ Some x) ⊎ (y ≡ x)
get-push [] y zero x e = inr (some_one e)
  where
    some_one : Some y ≡ Some x → y ≡ x
    some_one e = cc
get-push [] y (suc j) x e = absurd (none_some x e)
get-push (z ∷ xs) y zero x e = inl e
get-push (z ∷ xs) y (suc j) x e = get-push xs y j x e

-- what is listed before
abbrev Lists : List ℕ → List NodeId → Type 0
Lists known pre = (j : ℕ) (g : NodeId) → slice_get pre j ≡ Some g → lists known g.0 ≡ true

lists-more : (known : List ℕ) (pre : List NodeId) (g : NodeId) → Lists known pre → Lists (g.0 ∷ known) (pre ++ g ∷ [])
lists-more known pre g h j x e = elim (get-push pre g j x e) [
  | inl old ↦ or_right (nat_eq g.0 x.0) _ (h j x old)
  | inr new ↦ or_left _ _ (subst (λ (z : NodeId). nat_eq g.0 z.0 ≡ true) new (nat_eq-itself g.0))
]

id-of : (f : ℕ) (o : Option Node) → (of_node f o).id ≡ f
id-of f None = refl
id-of f (Some n) = refl

lists-after : (nodes : Nodes) (suf pre : List NodeId) (known : List ℕ) → Lists known pre → Lists (ids_with known (branches_of nodes suf)) (pre ++ suf)
lists-after nodes [] pre known h j g e = h j g (subst (λ (l : List NodeId). slice_get l j ≡ Some g) (append-nil pre) e)
lists-after nodes (f ∷ suf) pre known h j g e =
    lists-after nodes suf (pre ++ f ∷ []) ((of_node f.0 (node_at nodes f.0)).id ∷ known)
    (subst (λ (z : ℕ). Lists (z ∷ known) (pre ++ f ∷ [])) (sym (id-of f.0 (node_at nodes f.0))) (lists-more known pre f h))
    j g (subst (λ (l : List NodeId). slice_get l j ≡ Some g) (sym (append_assoc pre (f ∷ []) suf)) e)

module _ (arena : ArenaView) (inputs c : ℕ) (widths : List ℕ) (structural : Test) (consistent : Finding) (ids roots : List NodeId) (h : AreLeastRoots arena (digits_in widths + inputs) c structural consistent ids roots) where
  abbrev a : ℕ
  a = digits_in widths + inputs

  node-of : (i : ℕ) (g : NodeId) → slice_get ids i ≡ Some g → (n : Node) × (node_at arena.nodes g.0 ≡ Some n)
  node-of i g e = some-node (node_at arena.nodes g.0) (h.listing.node g (i, e))

  first-variable : (i : ℕ) (g : NodeId) (n : Node) → slice_get ids i ≡ Some g → node_at arena.nodes g.0 ≡ Some n → n.variable < a
  first-variable i g n e is =
      let w = h.under g (i, e) in
      tests-first arena h.valid a g.0 n is (under-apart arena h.valid a w.0 g (omega (arith, h.variables)) w.1.1 (λ p q ps qs same. h.apart w.0 p q w.1.0 (ps ∙ h.variables) (qs ∙ h.variables) same))

  child-known : (pre suf : List NodeId) (f : NodeId) (known : List ℕ) (n : Node) (b : Bool) → ids ≡ pre ++ f ∷ suf → Lists known pre → node_at arena.nodes f.0 ≡ Some n → IsReference known (cond b n.high n.low).0
  child-known pre suf f known n b e l is = elim (child-cases arena h.valid a f.0 n b is) [
    | inl low ↦ inl low
    | inr some ↦
        let w = h.listing.children_first (length pre) f n b (subst (λ (z : List NodeId). slice_get z (length pre) ≡ Some f) (sym e) (get-seam pre f suf)) is some in
        inr (l w.0 (cond b n.high n.low) (get-append pre (f ∷ suf) w.0 (cond b n.high n.low) w.1 (subst (λ (z : List NodeId). slice_get z w.0 ≡ Some (cond b n.high n.low)) e w.2)))
  ]

  in-turn : (suf pre : List NodeId) (known : List ℕ) → ids ≡ pre ++ suf → Lists known pre → AreInTurn a known (branches_of arena.nodes suf)
  in-turn [] pre known e l = tt
  in-turn (f ∷ suf) pre known e l =
      let at : slice_get ids (length pre) ≡ Some f = subst (λ (z : List NodeId). slice_get z (length pre) ≡ Some f) (sym e) (get-seam pre f suf) in
      let w = node-of (length pre) f at in
      subst (λ (o : Option Node). AreInTurn a known (of_node f.0 o ∷ branches_of arena.nodes suf)) (sym w.1) (
        first-variable (length pre) f w.0 at w.1,
        child-known pre suf f known w.0 false e l w.1,
        child-known pre suf f known w.0 true e l w.1,
        in-turn suf (pre ++ f ∷ []) (f.0 ∷ known) (e ∙ sym (append_assoc pre (f ∷ []) suf)) (lists-more known pre f l),
      )

  values-at : SignalSet → ℕ → Bool
  values-at p f = function_of arena f (p ++ falses c)

  falses-sized : (n : ℕ) → length (falses n) ≡ n
  falses-sized zero = refl
  falses-sized (suc n) = ap suc (falses-sized n)

  have-values : (p : SignalSet) → length p ≡ a → (suf pre : List NodeId) → ids ≡ pre ++ suf → HaveValues p (λ f. function_of arena f (p ++ falses c)) (branches_of arena.nodes suf)
  have-values p ps [] pre e = (function_of-false arena (p ++ falses c) h.valid, function_of-true arena (p ++ falses c) h.valid)
  have-values p ps (f ∷ suf) pre e =
      let at : slice_get ids (length pre) ≡ Some f = subst (λ (z : List NodeId). slice_get z (length pre) ≡ Some f) (sym e) (get-seam pre f suf) in
      let w = node-of (length pre) f at in
      let n = w.0 in
      let z : List Bool = p ++ falses c in
      let zs : length z ≡ arena.variables = length-append p (falses c) ∙ ap (λ (k : ℕ). k + length (falses c)) ps ∙ ap (λ (k : ℕ). a + k) (falses-sized c) ∙ sym h.variables in
      let front : get_or z n.variable false ≡ has p n.variable = get_or_append_left p (falses c) false n.variable (let k = first-variable (length pre) f n at w.1 in omega arith) in
      subst (λ (o : Option Node). HaveValues p (λ g. function_of arena g (p ++ falses c)) (of_node f.0 o ∷ branches_of arena.nodes suf)) (sym w.1)
      (child-value arena h.valid a f.0 n z w.1 zs ∙ ap (λ (b : Bool). cond b (function_of arena n.high.0 z) (function_of arena n.low.0 z)) front, have-values p ps suf (pre ++ f ∷ []) (e ∙ sym (append_assoc pre (f ∷ []) suf)))

  references : (later earlier : List NodeId) → roots ≡ earlier ++ later → AreReferences (ids_with [] (branches_of arena.nodes ids)) (root_ids later)
  references [] earlier e = tt
  references (f ∷ later) earlier e = (
    elim (h.held f (length earlier, subst (λ (z : List NodeId). slice_get z (length earlier) ≡ Some f) (sym e) (get-seam earlier f later))) [
      | inl low ↦ inl low
      | inr w ↦ inr (lists-after arena.nodes ids [] [] (λ j g k. absurd (none_some g k)) w.0 f w.1)
    ],
    references later (earlier ++ f ∷ []) (e ∙ sym (append_assoc earlier (f ∷ []) later)),
  )

  roots-sized : (roots : List NodeId) → length (root_ids roots) ≡ length roots
  roots-sized [] = refl
  roots-sized (f ∷ roots) = ap suc (roots-sized roots)

pub arenas_give_diagrams : ArenasGiveDiagrams
arenas_give_diagrams arena inputs c widths structural consistent ids roots h = record {
  in_turn = in-turn arena inputs c widths structural consistent ids roots h ids [] [] refl (λ j g k. absurd (none_some g k));
  references = references arena inputs c widths structural consistent ids roots h roots [] refl;
  sized = roots-sized arena inputs c widths structural consistent ids roots h roots ∙ h.sized;
  values = λ p f. function_of arena f (p ++ falses c);
  nodes_are = λ p ps. have-values arena inputs c widths structural consistent ids roots h p ps ids [] refl;
  roots_are = λ p j ps low. h.are p j ps low;
}
