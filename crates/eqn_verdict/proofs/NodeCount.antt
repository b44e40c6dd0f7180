-- The nodes under roots are the cofactors of their functions.
use Rattle.std.proofs.Common.{◌≡◌, ℕ, zero, suc, ◌+◌, ◌<◌, ◌≤◌, List, [], ◌∷◌, ◌++◌, Option, Some, None, Bool, true, false, cond, refl, sym, ap, ◌∙◌, inl, inr, subst, arith, length, drop}
use Rattle.std.specs.Prelude.{IsSome, is_some}
use Rattle.std.specs.List.{slice_get}
use Rattle.std.proofs.lemmas.Bool.{cases_eq}
use Rattle.dd_core.specs.declared.nodes.Node.{Node}
use Rattle.dd_core.specs.declared.nodes.NodeId.{NodeId}
use Rattle.dd_core.specs.Diagrams.{Nodes, node_at, walk, after}
use Rattle.dd_core.specs.Functions.{Function, AreEqual, IsCofactor, constant}
use Rattle.dd_core.specs.Arenas.{ArenaView, IsArena, Holds, level_of, function_of}
use Rattle.dd_core.proofs.Canonical.{canonical}
use Rattle.dd_core.proofs.Cofactors.{IsCofactor-trans, denotes-front_to, IsCofactor-front_to}
use Rattle.dd_core.proofs.Making.{IsCofactor-refl, function_of-false, function_of-true}
use Rattle.dd_core.proofs.Walks.{child, child-at, child-other, child-held, child-later, held_cases, held_at, held_constant, level_at, denotes-skip, tests_from_level}
use Rattle.dd_ops.specs.Listed.{IsUnder, itself, below}
use Rattle.eqn_verdict.specs.SolvedNodes.{IsConstant, functions_of, ListedAreNodes}

abbrev node_id : ℕ → NodeId
node_id z = record { 0 = z }

none_some : {X : Type 0} (x : X) → None ≡ Some x → ⊥
none_some x e = cc

some-node : (o : Option Node) → IsSome o → (n : Node) × (o ≡ Some n)
some-node None h = cc
some-node (Some n) h = (n, refl)

under-trans : (nodes : Nodes) (f g h : NodeId) → IsUnder nodes f g → IsUnder nodes g h → IsUnder nodes f h
under-trans nodes f g h itself k = k
under-trans nodes f g h (below b n is more) k = below b n is (under-trans nodes (cond b n.high n.low) g h more k)

function-at : (arena : ArenaView) (ids : List NodeId) (j : ℕ) (g : Function) → slice_get (functions_of arena ids) j ≡ Some g → (f : NodeId) × ((slice_get ids j ≡ Some f) × (function_of arena f.0 ≡ g))
function-at arena [] j g e = absurd (none_some g e)
function-at arena (f ∷ ids) zero g e = (f, (refl, inner e))
  where
    inner : Some (function_of arena f.0) ≡ Some g → function_of arena f.0 ≡ g
    inner e = cc
function-at arena (f ∷ ids) (suc j) g e = function-at arena ids j g e

function-there : (arena : ArenaView) (ids : List NodeId) (j : ℕ) (f : NodeId) → slice_get ids j ≡ Some f → slice_get (functions_of arena ids) j ≡ Some (function_of arena f.0)
function-there arena [] j f e = absurd (none_some f e)
function-there arena (g ∷ ids) zero f e = ap (λ (h : NodeId). Some (function_of arena h.0)) (inner e)
  where
    inner : Some g ≡ Some f → g ≡ f
    inner e = cc
function-there arena (g ∷ ids) (suc j) f e = function-there arena ids j f e

module _ (arena : ArenaView) (valid : IsArena arena) where
  abbrev v : ℕ
  v = arena.variables

  -- the node that a walk along fixed values comes to
  record Reaches (f : NodeId) (k : ℕ) (fixed : List Bool) : Type 0 where
    node : NodeId
    under : IsUnder arena.nodes f node
    held : Holds arena node.0
    later : k + length fixed ≤ level_of arena node.0
    rest : (xs : List Bool) → walk arena.nodes k f.0 (fixed ++ xs) ≡ walk arena.nodes (k + length fixed) node.0 xs

  step-under : (f : NodeId) (k : ℕ) (b : Bool) → Holds arena f.0 → IsUnder arena.nodes f (record { 0 = child arena.nodes k b f.0 })
  step-under f k b h = elim (held_cases arena.nodes f.0 h) [
    | inl none ↦ subst (λ (z : ℕ). IsUnder arena.nodes f (record { 0 = z })) (sym (ap (after k b f.0) none.1)) itself
    | inr some ↦ elim (cases_eq some.0.variable k) [
      | inl same ↦ subst (λ (z : ℕ). IsUnder arena.nodes f (record { 0 = z })) (sym (child-at arena.nodes k b f.0 some.0 some.1 same)) (pick b some.0 some.1)
      | inr other ↦ subst (λ (z : ℕ). IsUnder arena.nodes f (record { 0 = z })) (sym (child-other arena.nodes k b f.0 (λ n is e. other (same_variable some.0 n (sym some.1 ∙ is) ∙ e)))) itself
    ]
  ]
    where
      same_variable : (m n : Node) → Some m ≡ Some n → m.variable ≡ n.variable
      same_variable m n e = let s : m ≡ n = cc in ap (λ (z : Node). z.variable) s

      pick : (b : Bool) (n : Node) → node_at arena.nodes f.0 ≡ Some n → IsUnder arena.nodes f (record { 0 = cond b n.high.0 n.low.0 })
      pick true n is = below true n is itself
      pick false n is = below false n is itself

  reach : (fixed : List Bool) (f : NodeId) (k : ℕ) → Holds arena f.0 → k ≤ level_of arena f.0 → k + length fixed ≤ v → Reaches f k fixed
  reach [] f k h low room = record { node = f; under = itself; held = h; later = omega arith; rest = λ xs. ap (λ (j : ℕ). walk arena.nodes j f.0 xs) (let z : k ≡ k + 0 = omega arith in z) }
  reach (b ∷ fixed) f k h low room =
      let g : NodeId = record { 0 = child arena.nodes k b f.0 } in
      let lt = child-later v arena.nodes valid.reduced k b f.0 h low (omega arith) in
      let r = reach fixed g (k + 1) (child-held v arena.nodes valid.reduced k b f.0 h low (omega arith)) (omega arith) (omega arith) in
      let move : k + 1 + length fixed ≡ k + suc (length fixed) = omega arith in
      let lat = r.later in
      record {
        node = r.node;
        under = under-trans arena.nodes f g r.node (step-under f k b h) r.under;
        held = r.held;
        later = omega arith;
        rest = λ xs. r.rest xs ∙ ap (λ (j : ℕ). walk arena.nodes j r.node.0 xs) move;
      }

  -- each cofactor is denoted by a node under f
  denoted : (f : NodeId) (g : Function) → Holds arena f.0 → IsCofactor v (function_of arena f.0) g → (n : NodeId) × (IsUnder arena.nodes f n × (Holds arena n.0 × AreEqual v g (function_of arena n.0)))
  denoted f g h is =
      let r = reach is.fixed f 0 h (omega arith) (omega (arith, is.bound)) in
      let n = length is.fixed in
      let at : 0 + n ≡ n = omega arith in
      let lat = r.later in (
        r.node,
        (
          r.under,
          (
            r.held,
            λ x xs.
                is.equal x xs ∙ r.rest (drop n x) ∙ ap (λ (j : ℕ). walk arena.nodes j r.node.0 (drop n x)) at
                ∙ sym (denotes-skip arena.nodes n r.node.0 x (tests_from_level v arena.nodes n r.node.0 (omega arith))),
          ),
        ),
      )

  -- each node under f denotes a cofactor
  under-cofactor : (f g : NodeId) → IsUnder arena.nodes f g → IsCofactor v (function_of arena f.0) (function_of arena g.0)
  under-cofactor f g itself = IsCofactor-refl v (function_of arena f.0) (function_of arena f.0) (λ x xs. refl)
  under-cofactor f g (below b n is more) =
      IsCofactor-trans v (function_of arena f.0) (function_of arena (cond b n.high n.low).0) (function_of arena g.0) (one b) (under-cofactor (cond b n.high n.low) g more)
    where
      one : (b : Bool) → IsCofactor v (function_of arena f.0) (function_of arena (cond b n.high n.low).0)
      one b =
          let low : n.variable < v = valid.reduced.variable f.0 n is in
          IsCofactor-front_to v n.variable b (function_of arena f.0) (function_of arena (cond b n.high n.low).0) low (λ x xs.
          ap (λ (z : ℕ). function_of arena z x) (turn b ∙ sym (child-at arena.nodes n.variable b f.0 n is refl))
          ∙ denotes-front_to v arena.nodes valid.reduced n.variable b f.0 (held_at arena.nodes f.0 n is) (omega (arith, level_at v arena.nodes f.0 n is)) low x)
        where
          turn : (b : Bool) → (cond b n.high n.low).0 ≡ cond b n.high.0 n.low.0
          turn true = refl
          turn false = refl

  -- and no constant
  not-constant : (g : NodeId) (n : Node) → node_at arena.nodes g.0 ≡ Some n → ¬ (IsConstant v (function_of arena g.0))
  not-constant g n is c = of_value c.0 c.1
    where
      held : Holds arena g.0
      held = held_at arena.nodes g.0 n is

      of_value : (b : Bool) → AreEqual v (function_of arena g.0) (constant b) → ⊥
      of_value false e =
          let same : g.0 ≡ 0 = canonical v arena.nodes valid.reduced g.0 0 held (held_constant arena.nodes 0 (omega arith)) (λ x xs. e x xs ∙ sym (function_of-false arena x valid)) in
          none_some n (sym valid.reduced.no_false ∙ ap (node_at arena.nodes) (sym same) ∙ is)
      of_value true e =
          let same : g.0 ≡ 1 = canonical v arena.nodes valid.reduced g.0 1 held (held_constant arena.nodes 1 (omega arith)) (λ x xs. e x xs ∙ sym (function_of-true arena x valid)) in
          none_some n (sym valid.reduced.no_true ∙ ap (node_at arena.nodes) (sym same) ∙ is)

  constant-function : (f : ℕ) → f < 2 → node_at arena.nodes f ≡ None → IsConstant v (function_of arena f)
  constant-function zero h none = (false, λ x xs. function_of-false arena x valid)
  constant-function (suc zero) h none = (true, λ x xs. function_of-true arena x valid)
  constant-function (suc (suc f)) h none = absurd (omega arith)

pub listed_are_nodes : ListedAreNodes
listed_are_nodes arena ids roots valid listing held under all = record {
  each = λ j g e.
      let w = function-at arena ids j g e in
      let f = w.0 in
      let n = some-node (node_at arena.nodes f.0) (listing.node f (j, w.1.0)) in
      let r = under f (j, w.1.0) in (
        (r.1.0.0, (function_of arena r.0.0, (function-there arena roots r.1.0.0 r.0 r.1.0.1, subst (IsCofactor arena.variables (function_of arena r.0.0)) w.1.1 (under-cofactor arena valid r.0 f r.1.1)))),
        λ c. not-constant arena valid f n.0 n.1 (c.0, λ x xs. ap (λ (z : Function). z x) w.1.1 ∙ c.1 x xs),
      );
  different = λ j k g h e d same.
      let a = function-at arena ids j g e in
      let b = function-at arena ids k h d in
      let m = some-node (node_at arena.nodes a.0.0) (listing.node a.0 (j, a.1.0)) in
      let n = some-node (node_at arena.nodes b.0.0) (listing.node b.0 (k, b.1.0)) in
      let one : a.0.0 ≡ b.0.0 = canonical arena.variables arena.nodes valid.reduced a.0.0 b.0.0 (held_at arena.nodes a.0.0 m.0 m.1) (held_at arena.nodes b.0.0 n.0 n.1) (λ x xs. ap (λ (z : Function). z x) a.1.1 ∙ same x xs ∙ sym (ap (λ (z : Function). z x) b.1.1)) in
      let ids_same : a.0 ≡ b.0 = ap node_id one in
      listing.once j k a.0 a.1.0 (b.1.0 ∙ ap Some (sym ids_same));
  all = λ g c other.
      let w = function-at arena roots c.0 c.1.0 c.1.1.0 in
      let root = w.0 in
      let d = denoted arena valid root g (held root (c.0, w.1.0)) (subst (λ (z : Function). IsCofactor arena.variables z g) (sym w.1.1) c.1.1.1) in
      elim (held_cases arena.nodes d.0.0 d.1.1.0) [
        | inl none ↦ absurd (let k = constant-function arena valid d.0.0 none.0 none.1 in other (k.0, λ x xs. d.1.1.1 x xs ∙ k.1 x xs))
        | inr some ↦
            let l = all root d.0 (c.0, w.1.0) d.1.0 (ap is_some some.1) in
            (l.0, (function_of arena d.0.0, (function-there arena ids l.0 d.0 l.1, d.1.1.1)))
      ];
}
