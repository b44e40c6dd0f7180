-- What follows for the solved system from its roots and the nodes under them.
use Rattle.std.proofs.Common.{◌≡◌, ◌⊎◌, ℕ, zero, suc, ◌+◌, ◌*◌, ◌<◌, ◌≤◌, List, [], ◌∷◌, ◌++◌, Some, None, Bool, true, false, refl, sym, ap, ◌∙◌, inl, inr, subst, arith, length, map, take, drop, get_or, length-append, is_some}
use Rattle.std.specs.List.{slice_get}
use Rattle.std.proofs.lemmas.List.{length-map, length-take-le, length-drop, take-append-drop}
use Rattle.std.proofs.lemmas.Option.{slice_get_within, get_or_from_slice_get}
use Rattle.argos_base.proofs.Bools.{and_first, and_second, and_both}
use Rattle.argos_base.specs.Machines.{IsLeastChosen, AlwaysReactsOnce}
use Rattle.argos_base.specs.Orders.{IsEarlier, digits}
use Rattle.argos_base.specs.SignalSets.{SignalSet, has}
use Rattle.argos_core.specs.Layouts.{RegisterShape, FitsLayout}
use Rattle.dd_core.specs.declared.nodes.NodeId.{NodeId}
use Rattle.dd_core.specs.Arenas.{ArenaView, Holds, function_of}
use Rattle.dd_core.specs.Diagrams.{Nodes}
use Rattle.dd_core.specs.Functions.{Function}
use Rattle.dd_core.proofs.Walks.{held_cases}
use Rattle.dd_ops.specs.Listed.{itself, IsListed}
use Rattle.eqn_completion.specs.Binary.{in_binary, digits_in, FitsIn}
use Rattle.eqn_completion.specs.Completions.{SystemChooses}
use Rattle.eqn_completion.proofs.Ordering.{length-binary}
use Rattle.eqn_core.specs.Equations.{Equations, registers, weight_of}
use Rattle.eqn_core.specs.Orderable.{IsOrderable}
use Rattle.eqn_core.specs.Ordered.{all_below, IsOrdered}
use Rattle.eqn_core.specs.Plans.{IsPlanOf}
use Rattle.eqn_core.specs.Solutions.{bit_of, SystemReacts}
use Rattle.eqn_dd.specs.Laws.{row_of}
use Rattle.eqn_dd.specs.Structural.{digit_count, widths_of}
use Rattle.eqn_dd.proofs.InTurn.{widths_narrow}
use Rattle.eqn_sort.specs.Promises.{HasReactionsOf}
use Rattle.eqn_verdict.specs.Branches.{Branch}
use Rattle.eqn_verdict.specs.FromArena.{branches_of, root_ids, falses, AreLeastRoots}
use Rattle.eqn_verdict.specs.Searching.{some, least}
use Rattle.eqn_verdict.specs.Solved.{in_least, solved_system, AreSolvedDiagrams}
use Rattle.eqn_verdict.specs.SolvedNodes.{functions_of, AreNodesOf}
use Rattle.eqn_verdict.proofs.ArenaNodes.{arenas_give_diagrams}
use Rattle.eqn_verdict.proofs.NodeCount.{listed_are_nodes}
use Rattle.eqn_verdict.proofs.Solving.{least_is_chosen, solved_are_ordered, solved_react, solved_are_small}
use Rattle.cycle_solve.specs.LeastFunctions.{IsInLeast, AreLeastFunctions}
use Rattle.cycle_solve.specs.Solved.{HaveSolvedNodes, IsSolved}
use Rattle.cycle_solve.specs.inner.Listing.{AreUnder}
use Rattle.cycle_solve.specs.inner.Roots.{AreRootsOf}
use Rattle.cycle_solve.proofs.NodesFew.{few-listed}
use Rattle.cycle_solve.proofs.SystemSteps.{branches-sized}

abbrev start : NodeId
start = record { 0 = 0 }

nothing : {A : Type 0} {X : Type 0} {x : X} → None ≡ Some x → A
nothing e = cc

falses-sized : (n : ℕ) → length (falses n) ≡ n
falses-sized zero = refl
falses-sized (suc n) = ap suc (falses-sized n)

root_there : (g : ℕ → Bool) (roots : List NodeId) (j : ℕ) (d : NodeId) → j < length roots
    → has (map g (root_ids roots)) j ≡ g (get_or roots j d).0
root_there g [] j d low = absurd (omega arith)
root_there g (f ∷ roots) zero d low = refl
root_there g (f ∷ roots) (suc j) d low = root_there g roots j d (omega arith)

roots-sized : (roots : List NodeId) → length (root_ids roots) ≡ length roots
roots-sized [] = refl
roots-sized (f ∷ roots) = ap suc (roots-sized roots)

functions-sized : (arena : ArenaView) (ids : List NodeId) → length (functions_of arena ids) ≡ length ids
functions-sized arena [] = refl
functions-sized arena (f ∷ ids) = ap suc (functions-sized arena ids)

function-at : (arena : ArenaView) (ids : List NodeId) (j : ℕ) (g : Function)
    → slice_get (functions_of arena ids) j ≡ Some g
    → (j < length ids) × (g ≡ function_of arena (get_or ids j start).0)
function-at arena [] j g e = nothing e
function-at arena (f ∷ ids) zero g e = (omega arith, inner (function_of arena f.0) g e)
  where
    inner : (h g : Function) → Some h ≡ Some g → g ≡ h
    inner h g e = cc
function-at arena (f ∷ ids) (suc j) g e = let rest = function-at arena ids j g e in (
  omega
      (arith, rest.0),
  rest.1,
)

-- sets of one size of which neither is earlier are one
one-set : (x y : SignalSet) → length x ≡ length y → ¬ (IsEarlier (digits x) (digits y))
    → ¬ (IsEarlier (digits y) (digits x)) → x ≡ y
one-set [] [] sized first second = refl
one-set [] (b ∷ y) sized first second = absurd (omega (arith, sized))
one-set (b ∷ x) [] sized first second = absurd (omega (arith, sized))
one-set (true ∷ x) (true ∷ y) sized first second = ap (λ (l : SignalSet). true ∷ l) (one-set x y (omega
    (arith, sized)) (λ e. first (inr (refl, e))) (λ e. second (inr (refl, e))))
one-set (false ∷ x) (false ∷ y) sized first second = ap (λ (l : SignalSet). false ∷ l) (one-set x y (omega
    (arith, sized)) (λ e. first (inr (refl, e))) (λ e. second (inr (refl, e))))
one-set (true ∷ x) (false ∷ y) sized first second = absurd (second (inl (omega arith)))
one-set (false ∷ x) (true ∷ y) sized first second = absurd (first (inl (omega arith)))

one-least : (E : Equations) (cyclic m : List ℕ) (i x y : SignalSet)
    → IsLeastChosen (SystemChooses E cyclic) m i x → IsLeastChosen (SystemChooses E cyclic) m i y → x ≡ y
one-least E cyclic m i x y a b =
    one-set x y (ap length a.is.chosen_is ∙ length-map cyclic (bit_of a.is.values)
    ∙ sym (ap length b.is.chosen_is
    ∙ length-map cyclic (bit_of b.is.values))) (b.first x a.is) (a.first y b.is)

shapes-sized : (layout : List RegisterShape) → length (widths_of layout) ≡ length layout
shapes-sized layout = length-map layout (λ s. digit_count s.top)

module _ (E : Equations) (order cyclic : List ℕ) (layout : List RegisterShape) (arena : ArenaView)
    (ids roots : List NodeId) (orderable : IsOrderable E) (plan : IsPlanOf E order cyclic)
    (shapes : length layout ≡ registers E) (once : AlwaysReactsOnce (FitsLayout layout) E.inputs
    (SystemReacts E)) (r : AreRootsOf E layout cyclic arena roots)
    (u : AreUnder arena.nodes roots ids) where
  abbrev c : ℕ
  c = length cyclic

  abbrev widths : List ℕ
  widths = widths_of layout

  abbrev points : ℕ
  points = digits_in widths + E.inputs

  root-held : (f : NodeId) → IsListed roots f → Holds arena f.0
  root-held f is =
      let low = slice_get_within roots is.0 f is.1 in
      subst (λ (g : NodeId). Holds arena g.0) (get_or_from_slice_get roots is.0 f start is.1)
      (r.held is.0 start low)

  root-known : (f : NodeId) → IsListed roots f → (f.0 < 2) ⊎ IsListed ids f
  root-known f is = elim (held_cases arena.nodes f.0 (root-held f is)) [
    | inl none ↦ inl none.0
    | inr some ↦ inr (u.all f f is itself (ap is_some some.1))
  ]

  root-value : (f : NodeId) (q : List Bool) (is : IsListed roots f) → length q ≡ points + c
      → function_of arena f.0 q ≡ in_least c r.structural r.consistent is.0 (take points q)
  root-value f q is qs =
      let low = slice_get_within roots is.0 f is.1 in
      ap (λ (g : NodeId). function_of arena g.0 q) (sym (get_or_from_slice_get roots is.0 f start is.1))
      ∙ ap (function_of arena (get_or roots is.0 start).0) (sym (take-append-drop points q))
      ∙ r.least is.0 (omega (arith, r.sized, low)) (take points q) (drop points q) (length-take-le points q
      (omega (arith, qs))) (omega (arith, length-drop points q, qs))

  least-roots : AreLeastRoots arena points c r.structural r.consistent ids roots
  least-roots = record {
    valid = r.valid;
    variables = r.variables;
    listing = u.listing;
    under = u.under;
    held = root-known;
    sized = r.sized;
    apart = λ f p q is ps qs same. root-value f p is ps ∙ ap (in_least c r.structural r.consistent is.0) same
        ∙ sym (root-value f q is qs);
    are = λ p j ps low. root_there (λ f. function_of arena f (p
        ++ falses c)) roots j start (omega (arith, r.sized)) ∙ r.least j low p (falses c) ps (falses-sized c);
  }

  abbrev ns : List Branch
  ns = branches_of arena.nodes ids

  abbrev fs : List ℕ
  fs = root_ids roots

  diagrams : AreSolvedDiagrams E.inputs c widths r.structural r.consistent ns fs
  diagrams = arenas_give_diagrams arena E.inputs c widths r.structural r.consistent ids roots least-roots

  pub few-nodes : length ids < 16777216
  few-nodes = few-listed arena ids r.valid u.listing

  small : (length (solved_system E order cyclic widths ns fs).lines ≤ length E.lines + 4 * length ns +
      (points + c)) × (weight_of (solved_system E order cyclic widths ns fs) ≤ weight_of E + 16 * length ns + 4
      * (points + c))
  small = solved_are_small E order cyclic widths ns fs plan (roots-sized roots ∙ r.sized)

  pub is-ordered : 1 ≤ registers E → all_below 65536 E.initial ≡ true
      → IsOrdered (solved_system E order cyclic widths ns fs)
  is-ordered some codes =
      solved_are_ordered E order cyclic widths ns fs orderable plan (shapes-sized layout
      ∙ shapes) (widths_narrow layout) diagrams.in_turn diagrams.references (roots-sized roots
      ∙ r.sized) some codes
      (let lines = small.0 in omega (
        arith,
        lines,
        branches-sized arena.nodes ids,
        few-nodes,
        orderable.line_limit,
        r.variables,
        r.valid.few_variables,
      ))

  -- the function of a root
  module _ (j : ℕ) (m : List ℕ) (i : SignalSet) (fit : FitsIn widths m) (is : length i ≡ E.inputs) where
    abbrev y : SignalSet
    y = in_binary widths m ++ i

    y-sized : length y ≡ points
    y-sized = omega (arith, length-append (in_binary widths m) i, length-binary widths m fit, is)

    least-there : some c (r.consistent y) ≡ true
        → IsLeastChosen (SystemChooses E cyclic) m i (least c (r.consistent y))
    least-there somewhere = least_is_chosen E order cyclic layout widths r.structural r.consistent r.results
        plan shapes r.wide r.are m i fit is somewhere

    in-least : in_least c r.structural r.consistent j y ≡ true → FitsLayout layout m × IsInLeast (SystemChooses E cyclic) j m i
    in-least t =
        let inner = and_second (r.structural y) _ t in
        let somewhere = and_first (some c (r.consistent y)) _ inner in (
          (r.are.structural_is m i fit is).0 (and_first (r.structural y) _ t),
          (
            least c (r.consistent y),
            (least-there somewhere, and_second (some c (r.consistent y)) _ inner),
          ),
        )

    in-least-back : FitsLayout layout m × IsInLeast (SystemChooses E cyclic) j m i
        → in_least c r.structural r.consistent j y ≡ true
    in-least-back h =
        let t = (r.are.structural_is m i fit is).1 h.0 in
        let somewhere = r.react y y-sized t in
        let one : h.1.0 ≡ least c (r.consistent y) = one-least E cyclic m i h.1.0 (least c
        (r.consistent y)) h.1.1.0 (least-there somewhere) in
        and_both (r.structural y) _ t (and_both (some c (r.consistent y)) _ somewhere (ap (λ
        (x : SignalSet). has x j) (sym one) ∙ h.1.1.1))

  least-functions : AreLeastFunctions (SystemChooses E cyclic) (FitsLayout layout) widths E.inputs c
      (functions_of arena roots)
  least-functions = record {
    sized = functions-sized arena roots ∙ r.sized;
    are = λ j f m i x at fit is xs.
        let w = function-at arena roots j f at in
        let value : f (row_of widths m i x) ≡ in_least c r.structural r.consistent j (in_binary widths m ++ i) =
        ap (λ (g : Function). g (row_of widths m i x)) w.1
        ∙ r.least j (omega (arith, w.0, r.sized)) (in_binary widths m ++ i) x (y-sized j m i fit is) xs in
        (λ t. in-least j m i fit is (sym value ∙ t), λ h. value ∙ in-least-back j m i fit is h);
  }

  have-nodes : HaveSolvedNodes E layout cyclic (length ids)
  have-nodes = record {
    functions = functions_of arena roots;
    are = least-functions;
    nodes = record {
      nodes = functions_of arena ids;
      are = subst (λ (v : ℕ). AreNodesOf v (functions_of arena roots)
          (functions_of arena ids)) r.variables
          (listed_are_nodes arena ids roots r.valid u.listing root-held u.under u.all);
      counted = sym (functions-sized arena ids);
    };
  }

  pub is-solved : (F : Equations) (n : ℕ) → F ≡ solved_system E order cyclic widths ns fs → n ≡ length ids
      → IsOrdered F → IsSolved E layout cyclic F n
  is-solved F n same counted ordered = subst (λ (k : ℕ). IsSolved E layout cyclic F k) (sym counted) (subst (λ
      (G : Equations). IsSolved E layout cyclic G (length ids)) (sym same) (record {
        inputs = refl;
        initial = refl;
        outputs = length-map E.outputs _;
        reactions = λ m i fit is o n. solved_react E order cyclic layout widths r.structural r.consistent r.results
            ns fs orderable plan shapes r.wide r.are diagrams (subst IsOrdered same ordered) m i fit is
            (once m i fit is) o n;
        nodes = have-nodes;
        lines = let h = small.0 in omega (arith, h, branches-sized arena.nodes ids);
        weight = let h = small.1 in omega (arith, h, branches-sized arena.nodes ids);
      }))

-- where nothing is cyclic no node is needed
pub acyclic-solved : (E F : Equations) (layout : List RegisterShape) (cyclic : List ℕ) → cyclic ≡ []
    → F.inputs ≡ E.inputs → F.initial ≡ E.initial → length F.outputs ≡ length E.outputs → HasReactionsOf F E
    → length F.lines ≤ length E.lines → weight_of F ≤ weight_of E → IsSolved E layout cyclic F 0
acyclic-solved E F layout cyclic none inputs initial outputs reactions lines weight = record {
  inputs = inputs;
  initial = initial;
  outputs = outputs;
  reactions = λ m i fit is o n. reactions m i o n;
  nodes = record {
    functions = [];
    are = record { sized = ap length (sym none); are = λ j f m i x at fit is xs. nothing at };
    nodes = record {
      nodes = [];
      are = record {
        each = λ j g at. nothing at;
        different = λ j k g h at_j at_k same. nothing at_j;
        all = λ g is other. nothing is.1.1.0;
      };
      counted = refl;
    };
  };
  lines = omega (arith, lines);
  weight = omega (arith, weight);
}

-- the same parts make one system
pub moved_system : {F : Equations} (E : Equations) (order cyclic : List ℕ)
    (nodes : Nodes) {widths widths' : List ℕ} {ids ids' roots roots' : List NodeId}
    → F ≡ solved_system E order cyclic widths (branches_of nodes ids) (root_ids roots) → widths ≡ widths'
    → ids ≡ ids' → roots ≡ roots'
    → F ≡ solved_system E order cyclic widths' (branches_of nodes ids') (root_ids roots')
moved_system E order cyclic nodes {widths} {widths'} {ids} {ids'} {roots} {roots'} is w i r =
    is ∙ ap (λ (ws : List ℕ). solved_system E order cyclic ws (branches_of nodes ids) (root_ids roots)) w
    ∙ ap (λ (l : List NodeId). solved_system E order cyclic widths' (branches_of nodes l) (root_ids roots)) i
    ∙ ap (λ (l : List NodeId). solved_system E order cyclic widths' (branches_of nodes ids') (root_ids l)) r
