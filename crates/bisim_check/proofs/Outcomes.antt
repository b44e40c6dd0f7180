-- From what the calls of the search find to what the functions that decide find.
use Rattle.std.proofs.Common.{◌≡◌, ℕ, zero, suc, ◌<◌, List, [], ◌∷◌, Bool, true, false, ◌&&◌, not, Option, Some, None, length, slice_get, refl, sym, ap, ◌∙◌, subst, arith}
use Rattle.std.specs.Prelude.{Vec, MatchOption}
use Rattle.std.specs.Option.{IsSome}
use Rattle.std.proofs.lemmas.List.{length-map}
use Rattle.std.specs.declared.alloc.Global.{Global}
use Rattle.argos_base.specs.Names.{Spelled}
use Rattle.argos_base.specs.SignalSets.{SignalSet}
use Rattle.argos_base.proofs.Bools.{and_second}
use Rattle.argos_compile.specs.Systems.{IsSystemOf}
use Rattle.argos_congruence.proofs.Watching.{ShareNames}
use Rattle.argos_core.specs.Layouts.{layout_of}
use Rattle.argos_core.specs.Process.{PlainModule}
use Rattle.argos_core.specs.Reactions.{output_count}
use Rattle.bisim_check.specs.Jobs.{job_variables}
use Rattle.bisim_check.specs.declared.diagrams.ProgramDiagrams.{ProgramDiagrams}
use Rattle.bisim_check.specs.declared.searching.Drawn.{Drawn}
use Rattle.bisim_check.specs.declared.searching.Outcome.{Outcome}
use Rattle.bisim_check.specs.declared.searching.Outcome.TheVariants as outcome
use Rattle.bisim_check.specs.inner.Nodes.{codes_at, AreHeld, any_differs, AreDrawn, IsFirstDifference}
use Rattle.bisim_check.specs.inner.Searched.{digits_of, functions_of, IsToldFirst, IsFoundBy, IsOutcome, IsDrawn, in_left_order, differing_function, leaving_function}
use Rattle.bisim_check.proofs.InOrder.{in_order_of, in_order, first_by_name, values-in_order, held_in_order}
use Rattle.bisim_check.proofs.SearchSteps.{codes_kept}
use Rattle.bisim_formula.specs.Formulas.{Formula, related_by}
use Rattle.bisim_verdict.specs.EquivFunctions.{ReactsAs, AreMadeOf, tests_of}
use Rattle.bisim_verdict.specs.EquivTests.{differing, leaving, pairs, some_differ}
use Rattle.bisim_verdict.proofs.Reacting.{structural}
use Rattle.dd_core.specs.declared.nodes.NodeId.{NodeId}
use Rattle.dd_core.specs.Arenas.{ArenaView, IsArena, function_of, Keeps}
use Rattle.dd_core.specs.Functions.{Function, constant, AreEqual}
use Rattle.dd_ops.specs.Least.{IsLeast}
use Rattle.eqn_core.specs.Equations.{Equations}
use Rattle.eqn_dd.specs.declared.places.Places.{Places}
use Rattle.eqn_dd.specs.Denoting.{Denotes, values_at}
use Rattle.eqn_dd.proofs.Denotations.{values-kept}

-- ---- functions of both systems

reacts_as : (P : PlainModule) (E : Equations) → IsSystemOf P E → ReactsAs E P
reacts_as P E is m i o m' reacts = (is.reacts m i o m' (structural P m i o m' reacts)).1 reacts

pub made_of : (P Q : PlainModule) (E G : Equations) (a : ArenaView) (l r : ProgramDiagrams) (p q : Places) → IsSystemOf P E → IsSystemOf Q G → a.variables ≡ job_variables P Q
    → AreDrawn a E (layout_of P.process) p l → AreDrawn a G (layout_of Q.process) q r → AreMadeOf P Q (digits_of P) (digits_of Q) p q E G (functions_of a l r)
made_of P Q E G a l r p q is js v left right = record {
  left_reacts = reacts_as P E is;
  right_reacts = reacts_as Q G js;
  left = λ x o m' sized. left.react x o m' (sized ∙ sym v);
  right = λ x o m' sized. right.react x o m' (sized ∙ sym v);
  left_structural = λ x sized. left.structural.exact x (sized ∙ sym v);
  right_structural = λ x sized. right.structural.exact x (sized ∙ sym v);
}

-- ---- the least values

pub least_as : (v : ℕ) (g h : Function) (x : List Bool) → AreEqual v g h → IsLeast v g x → IsLeast v h x
least_as v g h x equal is = record {
  sized = is.sized;
  holds = sym (equal x is.sized) ∙ is.holds;
  first = λ y sized t. is.first y sized (equal y sized ∙ t);
}

-- ---- the name of a place

pub record Named (names : List Spelled) (place : ℕ) : Type 0 where
  pub name : Spelled
  pub at : slice_get names place ≡ Some name

named : (names : List Spelled) (place : ℕ) → place < length names → Named names place
named [] place below = absurd (omega (arith, below))
named (n ∷ names) zero below = record { name = n; at = refl }
named (n ∷ names) (suc place) below = let r = named names place (omega (arith, below)) in record { name = r.name; at = r.at }

-- ---- over the arena in which both programs are drawn, and a later one

module _ (F : Formula) (P Q : PlainModule) (p q : Places) (E G : Equations) (a b : ArenaView) (d : Drawn) (drawn : IsDrawn F (layout_of P.process) (layout_of Q.process) p q E G a d)
    (valid : IsArena a) (v : a.variables ≡ job_variables P Q) (keeps : Keeps a b) (share : ShareNames P Q) (sized_outputs : length d.left.outputs.items ≡ output_count P) where
  abbrev lefts : List NodeId
  lefts = d.left.outputs.items

  abbrev answers : List NodeId
  answers = in_left_order P Q d.right.outputs.items

  at_first : (x : List Bool) → length x ≡ job_variables P Q → length x ≡ a.variables
  at_first x sized = sized ∙ sym v

  at_later : (x : List Bool) → length x ≡ job_variables P Q → length x ≡ b.variables
  at_later x sized = at_first x sized ∙ sym keeps.variables

  -- the right outputs by the left names
  answers_by_name : (x : List Bool) → length x ≡ job_variables P Q → values_at a answers x ≡ in_order_of P.outputs Q.outputs (values_at a d.right.outputs.items x) false
  answers_by_name x sized = values-in_order a P.outputs Q.outputs d.right.outputs.items x valid (at_first x sized)

  left_sized : (x : List Bool) → length (values_at a lefts x) ≡ length P.outputs
  left_sized x = length-map lefts (λ (f : NodeId). function_of a f.0 x) ∙ sized_outputs

  any_by_name : (x : List Bool) → length x ≡ job_variables P Q → any_differs (values_at a lefts x) (values_at a answers x) ≡ some_differ P.outputs P Q (values_at a lefts x) (values_at a d.right.outputs.items x)
  any_by_name x sized =
      ap (any_differs (values_at a lefts x)) (answers_by_name x sized)
      ∙ in_order P Q (values_at a lefts x) (values_at a d.right.outputs.items x) share (left_sized x)

  pub differing_is : (node : ℕ) → Denotes b node (differing_function a d.pairs.0 lefts answers) → AreEqual (job_variables P Q) (function_of b node) (differing (tests_of F P Q p q (functions_of a d.left d.right)))
  differing_is node is x sized =
      is.equal x (at_later x sized)
      ∙ ap (λ (t : Bool). t && any_differs (values_at a lefts x) (values_at a answers x)) (drawn.pairs.equal x (at_first x sized))
      ∙ ap (λ (t : Bool). pairs (tests_of F P Q p q (functions_of a d.left d.right)) x && t) (any_by_name x sized)

  held_answers : AreHeld a answers
  held_answers = held_in_order a P.outputs Q.outputs d.right.outputs.items valid drawn.right.outputs_held

  lefts_kept : (x : List Bool) → length x ≡ job_variables P Q → values_at b lefts x ≡ values_at a lefts x
  lefts_kept x sized = values-kept a b lefts x keeps drawn.left.outputs_held (at_first x sized)

  answers_kept : (x : List Bool) → length x ≡ job_variables P Q → values_at b answers x ≡ values_at a answers x
  answers_kept x sized = values-kept a b answers x keeps held_answers (at_first x sized)

  -- where the node is true some output differs
  pub some_told : (node : ℕ) (x : List Bool) (place : Option ℕ) → Denotes b node (differing_function a d.pairs.0 lefts answers) → length x ≡ job_variables P Q → function_of b node x ≡ true
      → MatchOption place (any_differs (values_at b lefts x) (values_at b answers x) ≡ false) (IsFirstDifference (values_at b lefts x) (values_at b answers x)) → IsSome place
  some_told node x (Some k) is sized holds found = refl
  some_told node x None is sized holds none =
      let differ : any_differs (values_at a lefts x) (values_at a answers x) ≡ true = and_second (function_of a d.pairs.0 x) _ (sym (is.equal x (at_later x sized)) ∙ holds) in
      let same : any_differs (values_at a lefts x) (values_at a answers x) ≡ false =
      ap (λ (o : SignalSet). any_differs o (values_at a answers x)) (sym (lefts_kept x sized)) ∙ ap (any_differs (values_at b lefts x)) (sym (answers_kept x sized)) ∙ none in
      cc (differ, same)

  pub told_first : (x : List Bool) (place : ℕ) → length x ≡ job_variables P Q → IsFirstDifference (values_at b lefts x) (values_at b answers x) place → IsToldFirst P Q (functions_of a d.left d.right) x place
  told_first x place sized is =
      let by_name : IsFirstDifference (values_at a lefts x) (in_order_of P.outputs Q.outputs (values_at a d.right.outputs.items x) false) place =
      subst (λ (o : SignalSet). IsFirstDifference (values_at a lefts x) o place) (answers_kept x sized ∙ answers_by_name x sized)
      (subst (λ (o : SignalSet). IsFirstDifference o (values_at b answers x) place) (lefts_kept x sized) is) in
      let n : Named P.outputs place = named P.outputs place (omega (arith, by_name.below, left_sized x)) in
      let r = first_by_name P Q (values_at a lefts x) (values_at a d.right.outputs.items x) place n.name share by_name n.at in
      record { name = n.name; at = n.at; differ = r.0; first = r.1 }

  -- the node of those that lead to unrelated memories
  pub leaving_is : (c : ArenaView) (node : ℕ) → Keeps b c → Denotes c node (leaving_function b d.pairs.0 (layout_of P.process) (layout_of Q.process) F d.left.next.items d.right.next.items)
      → AreEqual (job_variables P Q) (function_of c node) (leaving (tests_of F P Q p q (functions_of a d.left d.right)))
  leaving_is c node later is x sized =
      let related : List ℕ → List ℕ → Bool = related_by (layout_of P.process) (layout_of Q.process) F in
      is.equal x (at_later x sized ∙ sym later.variables)
      ∙ ap (λ (t : Bool). t && not (related (codes_at b d.left.next.items x) (codes_at b d.right.next.items x)))
      (keeps.denotes d.pairs.0 drawn.pairs.held x (at_first x sized) ∙ drawn.pairs.equal x (at_first x sized))
      ∙ ap (λ (m : List ℕ). pairs (tests_of F P Q p q (functions_of a d.left d.right)) x && not (related m (codes_at b d.right.next.items x)))
      (codes_kept a b d.left.next.items x keeps drawn.left.next_words (at_first x sized))
      ∙ ap (λ (n : List ℕ). pairs (tests_of F P Q p q (functions_of a d.left d.right)) x && not (related (codes_at a d.left.next.items x) n))
      (codes_kept a b d.right.next.items x keeps drawn.right.next_words (at_first x sized))

  -- the least values over the later arenas are those of the functions that decide
  over_later : (c : ArenaView) → Keeps b c → c.variables ≡ job_variables P Q
  over_later c later = later.variables ∙ keeps.variables ∙ v

  module _ (is : IsSystemOf P E) (js : IsSystemOf Q G) (node : ℕ) (denotes : Denotes b node (differing_function a d.pairs.0 lefts answers)) where
    outcome_of : (o : Outcome) → IsFoundBy F P Q p q (functions_of a d.left d.right) o → IsOutcome F P Q p q E G o
    outcome_of o found = record { functions = functions_of a d.left d.right; made = made_of P Q E G a d.left d.right p q is js v drawn.left drawn.right; is = found }

    pub outputs_outcome : (at : Vec Bool Global) (place : ℕ) → IsLeast b.variables (function_of b node) at.items → IsFirstDifference (values_at b lefts at.items) (values_at b answers at.items) place
        → IsOutcome F P Q p q E G (outcome.Outputs at place)
    outputs_outcome at place least first =
        let here : IsLeast (job_variables P Q) (function_of b node) at.items = subst (λ (n : ℕ). IsLeast n (function_of b node) at.items) (keeps.variables ∙ v) least in
        outcome_of (outcome.Outputs at place)
        (least_as (job_variables P Q) (function_of b node) (differing (tests_of F P Q p q (functions_of a d.left d.right))) at.items (differing_is node denotes) here, told_first at.items place here.sized first)

    -- no related memories react differently
    none_differing : AreEqual b.variables (function_of b node) (constant false) → AreEqual (job_variables P Q) (differing (tests_of F P Q p q (functions_of a d.left d.right))) (constant false)
    none_differing none x sized = sym (differing_is node denotes x sized) ∙ none x (at_later x sized)

    module _ (none : AreEqual b.variables (function_of b node) (constant false)) (c : ArenaView) (later : Keeps b c) (last : ℕ)
        (leads : Denotes c last (leaving_function b d.pairs.0 (layout_of P.process) (layout_of Q.process) F d.left.next.items d.right.next.items)) where
      pub leaves_outcome : (at : Vec Bool Global) → IsLeast c.variables (function_of c last) at.items → IsOutcome F P Q p q E G (outcome.Leaves at)
      leaves_outcome at least =
          let here : IsLeast (job_variables P Q) (function_of c last) at.items = subst (λ (n : ℕ). IsLeast n (function_of c last) at.items) (over_later c later) least in
          outcome_of (outcome.Leaves at)
          (none_differing none, least_as (job_variables P Q) (function_of c last) (leaving (tests_of F P Q p q (functions_of a d.left d.right))) at.items (leaving_is c last later leads) here)

      pub accept_outcome : AreEqual c.variables (function_of c last) (constant false) → IsOutcome F P Q p q E G outcome.Accept
      accept_outcome never = outcome_of outcome.Accept
          (none_differing none, λ x sized. sym (leaving_is c last later leads x sized) ∙ never x (at_later x sized ∙ sym later.variables))

-- ---- what a match on an answer says

pub some_least : (v : ℕ) (g : Function) (r : Option (Vec Bool Global)) (x : Vec Bool Global) → r ≡ Some x → MatchOption r (AreEqual v g (constant false)) (λ x. IsLeast v g x.items) → IsLeast v g x.items
some_least v g r x e h = subst (λ (o : Option (Vec Bool Global)). MatchOption o (AreEqual v g (constant false)) (λ x. IsLeast v g x.items)) e h

pub none_least : (v : ℕ) (g : Function) (r : Option (Vec Bool Global)) → r ≡ None → MatchOption r (AreEqual v g (constant false)) (λ x. IsLeast v g x.items) → AreEqual v g (constant false)
none_least v g r e h = subst (λ (o : Option (Vec Bool Global)). MatchOption o (AreEqual v g (constant false)) (λ x. IsLeast v g x.items)) e h

pub some_place : (o p : SignalSet) (r : Option ℕ) (place : ℕ) → r ≡ Some place → MatchOption r (any_differs o p ≡ false) (IsFirstDifference o p) → IsFirstDifference o p place
some_place o p r place e h = subst (λ (k : Option ℕ). MatchOption k (any_differs o p ≡ false) (IsFirstDifference o p)) e h

-- the first place, where nodes and values are given by other lists
pub told_by : (arena : ArenaView) {lefts rights ls rs : List NodeId} {x y : List Bool} (place : Option ℕ) → ls ≡ lefts → rs ≡ rights → y ≡ x
    → MatchOption place (any_differs (values_at arena ls y) (values_at arena rs y) ≡ false) (IsFirstDifference (values_at arena ls y) (values_at arena rs y))
    → MatchOption place (any_differs (values_at arena lefts x) (values_at arena rights x) ≡ false) (IsFirstDifference (values_at arena lefts x) (values_at arena rights x))
told_by arena {lefts} {rights} {ls} {rs} {x} {y} place l r e is =
    subst (λ (z : List Bool). MatchOption place (any_differs (values_at arena lefts z) (values_at arena rights z) ≡ false) (IsFirstDifference (values_at arena lefts z) (values_at arena rights z))) e
    (subst (λ (w : List NodeId). MatchOption place (any_differs (values_at arena lefts y) (values_at arena w y) ≡ false) (IsFirstDifference (values_at arena lefts y) (values_at arena w y))) r
    (subst (λ (w : List NodeId). MatchOption place (any_differs (values_at arena w y) (values_at arena rs y) ≡ false) (IsFirstDifference (values_at arena w y) (values_at arena rs y))) l is))
