-- The bound on lines of a module: it is one, and the nodes of its least locals are those of its equations.
use Rattle.std.proofs.Common.{◌≡◌, ◌↔◌, ℕ, ◌+◌, ◌*◌, ◌<◌, ◌≤◌, List, [], ◌∷◌, Bool, true, false, nat_eq, filter, length, inl, inr, refl, sym, ap, ◌∙◌, subst, arith}
use Rattle.std.specs.List.{range_with_len}
use Rattle.std.proofs.lemmas.Bool.Decides.{nat_tests}
use Rattle.argos_base.proofs.Bools.{true_or_false, or_cases, or_left, or_right}
use Rattle.argos_base.specs.SignalSets.{SignalSet, lists}
use Rattle.argos_core.specs.Codes.{IsStructural}
use Rattle.argos_core.specs.Layouts.{FitsLayout, layout_of}
use Rattle.argos_core.specs.Process.{PlainModule}
use Rattle.argos_core.specs.Reactions.{input_count, output_count, signal_count}
use Rattle.argos_core.specs.Sizes.{size_of}
use Rattle.argos_core.proofs.FittingMemories.{fitting_is_structural}
use Rattle.argos_core.proofs.StructuralFits.{structural_fits}
use Rattle.argos_verdict.specs.Jobs.{AreCyclicSignals, reaction_variables}
use Rattle.argos_verdict.proofs.JudgingSteps.{one-cyclic}
use Rattle.cycle_solve.specs.LeastFunctions.{HaveLeastNodes}
use Rattle.cycle_solve.specs.Solved.{HaveSolvedNodes}
use Rattle.cycle_solve.proofs.OneCount.{one-least-count, moved-count}
use Rattle.eqn_build.specs.Promises.{ChoosesLocals}
use Rattle.eqn_completion.specs.Completions.{SystemChooses}
use Rattle.eqn_core.specs.Equations.{Equations}
use Rattle.eqn_dd.specs.Structural.{widths_of}
use Rattle.eqn_scheme.specs.LocalSets.{AreLocals, ProgramChooses}
use Rattle.argos_compile.specs.Accepting.{HasCycle, HaveLocalNodes, IsLineBound, acyclic, solved}
use Rattle.argos_compile.specs.Laws.{OneLineBound}
use Rattle.argos_compile.proofs.Accepting.{in_range}

filter-listed : (test : ℕ → Bool) (xs : List ℕ) (k : ℕ) → lists (filter test xs) k ≡ true → (test k ≡ true) × (lists xs k ≡ true)
filter-listed test [] k l = cc
filter-listed test (x ∷ xs) k l = elim (true_or_false (test x)) [
  | inl y ↦ let m : lists (x ∷ filter test xs) k ≡ true = rw y at l in kept y m (filter-listed test xs k)
  | inr y ↦ let m : lists (filter test xs) k ≡ true = rw y at l in let r = filter-listed test xs k m in (r.0, or_right (nat_eq x k) (lists xs k) r.1)
]
  where
    kept : test x ≡ true → lists (x ∷ filter test xs) k ≡ true → (lists (filter test xs) k ≡ true → (test k ≡ true) × (lists xs k ≡ true)) → (test k ≡ true) × (lists (x ∷ xs) k ≡ true)
    kept y m later = elim (or_cases (nat_eq x k) (lists (filter test xs) k) m) [
      | inl e ↦ let same : x ≡ k = grind (arith, nat_tests) in (ap test (sym same) ∙ y, or_left (nat_eq x k) (lists xs k) e)
      | inr l ↦ let r = later l in (r.0, or_right (nat_eq x k) (lists xs k) r.1)
    ]

module _ (P : PlainModule) (cyclic : List ℕ) (are : AreCyclicSignals P cyclic) where
  listed : (k : ℕ) → lists cyclic k ≡ true → (are.test k ≡ true) × (lists (range_with_len (input_count P + output_count P) (length P.locals)) k ≡ true)
  listed k l = filter-listed are.test (range_with_len (input_count P + output_count P) (length P.locals)) k (ap (λ (ks : List ℕ). lists ks k) (sym are.is) ∙ l)

  -- cyclic signals are locals
  pub cyclic-locals : AreLocals P cyclic
  cyclic-locals k l = in_range k (input_count P + output_count P) (length P.locals) (listed k l).1

  -- and each depends on itself
  pub some-cycle : (k : ℕ) (ks : List ℕ) → k ∷ ks ≡ cyclic → HasCycle P
  some-cycle k ks e =
      let here : nat_eq k k ≡ true = grind (arith, nat_tests) in
      let l = ap (λ (xs : List ℕ). lists xs k) (sym e) ∙ or_left (nat_eq k k) (lists ks k) here in
      let range = cyclic-locals k l in
      (k, (are.exact k range.0 range.1).0 (listed k l).0)

  -- where a system chooses the module's locals, its nodes are the module's
  pub local-nodes : (E : Equations) (nodes : ℕ) → E.inputs ≡ input_count P → ChoosesLocals P E → HaveSolvedNodes E (layout_of P.process) cyclic nodes → HaveLocalNodes P cyclic nodes
  local-nodes E nodes inputs chosen h =
      moved-count (SystemChooses E cyclic) (ProgramChooses P cyclic) (FitsLayout (layout_of P.process)) (IsStructural P.process) (widths_of (layout_of P.process)) (input_count P) (length cyclic)
      (λ m. (fitting_is_structural P.process m, structural_fits P.process m))
      (λ m i x fit. chosen cyclic m i x cyclic-locals (fitting_is_structural P.process m fit))
      nodes
      (subst (λ (inputs : ℕ). HaveLeastNodes (SystemChooses E cyclic) (FitsLayout (layout_of P.process)) (widths_of (layout_of P.process)) inputs (length cyclic) nodes) inputs h)

pub one_line_bound : OneLineBound
one_line_bound P m n (acyclic none) (acyclic other) = refl
one_line_bound P m n (acyclic none) (solved cyclic nodes cycle are have) = absurd (none cycle)
one_line_bound P m n (solved cyclic nodes cycle are have) (acyclic none) = absurd (none cycle)
one_line_bound P m n (solved cyclic nodes cycle are have) (solved cyclic' nodes' cycle' are' have') =
    let same = one-cyclic P cyclic' cyclic are' are in
    let count : nodes ≡ nodes' = one-least-count (ProgramChooses P cyclic) (IsStructural P.process) (widths_of (layout_of P.process)) (input_count P) (length cyclic) nodes nodes' have (subst (λ (ks : List ℕ). HaveLocalNodes P ks nodes') same have') in
    ap (λ (k : ℕ). 8 * size_of P + 4 * k + reaction_variables P cyclic) count ∙ ap (λ (ks : List ℕ). 8 * size_of P + 4 * nodes' + reaction_variables P ks) (sym same)
