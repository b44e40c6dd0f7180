-- From the verdict on a program's equations to the verdict on the program.
use Rattle.std.proofs.Common.{◌≡◌, ◌≢◌, ◌↔◌, ℕ, zero, suc, nat_eq, Bool, cond, false, inl, inr, ◌+◌, ◌*◌, ◌^◌, ◌<◌, ◌≤◌, List, [], ◌∷◌, true, filter, length, refl, sym, ap, ◌∙◌, subst, arith}
use Rattle.std.specs.List.{range_with_len}
use Rattle.std.proofs.Math.Nat.{mul-le-mul_right}
use Rattle.std.proofs.lemmas.Bool.{or_left, or_right}
use Rattle.std.proofs.lemmas.Bool.Decides.{nat_tests}
use Rattle.std.proofs.lemmas.List.FromFn.{length-range_with_len}
use Rattle.argos_base.specs.Machines.{Fault, AlwaysReactsOnce, IsFirstBadOf}
use Rattle.argos_base.specs.SignalSets.{SignalSet, lists}
use Rattle.argos_base.proofs.Bools.{true_or_false, or_cases}
use Rattle.argos_core.specs.Automata.{register_count}
use Rattle.argos_core.specs.Layouts.{RegisterShape, layout_of, FitsLayout}
use Rattle.argos_core.specs.Modules.{IsModule, IsShaped}
use Rattle.argos_core.specs.Overlaps.{IsProgram, IsGood}
use Rattle.argos_core.specs.Process.{PlainModule}
use Rattle.argos_core.specs.Reactions.{input_count, output_count, signal_count}
use Rattle.argos_core.specs.Sizes.{size_of}
use Rattle.argos_verdict.specs.Jobs.{AreCyclicSignals, reaction_variables, FitsReactions, IsTooWide, IsStopped}
use Rattle.argos_verdict.specs.Judgements.{IsAcceptable, IsBadCase}
use Rattle.dd_core.specs.Arenas.{ArenaView}
use Rattle.dd_core.specs.Functions.{need}
use Rattle.eqn_build.specs.Promises.{ReactsAs, IsCyclicAs}
use Rattle.eqn_core.specs.Equations.{Equations, weight_of}
use Rattle.eqn_core.specs.Plans.{IsPlanOf}
use Rattle.eqn_core.specs.Solutions.{SystemReacts}
use Rattle.eqn_scheme.specs.SignalDependence.{IsCyclic}
use Rattle.eqn_verdict.specs.Needs.{counted_operations}
use Rattle.eqn_verdict.specs.Programs.{IsSystemOf}
use Rattle.eqn_verdict.proofs.Counted.{acceptance_counts_more}
use Rattle.eqn_verdict.proofs.OfPrograms.{one_is_one, first_bad_is_first_bad, layouts_are_sized}
use Rattle.instant_check.specs.ModuleOverlaps.{IsClear}
use Rattle.instant_verdict.specs.Jobs as system-jobs
use Rattle.instant_verdict.specs.Jobs.{job_size, job_variables}

-- the layout has a shape for each register
pub layout-sized : (P : PlainModule) (layout : List RegisterShape) (n : ℕ) → IsShaped P.process → layout ≡ layout_of P.process → n ≡ register_count P.process → length layout ≡ n
layout-sized P layout n shaped same count = ap length same ∙ layouts_are_sized P.process shaped ∙ sym count

in-range : (a n k : ℕ) → a ≤ k → k < a + n → lists (range_with_len a n) k ≡ true
in-range a zero k low high = absurd (omega (arith, low, high))
in-range a (suc n) k low high = elim (true_or_false (nat_eq a k)) [
  | inl same ↦ or_left (nat_eq a k) (lists (range_with_len (a + 1) n) k) same
  | inr other ↦ or_right (nat_eq a k) (lists (range_with_len (a + 1) n) k) (in-range (a + 1) n k (later a k other low) (omega (arith, high)))
]
  where
    later : (a k : ℕ) → nat_eq a k ≡ false → a ≤ k → a + 1 ≤ k
    later a k other low = let apart : a ≢ k = grind (arith, nat_tests) in omega (arith, apart, low)

-- the cyclic bits of the plan are the cyclic signals
pub cyclic-signals : (P : PlainModule) (E : Equations) (order cyclic : List ℕ) → E.locals ≡ range_with_len (input_count P + output_count P) (length P.locals)
    → IsCyclicAs P E → IsPlanOf E order cyclic → AreCyclicSignals P cyclic
cyclic-signals P E order cyclic locals own_cyclic plan = record {
  test = plan.cyclic_bits.test;
  exact = λ k low high.
      let listed : lists E.locals k ≡ true = subst (λ (ks : List ℕ). lists ks k ≡ true) (sym locals) (in-range (input_count P + output_count P) (length P.locals) k low (omega (arith, high))) in
      let bit = plan.cyclic_bits.exact k listed in
      let own = own_cyclic k low high in
      (λ t. own.0 (bit.0 t), λ h. bit.1 (own.1 h));
  is = plan.cyclic_bits.is ∙ ap (filter plan.cyclic_bits.test) locals;
}

-- what a range lists lies in it
in-range-of : (a n k : ℕ) → lists (range_with_len a n) k ≡ true → (a ≤ k) × (k < a + n)
in-range-of a zero k h = cc
in-range-of a (suc n) k h = elim (or_cases (nat_eq a k) (lists (range_with_len (a + 1) n) k) h) [
  | inl e ↦ (let same : a ≡ k = grind (arith, nat_tests) in (omega arith, omega arith))
  | inr later ↦ (let r = in-range-of (a + 1) n k later in (omega (arith, r.0), omega (arith, r.1)))
]

not-empty : (xs : List ℕ) → ¬ (xs ≡ []) → 0 < length xs
not-empty [] h = absurd (h refl)
not-empty (x ∷ xs) h = omega arith

pub outputs-few : (P : PlainModule) (outs : List ℕ) → outs ≡ range_with_len (input_count P) (output_count P) → length outs ≤ size_of P
outputs-few P outs is = let n = ap length is ∙ length-range_with_len (input_count P) (output_count P) in omega (arith, n)

-- tests that agree on a list filter it alike
same-filters : (p q : ℕ → Bool) (xs : List ℕ) → ((k : ℕ) → lists xs k ≡ true → p k ≡ q k) → filter p xs ≡ filter q xs
same-filters p q [] h = refl
same-filters p q (x ∷ xs) h =
    let itself : nat_eq x x ≡ true = grind (arith, nat_tests) in
    ap (λ (b : Bool). cond b (x ∷ filter p xs) (filter p xs)) (h x (or_left (nat_eq x x) (lists xs x) itself))
    ∙ ap (λ (ys : List ℕ). cond (q x) (x ∷ ys) ys) (same-filters p q xs (λ k l. h k (or_right (nat_eq x k) (lists xs k) l)))

-- two tests of one fact
same-tests : (a b : Bool) (X : Type 0) → (a ≡ true) ↔ X → (b ≡ true) ↔ X → a ≡ b
same-tests true b X h k = sym (k.1 (h.0 refl))
same-tests false true X h k = h.1 (k.0 refl)
same-tests false false X h k = refl

-- a module has one list of cyclic signals
pub one-cyclic : (P : PlainModule) (a b : List ℕ) → AreCyclicSignals P a → AreCyclicSignals P b → a ≡ b
one-cyclic P a b is is' =
    is.is
    ∙ same-filters is.test is'.test (range_with_len (input_count P + output_count P) (length P.locals)) (λ k l.
    let r = in-range-of (input_count P + output_count P) (length P.locals) k l in
    let high : k < signal_count P = omega (arith, r.1) in
    same-tests (is.test k) (is'.test k) (IsCyclic P k) (is.exact k r.0 high) (is'.exact k r.0 high))
    ∙ sym is'.is

pub is-program : (P : PlainModule) → IsModule P → IsClear P → IsProgram P
is-program P m clear = record { is = m; no_overlap = clear.none }

module _ (P : PlainModule) (E : Equations) (layout : List RegisterShape) (m : IsModule P) (clear : IsClear P) (inputs : E.inputs ≡ input_count P) (reacts : ReactsAs P E) (same : layout ≡ layout_of P.process) where
  system : IsSystemOf P E
  system = record { inputs = inputs; reacts = reacts }

  program : IsProgram P
  program = is-program P m clear

  pub once : AlwaysReactsOnce (FitsLayout layout) E.inputs (SystemReacts E) → AlwaysReactsOnce (FitsLayout (layout_of P.process)) E.inputs (SystemReacts E)
  once h = subst (λ (l : List RegisterShape). AlwaysReactsOnce (FitsLayout l) E.inputs (SystemReacts E)) same h

  good : AlwaysReactsOnce (FitsLayout layout) E.inputs (SystemReacts E) → IsGood P
  good h = record { program = program; one = (one_is_one P E m.shaped system).0 (once h) }

  variables-are : (cyclic : List ℕ) → job_variables E layout cyclic ≡ reaction_variables P cyclic
  variables-are cyclic = ap (λ (l : List RegisterShape). job_variables E l cyclic) same ∙ omega (arith, inputs)

  fits : (cyclic : List ℕ) → AreCyclicSignals P cyclic → (0 < length cyclic → job_variables E layout cyclic ≤ 1024) → FitsReactions P
  fits cyclic are few other is some =
      let v = variables-are cyclic in
      let have : 0 < length cyclic → reaction_variables P cyclic ≤ 1024 = λ h. (let f = few h in omega (arith, v, f)) in
      subst (λ (ks : List ℕ). 0 < length ks → reaction_variables P ks ≤ 1024) (one-cyclic P cyclic other are is) have some

  pub acceptable : (cyclic : List ℕ) → AreCyclicSignals P cyclic → (0 < length cyclic → job_variables E layout cyclic ≤ 1024) → AlwaysReactsOnce (FitsLayout layout) E.inputs (SystemReacts E) → IsAcceptable P
  acceptable cyclic are few h = record { good = good h; clear = clear; fits = fits cyclic are few }

  pub bad-case : (cyclic : List ℕ) (n : List ℕ) (i : SignalSet) (f : Fault) → AreCyclicSignals P cyclic → (0 < length cyclic → job_variables E layout cyclic ≤ 1024) → IsFirstBadOf (FitsLayout layout) E.inputs (SystemReacts E) n i f → IsBadCase P n i f
  bad-case cyclic n i f are few bad = record {
    program = program;
    clear = clear;
    fits = fits cyclic are few;
    first = (first_bad_is_first_bad P E n i f system).0 (subst (λ (l : List RegisterShape). IsFirstBadOf (FitsLayout l) E.inputs (SystemReacts E) n i f) same bad);
  }

  pub wide : (cyclic : List ℕ) (n : ℕ) → AreCyclicSignals P cyclic → ¬ (cyclic ≡ []) → n ≡ job_variables E layout cyclic → 1024 < n → IsTooWide P n
  wide cyclic n are some is many = inr (record { clear = clear; cyclic = cyclic; are = are; some = not-empty cyclic some; variables = is ∙ variables-are cyclic; many = many })

  need-grows : (m n v budget : ℕ) → m ≤ n → budget < need m v → budget < need n v
  need-grows m n v budget more below =
      let product : m * 2 ^ (v + 1) ≤ n * 2 ^ (v + 1) = mul-le-mul_right (2 ^ (v + 1)) more in
      omega (arith, below, product)

  pub stopped : (cyclic : List ℕ) (budget : ℕ) (arena : ArenaView) → AreCyclicSignals P cyclic → ¬ (cyclic ≡ []) → weight_of E ≤ 32 * size_of P → length E.outputs ≤ size_of P
      → system-jobs.IsStopped E layout cyclic budget arena → IsStopped P budget arena
  stopped cyclic budget arena are some light few is = inr (record {
    clear = clear;
    cyclic = cyclic;
    are = are;
    some = not-empty cyclic some;
    variables = is.variables_are ∙ variables-are cyclic;
    budget_is = is.budget_is;
    full = is.full;
    lacks = is.lacks;
    below = subst (λ (v : ℕ). budget < need (64 * (size_of P + v + 16) ^ 2) v) (variables-are cyclic)
        (need-grows (counted_operations (job_size E layout cyclic)) (64 * (size_of P + job_variables E layout cyclic + 16) ^ 2) (job_variables E layout cyclic) budget
        (acceptance_counts_more (job_size E layout cyclic) (size_of P) light few) is.below);
  })
