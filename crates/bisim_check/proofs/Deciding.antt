-- From what the search finds to the due answer.
use Rattle.std.proofs.Common.{◌≡◌, ℕ, ◌+◌, ◌<◌, ◌≤◌, zero, suc, List, [], ◌∷◌, ◌++◌, ◌^◌, Bool, true, Option, Some, length, drop, slice_get, sym, ap, ◌∙◌, subst, arith}
use Rattle.std.specs.Prelude.{All}
use Rattle.std.proofs.lemmas.List.{length-map}
use Rattle.std.proofs.lemmas.List.FromFn.{length-range_with_len}
use Rattle.std.proofs.Math.Logic.{∥∥₁_elim}
use Rattle.std.proofs.Props.{props}
use Rattle.std.proofs.lemmas.Option.{slice_get_within}
use Rattle.argos_base.specs.Names.{Spelled}
use Rattle.argos_base.specs.SignalSets.{SignalSet}
use Rattle.argos_compile.specs.Accepting.{IsAccepted}
use Rattle.argos_congruence.specs.Congruence.{HaveSameNames}
use Rattle.argos_core.specs.Codes.{code_of}
use Rattle.argos_core.specs.Layouts.{RegisterShape, layout_of}
use Rattle.argos_core.specs.Modules.{IsModule}
use Rattle.argos_core.specs.Overlaps.{IsGood}
use Rattle.argos_core.proofs.CodesDiffer.{length-code_of}
use Rattle.argos_core.proofs.StepsStay.{initial_is}
use Rattle.eqn_verdict.proofs.OfPrograms.{layouts_are_sized}
use Rattle.argos_core.specs.Process.{PlainModule}
use Rattle.argos_core.specs.Reactions.{input_count, initial_of}
use Rattle.bisim_check.specs.Found.{answer_of}
use Rattle.bisim_check.specs.Jobs.{job_variables, job_size, IsStopped}
use Rattle.bisim_check.specs.declared.found.EquivFound.{EquivFound}
use Rattle.bisim_check.specs.declared.found.EquivFound.TheVariants as found
use Rattle.bisim_check.specs.declared.searching.Outcome.{Outcome}
use Rattle.bisim_check.specs.declared.searching.Outcome.TheVariants as outcome
use Rattle.bisim_check.specs.inner.Decoded.{IsSized, IsDecoded}
use Rattle.bisim_check.specs.inner.Searched.{digits_of, IsToldFirst, IsFoundBy, IsOutcome}
use Rattle.bisim_formula.specs.Formulas.{Formula, related_by}
use Rattle.bisim_verdict.specs.Bisimulation.{IsEquivAnswer}
use Rattle.bisim_verdict.specs.Counts.{equiv_operations, counted_operations}
use Rattle.bisim_verdict.specs.Laws.{AreNamed}
use Rattle.bisim_verdict.proofs.Few.{operations_are_few}
use Rattle.bisim_verdict.proofs.Named.{placed_together_are_named}
use Rattle.bisim_verdict.specs.EquivFunctions.{ArePlacedTogether, Functions, AreMadeOf, tests_of}
use Rattle.bisim_verdict.specs.EquivTests.{point, starts, differing, leaving, IsLeastPoint, IsFirstDiffering, IsFound}
use Rattle.bisim_verdict.proofs.Answering.{found_is_due}
use Rattle.bisim_verdict.proofs.Making.{systems_decide, differing_is_told}
use Rattle.bisim_verdict.proofs.Reading.{values_are_points, left_memory, right_memory, left_inputs}
use Rattle.bisim_verdict.proofs.Widths.{digits_fit}
use Rattle.dd_core.specs.Arenas.{ArenaView, IsEmpty, AddsAtMost, HasNoRoom}
use Rattle.dd_core.specs.Functions.{Function}
use Rattle.dd_core.proofs.Needs.{below_need}
use Rattle.dd_ops.specs.Least.{IsLeast}
use Rattle.eqn_completion.specs.Binary.{memory_of, digits_in, FitsIn}
use Rattle.eqn_core.specs.Equations.{Equations, registers}
use Rattle.eqn_dd.specs.declared.places.Places.{Places}
use Rattle.eqn_dd.specs.Placed.{NamesVariables, register_variables, memory_at, inputs_at}
use Rattle.eqn_dd.specs.Structural.{digit_count, widths_of}
use Rattle.eqn_dd.proofs.InTurn.{widths_narrow}

-- ---- the initial memories

pub starts_as : (F : Formula) (P Q : PlainModule) {ls rs : List RegisterShape} {m n : List ℕ} → ls ≡ layout_of P.process → rs ≡ layout_of Q.process
    → m ≡ code_of P.process (initial_of P) → n ≡ code_of Q.process (initial_of Q) → related_by ls rs F m n ≡ starts F P Q
starts_as F P Q {ls} {rs} {m} {n} el er em en = cc (el, er, em, en)

pub initial_as : (P : PlainModule) (E : Equations) (lines : ℕ) (m : List ℕ) → ∥ IsAccepted P E lines ∥₁ → m ≡ E.initial → m ≡ code_of P.process (initial_of P)
initial_as P E lines m judged e = ∥∥₁_elim judged (hlevel props) (λ (is : IsAccepted P E lines). e ∙ is.system.initial)

-- ---- what is found

-- the values that are found are the point of the memories and the input set that are read from them
module _ (P Q : PlainModule) {p q : Places} (placed : ArePlacedTogether P Q (digits_of P) (digits_of Q) p q) (x : List Bool) (sized : length x ≡ job_variables P Q) where
  abbrev behind : List Bool
  behind = drop (digits_in (digits_of P)) x

  abbrev first_memory : List ℕ
  first_memory = memory_of (digits_of P) x

  abbrev second_memory : List ℕ
  second_memory = memory_of (digits_of Q) behind

  abbrev input : SignalSet
  input = drop (digits_in (digits_of Q)) behind

  points : (point (digits_of P) (digits_of Q) first_memory second_memory input ≡ x) × FitsIn (digits_of P) first_memory × FitsIn (digits_of Q) second_memory × (length input ≡ input_count P)
  points = values_are_points (digits_of P) (digits_of Q) (input_count P) x sized

  pub record IsPointOf (m n : List ℕ) (i : SignalSet) : Type 0 where
    pub is : point (digits_of P) (digits_of Q) m n i ≡ x
    pub left : FitsIn (digits_of P) m
    pub right : FitsIn (digits_of Q) n
    pub inputs : length i ≡ input_count P

  pub read_point : (m n : List ℕ) (i : SignalSet) → m ≡ memory_at p x → n ≡ memory_at q x → i ≡ inputs_at p x → IsPointOf m n i
  read_point m n i em en ei =
      let pt = points in
      let is = pt.0 in
      let lm : m ≡ first_memory = em ∙ ap (memory_at p) (sym is) ∙ left_memory placed first_memory second_memory input pt.1 pt.2 in
      let rm : n ≡ second_memory = en ∙ ap (memory_at q) (sym is) ∙ right_memory placed first_memory second_memory input pt.1 pt.2 in
      let li : i ≡ input = ei ∙ ap (inputs_at p) (sym is) ∙ left_inputs placed first_memory second_memory input pt.1 pt.2 pt.3 in
      record {
        is = ap (λ (k : List ℕ). point (digits_of P) (digits_of Q) k n i) lm ∙ ap (λ (k : List ℕ). point (digits_of P) (digits_of Q) first_memory k i) rm ∙ ap (point (digits_of P) (digits_of Q) first_memory second_memory) li ∙ is;
        left = subst (FitsIn (digits_of P)) (sym lm) pt.1;
        right = subst (FitsIn (digits_of Q)) (sym rm) pt.2;
        inputs = ap length li ∙ pt.3;
      }

  pub least_point : (f : Function) (m n : List ℕ) (i : SignalSet) → IsPointOf m n i → IsLeast (job_variables P Q) f x → IsLeastPoint P Q (digits_of P) (digits_of Q) f m n i
  least_point f m n i at least = record {
    left_fits = at.left;
    right_fits = at.right;
    input = at.inputs;
    least = subst (IsLeast (job_variables P Q) f) (sym at.is) least;
  }

same_name : {x y : Spelled} → ◌≡◌ {A = Option Spelled} (Some x) (Some y) → x ≡ y
same_name h = cc

-- the due answer
module _ (F : Formula) (P Q : PlainModule) {p q : Places} {E G : Equations} (p_good : IsGood P) (q_good : IsGood Q) (names : HaveSameNames P Q) (started : starts F P Q ≡ true)
    (placed : ArePlacedTogether P Q (digits_of P) (digits_of Q) p q) where
  found_as : (f : Functions) → AreMadeOf P Q (digits_of P) (digits_of Q) p q E G f → (o : Outcome) (found : EquivFound) → IsFoundBy F P Q p q f o → IsDecoded P p q o found
      → IsFound F P Q (digits_of P) (digits_of Q) (tests_of F P Q p q f) (answer_of found)
  found_as f made outcome.Accept found.Accept is decoded = (names, started, is.0, is.1)
  found_as f made outcome.Accept (found.Interfaces name) is decoded = absurd decoded
  found_as f made outcome.Accept found.Start is decoded = absurd decoded
  found_as f made outcome.Accept (found.Outputs m n i name) is decoded = absurd decoded
  found_as f made outcome.Accept (found.Leaves m n i) is decoded = absurd decoded
  found_as f made (outcome.Outputs at place) found.Accept is decoded = absurd decoded
  found_as f made (outcome.Outputs at place) (found.Interfaces name) is decoded = absurd decoded
  found_as f made (outcome.Outputs at place) found.Start is decoded = absurd decoded
  found_as f made (outcome.Outputs at place) (found.Outputs m n i name) is decoded =
      let x = at.items in
      let pt = read_point P Q placed x is.0.sized m.items n.items i decoded.0 decoded.1 decoded.2 in
      let told : IsToldFirst P Q f x place = is.1 in
      let by_point : IsToldFirst P Q f (point (digits_of P) (digits_of Q) m.items n.items i) place = subst (λ (y : List Bool). IsToldFirst P Q f y place) (sym pt.is) told in
      let holds = ap (differing (tests_of F P Q p q f)) pt.is ∙ is.0.holds in
      let first : IsFirstDiffering P Q m.items n.items i by_point.name =
      differing_is_told F P Q (digits_of P) (digits_of Q) m.items n.items i p q E G f place by_point.name p_good q_good names (digits_fit P p_good.program.is.shaped) (digits_fit Q q_good.program.is.shaped) placed made pt.left pt.right pt.inputs
      holds by_point.at by_point.differ by_point.first in (
        names,
        started,
        least_point P Q placed x is.0.sized (differing (tests_of F P Q p q f)) m.items n.items i pt is.0,
        subst (IsFirstDiffering P Q m.items n.items i) (same_name (sym by_point.at ∙ decoded.3)) first,
      )
  found_as f made (outcome.Outputs at place) (found.Leaves m n i) is decoded = absurd decoded
  found_as f made (outcome.Leaves at) found.Accept is decoded = absurd decoded
  found_as f made (outcome.Leaves at) (found.Interfaces name) is decoded = absurd decoded
  found_as f made (outcome.Leaves at) found.Start is decoded = absurd decoded
  found_as f made (outcome.Leaves at) (found.Outputs m n i name) is decoded = absurd decoded
  found_as f made (outcome.Leaves at) (found.Leaves m n i) is decoded =
      let x = at.items in
      let pt = read_point P Q placed x is.1.sized m.items n.items i decoded.0 decoded.1 decoded.2 in
      (names, started, is.0, least_point P Q placed x is.1.sized (leaving (tests_of F P Q p q f)) m.items n.items i pt is.1)

  pub answered : (o : Outcome) (found : EquivFound) → IsOutcome F P Q p q E G o → IsDecoded P p q o found → IsEquivAnswer F P Q (answer_of found)
  answered o found is decoded =
      let left = digits_fit P p_good.program.is.shaped in
      let right = digits_fit Q q_good.program.is.shaped in
      let tests = systems_decide F P Q (digits_of P) (digits_of Q) p q E G is.functions p_good q_good names left right placed is.made in
      found_is_due F P Q (digits_of P) (digits_of Q) (tests_of F P Q p q is.functions) (answer_of found) p_good q_good left right tests (found_as is.functions is.made o found is.is decoded)

-- what is found has a value for each variable
pub sized_outcome : {F : Formula} {P Q : PlainModule} {p q : Places} {E G : Equations} (o : Outcome) → IsOutcome F P Q p q E G o → IsSized (job_variables P Q) P o
sized_outcome outcome.Accept is = tt
sized_outcome {F} {P} {Q} (outcome.Outputs at place) is = (is.is.0.sized, below P.outputs place is.is.1.name is.is.1.at)
  where
    below : (names : List Spelled) (k : ℕ) (name : Spelled) → slice_get names k ≡ Some name → k < length names
    below names k name h = slice_get_within names k name h
sized_outcome (outcome.Leaves at) is = is.is.1.sized

pub sized_prop : (v : ℕ) (P : PlainModule) (o : Outcome) → IsProp (IsSized v P o)
sized_prop v P outcome.Accept = hlevel props
sized_prop v P (outcome.Outputs at place) = hlevel props
sized_prop v P (outcome.Leaves at) = hlevel props

-- ---- the job

-- a system has the registers and the inputs of its program
pub registers_as : (P : PlainModule) (E : Equations) (lines : ℕ) → IsModule P → ∥ IsAccepted P E lines ∥₁ → registers E ≡ length (digits_of P)
registers_as P E lines kept judged = ∥∥₁_elim judged (hlevel props) (λ (is : IsAccepted P E lines).
    ap length is.system.initial ∙ length-code_of P.process (initial_of P) (initial_is P.process kept.shaped) ∙ sym (layouts_are_sized P.process kept.shaped) ∙ sym (length-map (layout_of P.process) (λ s. digit_count s.top)))

pub inputs_as : (P : PlainModule) (E : Equations) (lines : ℕ) → ∥ IsAccepted P E lines ∥₁ → E.inputs ≡ input_count P
inputs_as P E lines judged = ∥∥₁_elim judged (hlevel props) (λ (is : IsAccepted P E lines). is.system.inputs)

pub named_as : (P Q : PlainModule) (E G : Equations) (lines most : ℕ) (p q : Places) → IsModule P → IsModule Q → ∥ IsAccepted P E lines ∥₁ → ∥ IsAccepted Q G most ∥₁ → HaveSameNames P Q
    → ArePlacedTogether P Q (digits_of P) (digits_of Q) p q → AreNamed P Q (digits_of P) (digits_of Q) p q E G
named_as P Q E G lines most p q left right judged known same placed =
    placed_together_are_named P Q (digits_of P) (digits_of Q) p q E G right.names same placed (widths_narrow (layout_of P.process)) (widths_narrow (layout_of Q.process))
    (registers_as P E lines left judged) (registers_as Q G most right known) (inputs_as P E lines judged) (inputs_as Q G most known)

all_back : (v : ℕ) (xs ys : List ℕ) → All (λ k. k < v) (xs ++ ys) → All (λ k. k < v) ys
all_back v [] ys h = h
all_back v (x ∷ xs) ys h = all_back v xs ys (λ k d low. h (suc k) d (omega (arith, low)))

all_front : (v : ℕ) (xs ys : List ℕ) → All (λ k. k < v) (xs ++ ys) → All (λ k. k < v) xs
all_front v [] ys h k d low = absurd (omega (arith, low))
all_front v (x ∷ xs) ys h zero d low = h 0 d (omega arith)
all_front v (x ∷ xs) ys h (suc k) d low = all_front v xs ys (λ j e less. h (suc j) e (omega (arith, less))) k d (omega (arith, low))

pub inputs_exist : {v : ℕ} {E : Equations} (p : Places) → NamesVariables v E [] p → All (λ k. k < v) p.inputs.items
inputs_exist {v} p named =
    all_back v (register_variables p.regs.items) p.inputs.items (all_front v (register_variables p.regs.items ++ p.inputs.items) p.cyclic.items named.exist)

pub inputs_few : {P Q : PlainModule} {p q : Places} → IsModule P → ArePlacedTogether P Q (digits_of P) (digits_of Q) p q → length p.inputs.items < 2 ^ 32
inputs_few {P} {Q} {p} kept placed =
    let sized : length p.inputs.items ≡ input_count P = ap length placed.left_inputs ∙ length-range_with_len (digits_in (digits_of P) + digits_in (digits_of Q)) (input_count P) in
    omega (arith, sized, kept.signals)

-- each register has a digit
registers-few : (layout : List RegisterShape) → length (widths_of layout) ≤ digits_in (widths_of layout)
registers-few [] = omega arith
registers-few (s ∷ layout) = let here = one-digit s in let later = registers-few layout in omega (arith, here, later)
  where
    one-digit : (s : RegisterShape) → 1 ≤ digit_count s.top
    one-digit s = omega arith

pub stopped : (F : Formula) (P Q : PlainModule) (E G : Equations) (budget : ℕ) (begin end : ArenaView) → HaveSameNames P Q → starts F P Q ≡ true → registers E ≡ length (digits_of P) → registers G ≡ length (digits_of Q)
    → IsEmpty (job_variables P Q) budget begin → AddsAtMost (equiv_operations (job_size F P Q E G)) begin end → HasNoRoom end → IsStopped F P Q E G budget end
stopped F P Q E G budget begin end same started left right empty adds room =
    let j = job_size F P Q E G in
    let few : registers E + registers G ≤ job_variables P Q = omega (arith, left, right, registers-few (layout_of P.process), registers-few (layout_of Q.process)) in
    record {
      job = record { same = same; started = started };
      variables_are = adds.keeps.variables ∙ empty.variables;
      budget_is = adds.keeps.budget ∙ empty.budget;
      full = room.full;
      lacks = room.lacks;
      below = below_need (counted_operations j) (equiv_operations j) (job_variables P Q) budget begin end empty adds (operations_are_few j few) room;
    }
