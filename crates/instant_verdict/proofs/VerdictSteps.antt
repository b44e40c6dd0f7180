-- From what is found in the values of variables to the verdict on the system.
use Rattle.std.proofs.Common.{◌≡◌, ℕ, zero, suc, ◌+◌, ◌*◌, ◌<◌, ◌≤◌, List, [], ◌∷◌, Bool, true, false, length, drop, slice_index_or, nat_eq, All, Fits, w32, refl, sym, ap, ◌∙◌, subst, arith}
use Rattle.std.proofs.lemmas.List.{length-map}
use Rattle.std.proofs.lemmas.List.FromFn.{get_or-range_with_len}
use Rattle.std.proofs.lemmas.Bool.Decides.{nat_tests}
use Rattle.argos_base.specs.Machines.{Fault, CodedReaction, no_reaction, several, AlwaysReactsOnce, IsFirstBadOf}
use Rattle.argos_base.specs.SignalSets.{SignalSet}
use Rattle.argos_core.specs.Layouts.{RegisterShape, FitsLayout}
use Rattle.dd_core.specs.Arenas.{ArenaView, IsEmpty, AddsAtMost, HasNoRoom}
use Rattle.dd_core.proofs.Needs.{below_need}
use Rattle.eqn_completion.specs.Binary.{memory_of, digits_in}
use Rattle.eqn_completion.specs.Findings.{Finding}
use Rattle.eqn_completion.proofs.Acyclic.{acyclic_react_once}
use Rattle.eqn_core.specs.Equations.{Line, all, any, within, digit, choose, Equations, registers, bits_of_line, bit_lines}
use Rattle.eqn_core.specs.Orderable.{IsOrderable}
use Rattle.eqn_core.specs.Plans.{IsPlanOf}
use Rattle.eqn_core.specs.Solutions.{SystemReacts}
use Rattle.eqn_dd.specs.declared.places.Places.{Places}
use Rattle.eqn_dd.specs.Placed.{Register, AreInTurn, registers_from}
use Rattle.eqn_dd.specs.Structural.{digit_count, widths_of}
use Rattle.eqn_dd.proofs.InTurn.{widths_narrow}
use Rattle.eqn_dd.proofs.PlannedSystems.{planned_placeable}
use Rattle.eqn_verdict.specs.Needs.{instant_operations, counted_operations}
use Rattle.eqn_verdict.proofs.Counted.{counted_are_enough}
use Rattle.eqn_verdict.specs.Searching.{some, least_answers, without, has_answers}
use Rattle.eqn_verdict.specs.Verdicts.{reaction_of, fault_at, at}
use Rattle.eqn_verdict.proofs.Verdict.{verdict_is_one, verdict_is_first_bad}
use Rattle.instant_verdict.specs.Jobs.{job_size, job_variables, IsStopped}
use Rattle.instant_verdict.specs.Verdicts.{IsVerdictOn, coded}
use Rattle.instant_verdict.specs.declared.reactions.Verdict.{Verdict}
use Rattle.instant_verdict.specs.declared.reactions.Verdict.TheVariants as verdicts
use Rattle.instant_verdict.specs.inner.Decoded.{register_widths, IsDecoded}
use Rattle.instant_verdict.specs.inner.Searched.{IsVerdictFound}
use Rattle.verdict_search.specs.Outcomes.{AreSized}
use Rattle.verdict_search.specs.declared.finding.Found.{Found}
use Rattle.verdict_search.specs.declared.finding.Found.TheVariants as founds

-- where nothing is cyclic
pub acyclic : (E : Equations) (order cyclic : List ℕ) (layout : List RegisterShape) → cyclic ≡ [] → IsPlanOf E order cyclic → length layout ≡ registers E → AlwaysReactsOnce (FitsLayout layout) E.inputs (SystemReacts E)
acyclic E order cyclic layout none plan shapes m i fits sized =
    acyclic_react_once E order (subst (λ (ks : List ℕ). IsPlanOf E order ks) none plan) m i (fits.sized ∙ shapes) sized

widths-back : (k : ℕ) (widths : List ℕ) → register_widths (registers_from k widths) ≡ widths
widths-back k [] = refl
widths-back k (w ∷ widths) = ap (λ (ws : List ℕ). w ∷ ws) (widths-back (k + w) widths)

-- the registers' widths are those of the layout
pub widths-are : (layout : List RegisterShape) {inputs cyclic : ℕ} {p : Places} → AreInTurn (widths_of layout) inputs cyclic p → register_widths p.regs.items ≡ widths_of layout
widths-are layout turn = ap register_widths turn.registers_are ∙ widths-back 0 (widths_of layout)

narrow-from : (regs : List Register) (widths : List ℕ) → register_widths regs ≡ widths → All (λ (w : ℕ). w ≤ 16) widths → All (λ (r : Register). r.1 ≤ 16) regs
narrow-from regs widths same narrow = each regs (subst (λ (ws : List ℕ). All (λ (w : ℕ). w ≤ 16) ws) (sym same) narrow)
  where
    each : (rs : List Register) → All (λ (w : ℕ). w ≤ 16) (register_widths rs) → All (λ (r : Register). r.1 ≤ 16) rs
    each [] h k d inside = absurd (omega arith)
    each (r ∷ rs) h zero d inside = h 0 r.1 (omega arith)
    each (r ∷ rs) h (suc k) d inside = each rs (λ j e below. h (suc j) e (omega arith)) k d (omega arith)

pub registers-narrow : (layout : List RegisterShape) {inputs cyclic : ℕ} {p : Places} → AreInTurn (widths_of layout) inputs cyclic p → All (λ (r : Register). r.1 ≤ 16) p.regs.items
registers-narrow layout {inputs} {cyclic} {p} turn = narrow-from p.regs.items (widths_of layout) (widths-are layout turn) (widths_narrow layout)

few-digits : (widths : List ℕ) → All (λ (w : ℕ). w ≤ 16) widths → digits_in widths ≤ 16 * length widths
few-digits [] h = omega arith
few-digits (w ∷ widths) h = let here = h 0 w (omega arith) in let later = few-digits widths (λ k d below. h (suc k) d (omega arith)) in omega (arith, here, later)

pub digits-few : (layout : List RegisterShape) → digits_in (widths_of layout) ≤ 16 * length layout
digits-few layout = let h = few-digits (widths_of layout) (widths_narrow layout) in omega (arith, h, length-map layout (λ s. digit_count s.top))

-- the first variable of a cyclic bit comes behind all others
pub first-cyclic : (layout : List RegisterShape) (d : ℕ) {inputs cyclic : ℕ} {p : Places} → AreInTurn (widths_of layout) inputs cyclic p → 0 < cyclic → slice_index_or p.cyclic.items 0 d ≡ digits_in (widths_of layout) + inputs
first-cyclic layout d {inputs} {cyclic} turn some =
    ap (λ (ks : List ℕ). slice_index_or ks 0 d) turn.cyclic_are ∙ get_or-range_with_len (digits_in (widths_of layout) + inputs) cyclic 0 d some ∙ omega arith

module _ (E : Equations) (order cyclic : List ℕ) (layout : List RegisterShape) (orderable : IsOrderable E) (plan : IsPlanOf E order cyclic) (shapes : length layout ≡ registers E) where
  abbrev bad-at : SignalSet → Fault → Type 0
  bad-at y f = IsFirstBadOf (FitsLayout layout) E.inputs (SystemReacts E) (memory_of (widths_of layout) y) (drop (digits_in (widths_of layout)) y) f

  moved : (y : SignalSet) (f g : Fault) (m : List ℕ) (i : SignalSet) → m ≡ memory_of (widths_of layout) y → i ≡ drop (digits_in (widths_of layout)) y → f ≡ g → bad-at y f → IsFirstBadOf (FitsLayout layout) E.inputs (SystemReacts E) m i g
  moved y f g m i memory input same bad =
      subst (λ (n : List ℕ). IsFirstBadOf (FitsLayout layout) E.inputs (SystemReacts E) n i g) (sym memory)
      (subst (λ (j : SignalSet). IsFirstBadOf (FitsLayout layout) E.inputs (SystemReacts E) (memory_of (widths_of layout) y) j g) (sym input)
      (subst (bad-at y) same bad))

  no-fault : (c outs words : ℕ) (K : Finding) (gs : List Finding) (y : SignalSet) → some c (K y) ≡ false → fault_at c outs words K gs y ≡ no_reaction
  no-fault c outs words K gs y none = rw none refl

  two-faults : (c outs words : ℕ) (K : Finding) (gs : List Finding) (y : SignalSet) (first second : List Bool) → some c (K y) ≡ true → first ≡ least_answers c (K y) (at gs y)
      → second ≡ least_answers c (without (K y) (has_answers (at gs y) first)) (at gs y) → fault_at c outs words K gs y ≡ several (reaction_of outs words first) (reaction_of outs words second)
  two-faults c outs words K gs y first second some is others =
      let least : List Bool = least_answers c (K y) (at gs y) in
      let step : fault_at c outs words K gs y ≡ several (reaction_of outs words least) (reaction_of outs words (least_answers c (without (K y) (has_answers (at gs y) least)) (at gs y))) = rw some refl in
      step
      ∙ ap (λ (l : List Bool). several (reaction_of outs words l) (reaction_of outs words (least_answers c (without (K y) (has_answers (at gs y) l)) (at gs y)))) (sym is)
      ∙ ap (λ (l : List Bool). several (reaction_of outs words first) (reaction_of outs words l)) (sym others)

  pub verdict-read : (found : Found) (verdict : Verdict) → IsVerdictFound E layout cyclic found → IsDecoded (widths_of layout) (length E.outputs) (length E.next) found verdict → IsVerdictOn E layout verdict
  verdict-read founds.One verdicts.One is read = (verdict_is_one E order cyclic layout (widths_of layout) is.structural is.consistent is.results orderable plan shapes is.wide is.are).0 is.is
  verdict-read (founds.NoReaction y) (verdicts.NoReaction memory input) is read =
      let c = length cyclic in
      moved y.items (fault_at c (length E.outputs) (length E.next) is.consistent is.results y.items) no_reaction memory.items input read.0 read.1
      (no-fault c (length E.outputs) (length E.next) is.consistent is.results y.items is.is.none)
      (verdict_is_first_bad E order cyclic layout (widths_of layout) is.structural is.consistent is.results orderable plan shapes is.wide is.are y.items is.is.first_bad)
  verdict-read (founds.Several y first second) (verdicts.Several memory input r s) is read =
      let c = length cyclic in
      let outs = length E.outputs in
      let words = length E.next in
      moved y.items (fault_at c outs words is.consistent is.results y.items) (several (coded r) (coded s)) memory.items input read.0 read.1
      (two-faults c outs words is.consistent is.results y.items first.items second.items is.is.some_react is.is.first_least is.is.second_least
      ∙ ap (λ (t : CodedReaction). several t (reaction_of outs words second.items)) (sym read.2) ∙ ap (several (coded r)) (sym read.3))
      (verdict_is_first_bad E order cyclic layout (widths_of layout) is.structural is.consistent is.results orderable plan shapes is.wide is.are y.items is.is.first_bad)
  verdict-read founds.One (verdicts.NoReaction memory input) is read = absurd read
  verdict-read founds.One (verdicts.Several memory input r s) is read = absurd read
  verdict-read (founds.NoReaction y) verdicts.One is read = absurd read
  verdict-read (founds.NoReaction y) (verdicts.Several memory input r s) is read = absurd read
  verdict-read (founds.Several y first second) verdicts.One is read = absurd read
  verdict-read (founds.Several y first second) (verdicts.NoReaction memory input) is read = absurd read

zero-tells : (n : ℕ) → nat_eq n 0 ≡ true → n ≡ 0
zero-tells n h = grind (arith, nat_tests)

some-tells : (n : ℕ) → nat_eq n 0 ≡ false → 0 < n
some-tells n h = grind (arith, nat_tests)

pub no-items : (ks : List ℕ) (n : ℕ) → n ≡ length ks → nat_eq n 0 ≡ true → ks ≡ []
no-items [] n same h = refl
no-items (k ∷ ks) n same h = absurd (omega (arith, zero-tells n h, same))

pub some-items : (ks : List ℕ) (n : ℕ) → n ≡ length ks → nat_eq n 0 ≡ false → 0 < length ks
some-items ks n same h = omega (arith, some-tells n h, same)

one-digit : (s : RegisterShape) → 1 ≤ digit_count s.top
one-digit s = omega arith

-- each register has a bit
pub registers-few : (layout : List RegisterShape) → length layout ≤ digits_in (widths_of layout)
registers-few [] = omega arith
registers-few (s ∷ layout) = let here = one-digit s in let later = registers-few layout in omega (arith, here, later)

pub sized-as : (widths : List ℕ) (a n : ℕ) (regs : List Register) (inputs : ℕ) (found : Found) → register_widths regs ≡ widths → AreSized (digits_in widths + inputs) n found → AreSized (digits_in (register_widths regs) + inputs) n found
sized-as widths a n regs inputs found same sized = subst (λ (ws : List ℕ). AreSized (digits_in ws + inputs) n found) (sym same) sized

pub stopped : (E : Equations) (layout : List RegisterShape) (cyclic : List ℕ) (budget : ℕ) (begin end : ArenaView) → length layout ≡ registers E
    → IsEmpty (job_variables E layout cyclic) budget begin → AddsAtMost (instant_operations (job_size E layout cyclic)) begin end → HasNoRoom end → IsStopped E layout cyclic budget end
stopped E layout cyclic budget begin end shapes empty adds room =
    let j = job_size E layout cyclic in
    record {
      variables_are = adds.keeps.variables ∙ empty.variables;
      budget_is = adds.keeps.budget ∙ empty.budget;
      full = room.full;
      lacks = room.lacks;
      below = below_need (counted_operations j) (instant_operations j) (job_variables E layout cyclic) budget begin end empty adds
          ((counted_are_enough j (omega (arith, registers-few layout, shapes))).0) room;
    }

bits-few : (ls : List Line) → bit_lines ls ≤ length ls
bits-few [] = omega arith
bits-few (l ∷ ls) = let here = one-bit l in let later = bits-few ls in omega (arith, here, later)
  where
    one-bit : (l : Line) → bits_of_line l ≤ 1
    one-bit (all ls) = omega arith
    one-bit (any ls) = omega arith
    one-bit (within w lo hi) = omega arith
    one-bit (digit w j) = omega arith
    one-bit (choose cases other) = omega arith

cyclic-below : (E : Equations) (order cyclic : List ℕ) → IsOrderable E → IsPlanOf E order cyclic → length cyclic ≤ 30016384
cyclic-below E order cyclic orderable plan =
    let placeable = planned_placeable E order cyclic orderable plan in
    omega (arith, placeable.few_cyclic, placeable.input_limit, orderable.line_limit, bits-few E.lines)

pub few-cyclic : (E : Equations) (order cyclic : List ℕ) (n : ℕ) → IsOrderable E → IsPlanOf E order cyclic → n ≡ length cyclic → Fits w32 n
few-cyclic E order cyclic n orderable plan same = let h = cyclic-below E order cyclic orderable plan in omega (arith, h, same)

pub few-variables : (E : Equations) (order cyclic : List ℕ) (a n : ℕ) → IsOrderable E → IsPlanOf E order cyclic → a ≤ 16 * registers E + E.inputs → n ≡ length cyclic → Fits w32 (a + n)
few-variables E order cyclic a n orderable plan points same =
    let h = cyclic-below E order cyclic orderable plan in
    omega (arith, h, same, points, orderable.register_limit, orderable.input_limit)
