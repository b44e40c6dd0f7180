-- The wired meaning of a program is its reactions.
use Rattle.std.proofs.Common.{◌≡◌, ℕ, ◌<◌, List, [], ◌∷◌, true, false, nat_eq, nat_lt, if◌then◌else◌, refl, sym, ap, ◌∙◌, inl, inr, arith, length, append-nil}
use Rattle.argos_base.specs.SignalSets.{SignalSet, has, lists, set_where}
use Rattle.argos_base.proofs.Bools.{true_or_false, or_first_false, or_second_false, is_false}
use Rattle.argos_base.proofs.SetLemmas.{length-set_where, has-set_where, set_where-agree}
use Rattle.argos_core.specs.Codes.{code_of, IsStructural}
use Rattle.argos_core.specs.Configurations.{IsConfiguration}
use Rattle.argos_core.specs.FirstBad.{ReactsCoded}
use Rattle.argos_core.specs.Modules.{IsModule, locals_in, times, is_readable, scope_of}
use Rattle.argos_core.specs.Overlaps.{IsProgram}
use Rattle.argos_core.specs.Process.{Configuration, PlainModule}
use Rattle.argos_core.specs.Reactions.{input_count, signal_count, valuation, outputs_among}
use Rattle.argos_core.specs.Step.{Step}
use Rattle.argos_core.proofs.Agreement.{program_agrees}
use Rattle.argos_core.proofs.StepsStay.{step_stays}
use Rattle.argos_core.proofs.StructuralFits.{Segment}
use Rattle.eqn_scheme.specs.Laws.{WiredReacts, WiredAreReactions, WiredStayStructural}
use Rattle.eqn_scheme.specs.inner.Settled.{emits_at, next_at, IsSettled}
use Rattle.eqn_scheme.specs.Wired.{emits, next_codes, IsClosed}
use Rattle.eqn_scheme.proofs.Completing.{completes}
use Rattle.eqn_scheme.proofs.Listing.{Once, nat_lt-tells, Takes}
use Rattle.eqn_scheme.proofs.PresentLocals.{present_in}
use Rattle.eqn_scheme.proofs.ReadGuards.{AgreeOn}
use Rattle.eqn_scheme.proofs.Settling.{settles}
use Rattle.eqn_scheme.proofs.WiredOn.{on_emits, closed_settled, settled_closed, on_next}

pub times-not : (xs : List ℕ) (k : ℕ) → lists xs k ≡ false → times k xs ≡ 0
times-not [] k h = refl
times-not (x ∷ xs) k h = rw (or_first_false (nat_eq x k) (lists xs k) h) (omega (arith, times-not xs k (or_second_false (nat_eq x k) (lists xs k) h)))

-- a module's locals stand once each
pub module_once : (P : PlainModule) → IsModule P → Once (locals_in P.process)
module_once P is k = elim (true_or_false (lists (locals_in P.process) k)) [
  | inl y ↦ let range = is.locals_alone k y in omega (arith, is.locals_once k range.0 range.1)
  | inr y ↦ omega (arith, times-not (locals_in P.process) k y)
]

-- in the scope of a module the inputs alone are readable
pub read_inputs : (P : PlainModule) (k : ℕ) → is_readable (scope_of P) k ≡ true → k < input_count P
read_inputs P k h = elim (true_or_false (nat_lt k (input_count P))) [
  | inl y ↦ nat_lt-tells k (input_count P) y
  | inr y ↦ let no : is_readable (scope_of P) k ≡ false = rw y refl in cc
]

pub whole : (m codes : List ℕ) → codes ≡ m → Segment m 0 codes
whole m codes e = record { before = []; after = []; is = sym e ∙ simp append-nil; place = refl }

module _ (P : PlainModule) (program : IsProgram P) (m : List ℕ) (c : Configuration) (is : IsConfiguration P.process c) (from : code_of P.process c ≡ m) (v : SignalSet) (sized : length v ≡ signal_count P) where
  emission : set_where (signal_count P) (emits P.process 0 m true v) ≡ set_where (signal_count P) (emits_at P.process c v)
  emission = set_where-agree (signal_count P) (emits P.process 0 m true v) (emits_at P.process c v) (λ k below. on_emits (signal_count P) m v sized P.process c 0 k is (program_agrees P program) (whole m (code_of P.process c) from) below)

  next_is : next_codes P.process 0 m true false false v ≡ code_of P.process (next_at P.process c v)
  next_is = on_next (signal_count P) m v sized P.process c 0 false false is (program_agrees P program) (whole m (code_of P.process c) from) (λ h. h)

  to_settled : IsClosed (signal_count P) P.process 0 m true v → IsSettled (signal_count P) P.process c v
  to_settled = closed_settled (signal_count P) m v sized P.process c 0 is (program_agrees P program) (whole m (code_of P.process c) from)

  to_closed : IsSettled (signal_count P) P.process c v → IsClosed (signal_count P) P.process 0 m true v
  to_closed = settled_closed (signal_count P) m v sized P.process c 0 is (program_agrees P program) (whole m (code_of P.process c) from)

to_wired : (P : PlainModule) (m : List ℕ) (i o : SignalSet) (m' : List ℕ) → IsProgram P → ReactsCoded P m i o m' → WiredReacts P m i o m'
to_wired P m i o m' program r =
    let n = signal_count P in
    let p = P.process in
    let step = present_in p n r.configuration (valuation P i) r.reacts.emitted r.next r.reacts.step in
    let found = completes p (scope_of P) n r.configuration (valuation P i) step.0 r.reacts.emitted r.next (length-set_where n (has i)) program.is.scoped (program_agrees P program) (module_once P program.is) step.1 in
    let v = set_where n (λ k. if lists (locals_in p) k then found.values k else has i k) in
    let sized : length v ≡ n = length-set_where n (λ k. if lists (locals_in p) k then found.values k else has i k) in
    let inputs : (k : ℕ) → k < input_count P → has v k ≡ has i k = λ k below. has-set_where n (λ j. if lists (locals_in p) j then found.values j else has i j) k (omega arith) ∙ ap (λ b. if b then found.values k else has i k) (is_false (lists (locals_in p) k) (λ y. absurd (omega (arith, (program.is.locals_alone k y).0)))) in
    let agree : AgreeOn (scope_of P) (valuation P i) v = λ k h. let below = read_inputs P k h in has-set_where n (has i) k (omega arith) ∙ sym (inputs k below) in
    let takes : Takes n found.values (locals_in p) v = λ k below l. has-set_where n (λ j. if lists (locals_in p) j then found.values j else has i j) k below ∙ ap (λ b. if b then found.values k else has i k) l in
    let says = found.fits v sized agree takes in
    record {
      input = r.reacts.input;
      valuation = v;
      sized = sized;
      extends = inputs;
      closed = to_closed P program m r.configuration r.is r.from v sized says.0;
      outputs = r.reacts.outputs ∙ ap (outputs_among P) (says.1 ∙ sym (emission P program m r.configuration r.is r.from v sized));
      next = sym r.to ∙ ap (code_of p) says.2 ∙ sym (next_is P program m r.configuration r.is r.from v sized);
    }

from_wired : (P : PlainModule) (m : List ℕ) (i o : SignalSet) (m' : List ℕ) → IsProgram P → IsStructural P.process m → WiredReacts P m i o m' → ReactsCoded P m i o m'
from_wired P m i o m' program s w =
    let n = signal_count P in
    let p = P.process in
    let v = w.valuation in
    let agree : AgreeOn (scope_of P) (valuation P i) v = λ k h. let below = read_inputs P k h in has-set_where n (has i) k (omega arith) ∙ sym (w.extends k below) in
    let step : Step n p s.configuration (valuation P i) (set_where n (emits_at p s.configuration v)) (next_at p s.configuration v) = settles p (scope_of P) n s.configuration (valuation P i) v (length-set_where n (has i)) w.sized program.is.scoped s.is agree (to_settled P program m s.configuration s.is s.code v w.sized w.closed) in
    record {
      configuration = s.configuration;
      is = s.is;
      from = s.code;
      next = next_at p s.configuration v;
      reacts = record { input = w.input; emitted = set_where n (emits_at p s.configuration v); step = step; outputs = w.outputs ∙ ap (outputs_among P) (emission P program m s.configuration s.is s.code v w.sized) };
      to = sym (next_is P program m s.configuration s.is s.code v w.sized) ∙ sym w.next;
    }

pub wired_are_reactions : WiredAreReactions
wired_are_reactions P m i o m' program s = (to_wired P m i o m' program, from_wired P m i o m' program s)

pub wired_stay_structural : WiredStayStructural
wired_stay_structural P m v program s sized closed =
    let n = signal_count P in
    let p = P.process in
    let step : Step n p s.configuration v (set_where n (emits_at p s.configuration v)) (next_at p s.configuration v) = settles p (scope_of P) n s.configuration v v sized sized program.is.scoped s.is (λ k h. refl) (to_settled P program m s.configuration s.is s.code v sized closed) in
    record { configuration = next_at p s.configuration v; is = step_stays p n s.configuration v (set_where n (emits_at p s.configuration v)) (next_at p s.configuration v) program.is.shaped s.is step; code = sym (next_is P program m s.configuration s.is s.code v sized) }
