-- The reactions of a program, by valuations that say of each signal but the inputs whether some fire emits it.
use Rattle.std.proofs.Common.{◌≡◌, ℕ, zero, suc, ◌+◌, ◌<◌, ◌≤◌, List, [], ◌∷◌, Bool, true, false, ◌&&◌, ◌||◌, nat_lt, nat_le, if◌then◌else◌, refl, sym, ap, ◌∙◌, inl, inr, arith, length, take, drop}
use Rattle.std.proofs.lemmas.Bool.Decides.{nat_tests}
use Rattle.argos_base.specs.SignalSets.{SignalSet, has, lists, set_where}
use Rattle.argos_base.proofs.Bools.{true_or_false, is_false}
use Rattle.argos_base.proofs.SetLemmas.{length-set_where, has-set_where}
use Rattle.argos_core.specs.Codes.{code_of}
use Rattle.argos_core.specs.Configurations.{IsConfiguration}
use Rattle.argos_core.specs.Modules.{IsModule, locals_in, scope_of}
use Rattle.argos_core.specs.Overlaps.{IsProgram}
use Rattle.argos_core.specs.Process.{Configuration, PlainModule}
use Rattle.argos_core.specs.Reactions.{input_count, output_count, signal_count, valuation, outputs_among}
use Rattle.argos_core.proofs.Agreement.{program_agrees}
use Rattle.argos_core.proofs.StructuralFits.{Segment}
use Rattle.eqn_scheme.specs.inner.Settled.{emits_at, next_at, IsSettled}
use Rattle.eqn_scheme.specs.Settled.{among, ReactsWith}
use Rattle.eqn_scheme.specs.Wired.{emits, next_codes, all_fires, fires_emit}
use Rattle.eqn_scheme.proofs.Completing.{completes}
use Rattle.eqn_scheme.proofs.Flat.{AreUnemittable, closed_flat, flat_closed, emits-fires}
use Rattle.eqn_scheme.proofs.Listing.{Takes, below_or_not, nat_lt-at}
use Rattle.eqn_scheme.proofs.ReadGuards.{AgreeOn}
use Rattle.eqn_scheme.proofs.Settling.{settles_with}
use Rattle.eqn_scheme.proofs.WiredOn.{on_emits, closed_settled, settled_closed, on_next}
use Rattle.eqn_scheme.proofs.WiredReactions.{module_once, read_inputs, times-not}

-- each signal but the inputs is in the valuation exactly where some fire emits it
abbrev pub IsEmitted : PlainModule → List ℕ → SignalSet → Type 0
IsEmitted P m v = (k : ℕ) → input_count P ≤ k → k < signal_count P → has v k ≡ fires_emit (all_fires P.process 0 m true v) k

-- no local of a module is emittable from outside
module_unemittable : (P : PlainModule) → IsModule P → AreUnemittable (scope_of P) (locals_in P.process)
module_unemittable P is k l = let range = is.locals_alone k l in ap (λ b. (nat_le (input_count P) k && b) || false) (beyond k range.0) ∙ neither (nat_le (input_count P) k)
  where
    beyond : (k : ℕ) → input_count P + output_count P ≤ k → nat_lt k (input_count P + output_count P) ≡ false
    beyond k h = grind (arith, nat_tests)

    neither : (b : Bool) → ((b && false) || false) ≡ false
    neither true = refl
    neither false = refl

-- sets that agree on the outputs have the same ones
drop_agree : (a b : SignalSet) (skip keep : ℕ) → length a ≡ length b → ((k : ℕ) → skip ≤ k → k < skip + keep → has a k ≡ has b k) → take keep (drop skip a) ≡ take keep (drop skip b)
drop_agree a b zero zero e h = refl
drop_agree [] [] zero (suc keep) e h = refl
drop_agree [] (y ∷ b) zero (suc keep) e h = absurd (omega arith)
drop_agree (x ∷ a) [] zero (suc keep) e h = absurd (omega arith)
drop_agree (x ∷ a) (y ∷ b) zero (suc keep) e h =
    let first : x ≡ y = h 0 (omega arith) (omega arith) in
    let rest : take keep a ≡ take keep b = drop_agree a b zero keep (omega arith) (λ k low high. h (suc k) (omega arith) (omega arith)) in
    ap (λ (z : Bool). z ∷ take keep a) first ∙ ap (λ (z : SignalSet). y ∷ z) rest
drop_agree [] [] (suc skip) keep e h = refl
drop_agree [] (y ∷ b) (suc skip) keep e h = absurd (omega arith)
drop_agree (x ∷ a) [] (suc skip) keep e h = absurd (omega arith)
drop_agree (x ∷ a) (y ∷ b) (suc skip) keep e h = drop_agree a b skip keep (omega arith) (λ k low high. h (suc k) (omega arith) (omega arith))

module _ (P : PlainModule) (program : IsProgram P) (c : Configuration) (is : IsConfiguration P.process c) (v : SignalSet) (sized : length v ≡ signal_count P) where
  -- what holds of every memory that begins with the code
  emitted_is : (M : List ℕ) → Segment M 0 (code_of P.process c) → (k : ℕ) → k < signal_count P → emits P.process 0 M true v k ≡ emits_at P.process c v k
  emitted_is M s k below = on_emits (signal_count P) M v sized P.process c 0 k is (program_agrees P program) s below

  pub next_is : (M : List ℕ) → Segment M 0 (code_of P.process c) → next_codes P.process 0 M true false false v ≡ code_of P.process (next_at P.process c v)
  next_is M s = on_next (signal_count P) M v sized P.process c 0 false false is (program_agrees P program) s (λ h. h)

  output_is : (M : List ℕ) → Segment M 0 (code_of P.process c) → (k : ℕ) → k < input_count P + output_count P → fires_emit (all_fires P.process 0 M true v) k ≡ emits_at P.process c v k
  output_is M s k below =
      sym (emits-fires M v k P.process 0 true (is_false (lists (locals_in P.process) k) (λ l. absurd (omega (arith, (program.is.locals_alone k l).0)))))
      ∙ emitted_is M s k (omega arith)

  pub emitted_settled : (M : List ℕ) → Segment M 0 (code_of P.process c) → IsEmitted P M v → IsSettled (signal_count P) P.process c v
  emitted_settled M s h =
      closed_settled (signal_count P) M v sized P.process c 0 is (program_agrees P program) s
      (flat_closed (signal_count P) M v P.process (scope_of P) 0 true program.is.scoped (module_once P program.is) (module_unemittable P program.is)
      (λ k below l. h k (omega (arith, (program.is.locals_alone k l).0)) below))

  -- so such a valuation is a reaction, with its locals
  pub emitted_reacts : (M : List ℕ) (i : SignalSet) → Segment M 0 (code_of P.process c) → IsEmitted P M v → length i ≡ input_count P → ((k : ℕ) → k < input_count P → has v k ≡ has i k) → ReactsWith P c i (among (signal_count P) (locals_in P.process) v) (outputs_among P v) (next_at P.process c v)
  emitted_reacts M i s h isized inputs =
      let n = signal_count P in
      let p = P.process in
      let agree : AgreeOn (scope_of P) (valuation P i) v = λ k y. let below = read_inputs P k y in has-set_where n (has i) k (omega arith) ∙ sym (inputs k below) in
      record {
        input = isized;
        emitted = set_where n (emits_at p c v);
        step = settles_with p (scope_of P) n c (valuation P i) v (length-set_where n (has i)) sized program.is.scoped is agree (emitted_settled M s h);
        outputs = drop_agree v (set_where n (emits_at p c v)) (input_count P) (output_count P) (sized ∙ sym (length-set_where n (emits_at p c v))) (λ k low high. h k low (omega arith) ∙ output_is M s k high ∙ sym (has-set_where n (emits_at p c v) k (omega arith)));
      }

  -- and where it settles and has the outputs that are emitted, it says so of each signal
  settled_emitted : IsSettled (signal_count P) P.process c v → ((k : ℕ) → input_count P ≤ k → k < input_count P + output_count P → has v k ≡ emits_at P.process c v k) → (M : List ℕ) → Segment M 0 (code_of P.process c) → IsEmitted P M v
  settled_emitted x outputs M s k low high = elim (true_or_false (lists (locals_in P.process) k)) [
    | inl l ↦ closed_flat (signal_count P) M v P.process (scope_of P) 0 true program.is.scoped (module_once P program.is) (module_unemittable P program.is) (settled_closed (signal_count P) M v sized P.process c 0 is (program_agrees P program) s x) k high l
    | inr l ↦ let below : k < input_count P + output_count P = unlisted_below l in outputs k low below ∙ sym (output_is M s k below)
  ]
    where
      -- the locals' numbers are all listed
      unlisted_below : lists (locals_in P.process) k ≡ false → k < input_count P + output_count P
      unlisted_below l = elim (below_or_not k (input_count P + output_count P)) [
        | inl y ↦ y
        | inr y ↦ absurd (omega (arith, program.is.locals_once k y high, times-not (locals_in P.process) k l))
      ]

-- what is found of a reaction
pub record Emitted (P : PlainModule) (c : Configuration) (i l o : SignalSet) (c' : Configuration) : Type 0 where
  pub valuation : SignalSet
  pub sized : length valuation ≡ signal_count P
  pub extends : (k : ℕ) → k < input_count P → has valuation k ≡ has i k
  pub outputs : o ≡ outputs_among P valuation
  pub locals : l ≡ among (signal_count P) (locals_in P.process) valuation
  pub emitted : (M : List ℕ) → Segment M 0 (code_of P.process c) → IsEmitted P M valuation
  pub next : (M : List ℕ) → Segment M 0 (code_of P.process c) → next_codes P.process 0 M true false false valuation ≡ code_of P.process c'

pub reacts_emitted : (P : PlainModule) (c : Configuration) (i l o : SignalSet) (c' : Configuration) → IsProgram P → IsConfiguration P.process c → ReactsWith P c i l o c' → Emitted P c i l o c'
reacts_emitted P c i l o c' program is r =
    let n = signal_count P in
    let p = P.process in
    let found = completes p (scope_of P) n c (valuation P i) l r.emitted c' (length-set_where n (has i)) program.is.scoped (program_agrees P program) (module_once P program.is) r.step in
    let test : ℕ → Bool = λ k. if lists (locals_in p) k then found.values k else (if nat_lt k (input_count P) then has i k else has r.emitted k) in
    let v = set_where n test in
    let sized : length v ≡ n = length-set_where n test in
    let unlisted : (k : ℕ) → k < input_count P + output_count P → lists (locals_in p) k ≡ false = λ k below. is_false (lists (locals_in p) k) (λ y. absurd (omega (arith, (program.is.locals_alone k y).0))) in
    let inputs : (k : ℕ) → k < input_count P → has v k ≡ has i k = λ k below. has-set_where n test k (omega arith) ∙ rw (unlisted k (omega arith), nat_lt-at k (input_count P) below) refl in
    let agree : AgreeOn (scope_of P) (valuation P i) v = λ k h. let below = read_inputs P k h in has-set_where n (has i) k (omega arith) ∙ sym (inputs k below) in
    let takes : Takes n found.values (locals_in p) v = λ k below l. has-set_where n test k below ∙ rw l refl in
    let says = found.fits v sized agree takes in
    let outputs : (k : ℕ) → input_count P ≤ k → k < input_count P + output_count P → has v k ≡ has r.emitted k = λ k low high. has-set_where n test k (omega arith) ∙ rw (unlisted k high, beyond k (input_count P) low) refl in
    record {
      valuation = v;
      sized = sized;
      extends = inputs;
      outputs = r.outputs ∙ drop_agree r.emitted v (input_count P) (output_count P) (ap length says.1 ∙ length-set_where n (emits_at p c v) ∙ sym sized) (λ k low high. sym (outputs k low high));
      locals = says.3;
      emitted = settled_emitted P program c is v sized says.0 (λ k low high. outputs k low high ∙ ap (λ (z : SignalSet). has z k) says.1 ∙ has-set_where n (emits_at p c v) k (omega arith));
      next = λ M s. next_is P program c is v sized M s ∙ ap (code_of p) (sym says.2);
    }
  where
    beyond : (k n : ℕ) → n ≤ k → nat_lt k n ≡ false
    beyond k n h = grind (arith, nat_tests)
