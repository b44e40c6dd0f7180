-- A program without locals has exactly one reaction to each input set in each configuration.
use Rattle.std.proofs.Common.{◌≡◌, ℕ, ◌+◌, ◌<◌, ◌≤◌, List, [], ◌∷◌, true, nat_eq, refl, ap, ◌∙◌, arith, length}
use Rattle.argos_base.specs.SignalSets.{has, lists}
use Rattle.argos_base.proofs.Bools.{or_left}
use Rattle.argos_base.proofs.SetLemmas.{length-set_where}
use Rattle.argos_core.specs.Modules.{IsModule, locals_in}
use Rattle.argos_core.specs.Overlaps.{IsProgram}
use Rattle.argos_core.specs.Process.{PlainModule}
use Rattle.argos_core.specs.Reactions.{input_count, output_count, signal_count, valuation, outputs_among, AlwaysHasOneReaction}
use Rattle.argos_core.proofs.Agreement.{program_agrees}
use Rattle.argos_core.proofs.WithoutLocals.{steps, same}
use Rattle.argos_core.proofs.Numbers.{nat_eq-same}

-- a list whose numbers are all in an empty range is empty
nothing_listed : (ks : List ℕ) (low high : ℕ) → ((k : ℕ) → lists ks k ≡ true → (low ≤ k) × (k < high)) → high ≤ low → ks ≡ []
nothing_listed [] low high within short = refl
nothing_listed (k ∷ ks) low high within short =
    let h = within k (or_left (nat_eq k k) (lists ks k) (nat_eq-same k)) in
    absurd (omega (arith, h.0, h.1))

-- a module without locals has no list of locals with a signal
pub no_locals_in : (P : PlainModule) → IsModule P → P.locals ≡ [] → locals_in P.process ≡ []
no_locals_in P is none =
    let size : length P.locals ≡ 0 = ap length none in
    nothing_listed (locals_in P.process) (input_count P + output_count P) (signal_count P) is.locals_alone (omega arith)

pub reacts_once : (P : PlainModule) → IsProgram P → P.locals ≡ [] → AlwaysHasOneReaction P
reacts_once P program none c i is sized =
    let no_local : locals_in P.process ≡ [] = no_locals_in P program.is none in
    let v_sized : length (valuation P i) ≡ signal_count P = length-set_where (signal_count P) (has i) in
    let x = steps P.process no_local (signal_count P) c (valuation P i) v_sized is in
    record {
      outputs = outputs_among P x.0;
      next = x.1;
      reacts = record { input = sized; emitted = x.0; step = x.2; outputs = refl };
      only = λ o c' r.
          let y = same P.process no_local (signal_count P) (program_agrees P program) c (valuation P i) r.emitted x.0 c' x.1 v_sized r.step x.2 in
          (r.outputs ∙ ap (outputs_among P) y.0, y.1);
    }
