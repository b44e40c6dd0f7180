-- The program whose local signal is emitted where it is absent.
use Rattle.std.proofs.Common.{◌≡◌, zero, suc, [], ◌∷◌, true, false, not, refl, sym, ap, inl, inr, arith, length}
use Rattle.argos_base.specs.Machines.{case_key}
use Rattle.argos_base.specs.Orders.{IsEarlier}
use Rattle.argos_base.specs.SignalSets.{SignalSet, has, override}
use Rattle.argos_core.specs.Codes.{code_of}
use Rattle.argos_core.specs.Configurations.{IsConfiguration, entered}
use Rattle.argos_core.specs.Process.{Configuration, at, beside, no_inner, inner, present, negation}
use Rattle.argos_core.specs.Reactions.{valuation}
use Rattle.argos_core.specs.Step.{Step}
use Rattle.argos_examples.specs.Building.{when}
use Rattle.argos_examples.specs.NoReaction.{no_reaction_states, no_reaction}
use Rattle.argos_examples.specs.Reactions.{HasNoReaction}
use Rattle.argos_examples.proofs.PlainSteps.{Outcome, outcome}

abbrev start : Configuration
start = at 0 0 no_inner

only_configuration : (c : Configuration) → IsConfiguration no_reaction.process c → c ≡ start
only_configuration (at zero e no_inner) h = ap (λ x. at 0 x no_inner) h.0
only_configuration (at zero e (inner c)) h = absurd h.1
only_configuration (at (suc q) e b) h = absurd h
only_configuration (beside cs) h = absurd h

-- where the transition is taken, its guard hears what it emits; where not, the guard hears nothing
no_step : (v o : SignalSet) (c' : Configuration) → Step 1 no_reaction.process start v o c' → ⊥
no_step v o c' (emitted, step, less) =
    let r : Outcome 1 (when (negation (present 0)) (0 ∷ []) 0 ∷ []) (λ q. entered no_reaction_states q) 0 (override 1 (0 ∷ []) v emitted) emitted c' = outcome 1 _ _ _ 0 _ emitted c' step in
    elim r [
      | inl t ↦ elim t [
        | inl x ↦ let e : has emitted 0 ≡ true = ap (λ s. has s 0) x.1 in cc (ap not e, x.0)
        | inr x ↦ absurd x
      ]
      | inr x ↦ let e : has emitted 0 ≡ false = ap (λ s. has s 0) x.1 in cc (ap not e, x.0.0)
    ]

nothing_earlier : (c : Configuration) (j : SignalSet) → IsConfiguration no_reaction.process c → length j ≡ 0 → IsEarlier (case_key (code_of no_reaction.process c) j) (1 ∷ []) → ⊥
nothing_earlier c [] is sized earlier = itself (rw (only_configuration c is) at earlier)
  where
    itself : IsEarlier (1 ∷ []) (1 ∷ []) → ⊥
    itself (inl h) = omega arith
    itself (inr h) = h.1
nothing_earlier c (x ∷ j) is sized earlier = cc

pub has_no_reaction : HasNoReaction
has_no_reaction = record {
  memory = record { configuration = start; is = (refl, tt); code = refl };
  input = refl;
  fault = λ o m' r. no_step (valuation no_reaction []) r.reacts.emitted r.next (rw (only_configuration r.configuration r.is) at r.reacts.step);
  first = λ n j m sized earlier. absurd (nothing_earlier m.configuration j m.is sized (rw (sym m.code) at earlier));
}
