use Rattle.std.proofs.Common.{ℕ, [], ◌∷◌, true, false, refl, inl, inr}
use Rattle.argos_core.specs.Process.{Configuration, at, no_inner, inner}
use Rattle.argos_core.specs.Step.{transition, hold}
use Rattle.argos_examples.specs.Freezing.{freezing}
use Rattle.argos_examples.proofs.GoodPrograms.{freezing_is_good}
use Rattle.argos_examples.proofs.WorkedTraces.{gives}
use Rattle.argos_examples.proofs.traces.frozen_body_stands_still_and_can_be_dropped.Goals as goal

abbrev in_state : ℕ → Configuration
in_state q = at q 0 no_inner

abbrev with_body : ℕ → Configuration
with_body q = at 0 0 (inner (in_state q))

-- the configurations, and the case of each step
pub returns : goal.returns
returns c = gives freezing _ _ freezing_is_good (
  (with_body 1 ∷ with_body 1 ∷ with_body 1 ∷ in_state 1 ∷ with_body 0 ∷ with_body 1 ∷ with_body 1 ∷ []),
  (
    record { input = refl; emitted = (false ∷ false ∷ false ∷ false ∷ []); step = hold _ (refl, tt) tt (_, refl, inr (refl, transition 0 _ _ _ refl refl (refl, refl) refl refl)) refl; outputs = refl },
    (
      record { input = refl; emitted = (false ∷ false ∷ false ∷ false ∷ []); step = hold _ (refl, tt) tt (_, refl, inl (refl, refl, refl)) refl; outputs = refl },
      (
        record { input = refl; emitted = (false ∷ false ∷ false ∷ true ∷ []); step = hold _ (refl, tt) tt (_, refl, inr (refl, transition 0 _ _ _ refl refl (refl, refl) refl refl)) refl; outputs = refl },
        (
          record { input = refl; emitted = (false ∷ false ∷ false ∷ false ∷ []); step = transition 0 _ _ _ refl refl (_, refl, inl (refl, refl, refl)) refl refl; outputs = refl },
          (
            record { input = refl; emitted = (false ∷ false ∷ false ∷ false ∷ []); step = transition 0 _ _ _ refl refl (refl, refl) refl refl; outputs = refl },
            (
              record { input = refl; emitted = (false ∷ false ∷ false ∷ false ∷ []); step = hold _ (refl, tt) tt (_, refl, inr (refl, transition 0 _ _ _ refl refl (refl, refl) refl refl)) refl; outputs = refl },
              (record { input = refl; emitted = (false ∷ false ∷ false ∷ true ∷ []); step = hold _ (refl, tt) tt (_, refl, inr (refl, transition 0 _ _ _ refl refl (refl, refl) refl refl)) refl; outputs = refl }, tt),
            ),
          ),
        ),
      ),
    ),
  ),
)
