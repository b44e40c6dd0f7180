use Rattle.std.proofs.Common.{ℕ, [], ◌∷◌, true, false, refl}
use Rattle.argos_core.specs.Process.{Configuration, at, no_inner, inner}
use Rattle.argos_core.specs.Step.{transition, hold}
use Rattle.argos_examples.specs.SelfLoop.{self_loop}
use Rattle.argos_examples.proofs.GoodPrograms.{self_loop_is_good}
use Rattle.argos_examples.proofs.WorkedTraces.{gives}
use Rattle.argos_examples.proofs.traces.self_loop_starts_its_body_again.Goals as goal

abbrev in_state : ℕ → Configuration
in_state q = at q 0 no_inner

abbrev with_body : ℕ → Configuration
with_body q = at 0 0 (inner (in_state q))

-- the configurations, and the case of each step
pub returns : goal.returns
returns c = gives self_loop _ _ self_loop_is_good (
  (with_body 1 ∷ with_body 1 ∷ with_body 0 ∷ with_body 1 ∷ with_body 1 ∷ []),
  (
    record { input = refl; emitted = (false ∷ false ∷ false ∷ []); step = hold _ (refl, tt) tt (_, refl, transition 0 _ _ _ refl refl (refl, refl) refl refl) refl; outputs = refl },
    (
      record { input = refl; emitted = (false ∷ false ∷ true ∷ []); step = hold _ (refl, tt) tt (_, refl, transition 0 _ _ _ refl refl (refl, refl) refl refl) refl; outputs = refl },
      (
        record { input = refl; emitted = (false ∷ false ∷ false ∷ []); step = transition 0 _ _ _ refl refl (_, refl, hold _ (refl, tt) tt (refl, refl) refl) refl refl; outputs = refl },
        (
          record { input = refl; emitted = (false ∷ false ∷ false ∷ []); step = hold _ (refl, tt) tt (_, refl, transition 0 _ _ _ refl refl (refl, refl) refl refl) refl; outputs = refl },
          (record { input = refl; emitted = (false ∷ false ∷ true ∷ []); step = hold _ (refl, tt) tt (_, refl, transition 0 _ _ _ refl refl (refl, refl) refl refl) refl; outputs = refl }, tt),
        ),
      ),
    ),
  ),
)
