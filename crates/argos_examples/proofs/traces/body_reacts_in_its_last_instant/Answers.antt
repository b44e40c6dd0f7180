use Rattle.std.proofs.Common.{ℕ, [], ◌∷◌, true, false, refl}
use Rattle.argos_core.specs.Process.{Configuration, at, no_inner}
use Rattle.argos_core.specs.Step.{transition, hold}
use Rattle.argos_examples.specs.LastInstant.{last_instant}
use Rattle.argos_examples.proofs.GoodPrograms.{last_instant_is_good}
use Rattle.argos_examples.proofs.WorkedTraces.{gives}
use Rattle.argos_examples.proofs.traces.body_reacts_in_its_last_instant.Goals as goal

abbrev in_state : ℕ → Configuration
in_state q = at q 0 no_inner

-- the configurations, and the case of each step
pub returns : goal.returns
returns c = gives last_instant _ _ last_instant_is_good (
  (in_state 1 ∷ in_state 1 ∷ []),
  (
    record { input = refl; emitted = (false ∷ true ∷ true ∷ []); step = transition 0 _ _ _ refl refl (_, refl, transition 0 _ _ _ refl refl (refl, refl) refl refl) refl refl; outputs = refl },
    (record { input = refl; emitted = (false ∷ false ∷ false ∷ []); step = hold _ tt tt (refl, refl) refl; outputs = refl }, tt),
  ),
)
