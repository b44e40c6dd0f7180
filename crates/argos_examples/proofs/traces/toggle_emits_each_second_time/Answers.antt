use Rattle.std.proofs.Common.{ℕ, [], ◌∷◌, true, false, refl}
use Rattle.argos_core.specs.Process.{Configuration, at, no_inner}
use Rattle.argos_core.specs.Step.{transition, hold}
use Rattle.argos_examples.specs.Toggle.{toggle}
use Rattle.argos_examples.proofs.GoodPrograms.{toggle_is_good}
use Rattle.argos_examples.proofs.WorkedTraces.{gives}
use Rattle.argos_examples.proofs.traces.toggle_emits_each_second_time.Goals as goal

abbrev in_state : ℕ → Configuration
in_state q = at q 0 no_inner

-- the configurations, and the case of each step
pub returns : goal.returns
returns c = gives toggle _ _ toggle_is_good (
  in_state 1 ∷ in_state 1 ∷ in_state 0 ∷ [],
  (
    record { input = refl; emitted = false ∷ false ∷ []; step = transition 0 _ _ _ refl refl (refl, refl) refl refl; outputs = refl },
    (
      record { input = refl; emitted = false ∷ false ∷ []; step = hold _ (refl, tt) tt (refl, refl) refl; outputs = refl },
      (record { input = refl; emitted = false ∷ true ∷ []; step = transition 0 _ _ _ refl refl (refl, refl) refl refl; outputs = refl }, tt),
    ),
  ),
)
