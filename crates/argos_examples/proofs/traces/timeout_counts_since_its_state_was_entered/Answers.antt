use Rattle.std.proofs.Common.{ℕ, [], ◌∷◌, true, false, refl, arith}
use Rattle.argos_core.specs.Process.{Configuration, at, no_inner}
use Rattle.argos_core.specs.Step.{transition, timeout, count, hold}
use Rattle.argos_examples.specs.Timeouts.{timeouts}
use Rattle.argos_examples.proofs.GoodPrograms.{timeouts_is_good}
use Rattle.argos_examples.proofs.WorkedTraces.{gives}
use Rattle.argos_examples.proofs.traces.timeout_counts_since_its_state_was_entered.Goals as goal

abbrev in_state : ℕ → Configuration
in_state q = at q 0 no_inner

abbrev counted : ℕ → Configuration
counted e = at 0 e no_inner

-- the configurations, and the case of each step
pub returns : goal.returns
returns c = gives timeouts _ _ timeouts_is_good (
  (counted 1 ∷ counted 2 ∷ in_state 1 ∷ in_state 0 ∷ counted 1 ∷ counted 1 ∷ counted 2 ∷ in_state 1 ∷ []),
  (
    record { input = refl; emitted = (false ∷ false ∷ false ∷ false ∷ []); step = count _ _ (refl, tt) refl refl (omega arith) (refl, refl) refl; outputs = refl },
    (
      record { input = refl; emitted = (false ∷ false ∷ false ∷ false ∷ []); step = count _ _ (refl, tt) refl refl (omega arith) (refl, refl) refl; outputs = refl },
      (
        record { input = refl; emitted = (false ∷ false ∷ false ∷ true ∷ []); step = transition 0 _ _ _ refl refl (refl, refl) refl refl; outputs = refl },
        (
          record { input = refl; emitted = (false ∷ false ∷ false ∷ false ∷ []); step = transition 0 _ _ _ refl refl (refl, refl) refl refl; outputs = refl },
          (
            record { input = refl; emitted = (false ∷ false ∷ false ∷ false ∷ []); step = count _ _ (refl, tt) refl refl (omega arith) (refl, refl) refl; outputs = refl },
            (
              record { input = refl; emitted = (false ∷ false ∷ false ∷ false ∷ []); step = hold _ (refl, tt) refl (refl, refl) refl; outputs = refl },
              (
                record { input = refl; emitted = (false ∷ false ∷ false ∷ false ∷ []); step = count _ _ (refl, tt) refl refl (omega arith) (refl, refl) refl; outputs = refl },
                (record { input = refl; emitted = (false ∷ false ∷ true ∷ false ∷ []); step = timeout _ _ _ (refl, tt) refl refl refl (refl, refl) refl refl; outputs = refl }, tt),
              ),
            ),
          ),
        ),
      ),
    ),
  ),
)
