-- How many reactions of a sample emit its output. Source: this project.
use Rattle.std.specs.Prelude.{◌≡◌, ℕ, List, [], ◌∷◌, true, filter, length, replicate}
use Rattle.argos_base.specs.SignalSets.{SignalSet, has}
use Rattle.argos_core.specs.Process.{PlainModule}
use Rattle.argos_core.specs.Reactions.{IsTrace}
use Rattle.argos_scope.specs.Meaning.{Means}
use Rattle.argos_sample.specs.SampleForm.{sample_program}

-- so many input sets, in each of which the one input is present
abbrev pub present_in : ℕ → List SignalSet
present_in instants = replicate instants (true ∷ [])

-- how many of these output sets have the one output
abbrev pub emitted_in : List SignalSet → ℕ
emitted_in outputs = length (filter (λ o. has o 0) outputs)

-- The text means a module, and this one has a trace of so many instants, in each of which the input is present, and in so many of which the
-- output is emitted.
pub record EmitsWithin (count instants emitted : ℕ) : Type 0 where
  pub means : PlainModule
  pub meant : Means (sample_program count) means
  pub outputs : List SignalSet
  pub trace : IsTrace means (present_in instants) outputs
  pub counted : emitted ≡ emitted_in outputs

-- how many instants a sample runs
abbrev pub sample_reactions : ℕ
sample_reactions = 4096

abbrev pub Emits : ℕ → ℕ → Type 0
Emits count emitted = EmitsWithin count sample_reactions emitted
