-- Laws of samples. Source: this project.
use Rattle.std.specs.Prelude.{◌≡◌, ℕ, ◌≤◌, length}
use Rattle.argos_base.specs.Limits.{sample_limit, text_limit}
use Rattle.argos_compile.specs.Accepting.{HasCycle}
use Rattle.argos_scope.specs.Meaning.{Means}
use Rattle.argos_verdict.specs.Answers.{IsRefused}
use Rattle.argos_verdict.specs.Judgements.{IsAcceptable}
use Rattle.argos_verdict.specs.declared.judging.AcceptError.{AcceptError}
use Rattle.argos_verdict.specs.declared.judging.AcceptError.TheVariants as errors
use Rattle.argos_sample.specs.Emitted.{EmitsWithin}
use Rattle.argos_sample.specs.SampleForm.{sample_program}
use Rattle.argos_sample.specs.SampleModule.{sample_module}

-- the text means the module
abbrev pub SamplesAreModules : Type 0
SamplesAreModules = (n : ℕ) → 1 ≤ n → n ≤ sample_limit → Means (sample_program n) (sample_module n)

abbrev pub SamplesAreShort : Type 0
SamplesAreShort = (n : ℕ) → n ≤ sample_limit → length (sample_program n) ≤ text_limit

-- the module is acceptable, and no local depends on itself
pub record IsSound (n : ℕ) : Type 0 where
  pub acceptable : IsAcceptable (sample_module n)
  pub acyclic : ¬ (HasCycle (sample_module n))

abbrev pub SamplesAreGood : Type 0
SamplesAreGood = (n : ℕ) → 1 ≤ n → n ≤ sample_limit → IsSound n

-- whatever the budget, want of memory is the only error
abbrev pub SamplesAreNotRefused : Type 0
SamplesAreNotRefused = (n : ℕ) → 1 ≤ n → n ≤ sample_limit → (budget : ℕ) (e : AcceptError) → IsRefused (sample_module n) budget e → e ≡ errors.OutOfMemory

abbrev pub OneNumberIsEmitted : Type 0
OneNumberIsEmitted = (n instants j k : ℕ) → 1 ≤ n → n ≤ sample_limit → EmitsWithin n instants j → EmitsWithin n instants k → j ≡ k

abbrev pub SomeNumberIsEmitted : Type 0
SomeNumberIsEmitted = (n instants : ℕ) → 1 ≤ n → n ≤ sample_limit → (k : ℕ) × EmitsWithin n instants k
