-- The text of a sample means what its tree resolves to.
use Rattle.std.proofs.Common.{ℕ, ◌≤◌, ap}
use Rattle.argos_base.specs.Limits.{sample_limit}
use Rattle.argos_scope.specs.Meaning.{Resolves, Means}
use Rattle.argos_sample.specs.SampleForm.{sample_form, sample_program}
use Rattle.argos_sample.specs.SampleModule.{sample_module}
use Rattle.argos_sample.proofs.Places.{resolves_moved}
use Rattle.argos_sample.proofs.Reading.{sample_reads}

pub means : (n : ℕ) → 1 ≤ n → n ≤ sample_limit → Resolves (sample_form n).components (sample_module n) → Means (sample_program n) (sample_module n)
means n least h r =
    let t = sample_reads n least h in
    (t.0, t.1, resolves_moved (sample_form n).components t.0.components (sample_module n) (ap (λ p. p.components) t.2) r)
