-- The form of a sample resolves to its module.
use Rattle.std.proofs.Common.{ℕ, ◌≤◌, refl}
use Rattle.argos_base.specs.Limits.{sample_limit}
use Rattle.argos_scope.specs.Meaning.{Resolves}
use Rattle.argos_sample.specs.SampleForm.{sample_block, sample_form}
use Rattle.argos_sample.specs.SampleModule.{sample_module}
use Rattle.argos_sample.proofs.ResolvingExpansion.{sample_within, sample_locals, sample_whole}
use Rattle.argos_sample.proofs.ResolvingRules.{component_with, sample_sound}

pub sample_resolves : (n : ℕ) → 1 ≤ n → n ≤ sample_limit → Resolves (sample_form n).components (sample_module n)
sample_resolves n h l = record {
  sound = sample_sound n h l;
  within = sample_within n h l;
  main = component_with (sample_block n);
  last = refl;
  inputs = refl;
  outputs = refl;
  locals = sample_locals n h l;
  process = sample_whole n h l;
}
