-- The buffers of a run. Source: this project.
use Rattle.std.specs.Prelude.{◌≡◌, ℕ}
use Rattle.c_step.specs.CStep.{CStep}

-- they have a place for each word and bit
pub record HasPlaces (s : CStep) (words bits : ℕ) : Type 0 where
  pub word_places : words ≡ s.words
  pub bit_places : bits ≡ s.bits
