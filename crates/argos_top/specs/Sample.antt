-- What the command sample says. Source: this project.
use Rattle.std.specs.Prelude.{ℕ, List, ◌++◌, codes, decimal}
use Rattle.argos_load.specs.Said.{Yes, Said, said}
use Rattle.argos_report.specs.Texts.{line}
use Rattle.argos_sample.specs.Emitted.{Emits}

-- the automata of the sample, its reactions, and how many of them emit its output
abbrev pub sample_lines : ℕ → ℕ → List ℕ
sample_lines n emitted = line (codes "automata " ++ decimal n) ++ line (codes "reactions 4096") ++ line (codes "emitted " ++ decimal emitted)

pub data Sampled (n : ℕ) : Said → Type 0 where
  sampled : (emitted : ℕ) → Emits n emitted → Sampled n (said Yes (sample_lines n emitted))
