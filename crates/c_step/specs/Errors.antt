-- What the error of the reader stands for. Source: this project.
use Rattle.std.specs.Prelude.{ℕ, List}
use Rattle.c_step.specs.CFile.{CFault}
use Rattle.c_step.specs.declared.errors.CError.{CError}
use Rattle.c_step.specs.declared.errors.CError.TheVariants.{NotSubset, OutOfMemory}

-- the error tells the first line of the bytes that isn't due; want of memory may always come
abbrev pub TellsFault : List ℕ → CError → Type 0
TellsFault bs (NotSubset at) = CFault bs at
TellsFault bs OutOfMemory = Unit {0}
