-- What a refusal says of an expansion.
use Rattle.std.specs.Prelude.{List}
use Rattle.argos_expansion.specs.Expansion.{Visit}
use Rattle.argos_expansion.specs.Limits as limit
use Rattle.argos_expansion.specs.declared.errors.Which.{Which}
use Rattle.argos_expansion.specs.declared.errors.Which.TheVariants as which
use Rattle.argos_expansion.specs.declared.errors.ExpansionError.{ExpansionError}
use Rattle.argos_expansion.specs.declared.errors.ExpansionError.TheVariants.{Limit, OutOfMemory}

abbrev pub which_of : Which → limit.Which
which_of which.Signals = limit.Signals
which_of which.Automata = limit.Automata
which_of which.Codes = limit.Codes
which_of which.Depth = limit.Depth
which_of which.Size = limit.Size
which_of which.Trace = limit.Trace

-- the error says the first limit that these nodes pass, or that there was no memory
abbrev pub IsLimitOf : List Visit → ExpansionError → Type 0
IsLimitOf vs (Limit which count) = limit.IsFirstPassed vs (which_of which) count
IsLimitOf vs OutOfMemory = Unit {0}
