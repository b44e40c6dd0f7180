-- What a signal of the base is in scope of an aspect.
use Rattle.argos_aspects.specs.declared.aspect.Seen.{Seen}
use Rattle.argos_aspects.specs.declared.aspect.Seen.TheVariants.{Input, Output}
use Rattle.argos_names.specs.Scope.{Sort, input, output}

abbrev pub sort_of : Seen → Sort
sort_of (Input k) = input
sort_of (Output k) = output
