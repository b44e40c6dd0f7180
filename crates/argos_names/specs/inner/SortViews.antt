-- What the code's sorts stand for.
use Rattle.argos_names.specs.Scope as scope
use Rattle.argos_names.specs.declared.scope.Sort.{Sort}
use Rattle.argos_names.specs.declared.scope.Sort.TheVariants as sorts

abbrev pub sort_of : Sort → scope.Sort
sort_of sorts.Input = scope.input
sort_of sorts.Output = scope.output
sort_of sorts.Inner = scope.inner
