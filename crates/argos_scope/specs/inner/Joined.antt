-- What the errors of the name rules and of the expansion become.
use Rattle.std.specs.Prelude.{ℕ, List}
use Rattle.argos_names.specs.declared.errors.NameRule.{NameRule}
use Rattle.argos_names.specs.declared.errors.NameRule.TheVariants as rules
use Rattle.argos_names.specs.declared.errors.NameFault.{NameFault}
use Rattle.argos_names.specs.declared.errors.NameFault.TheVariants as faults
use Rattle.argos_expansion.specs.declared.errors.ExpansionError.{ExpansionError}
use Rattle.argos_expansion.specs.declared.errors.ExpansionError.TheVariants as limits
use Rattle.argos_scope.specs.declared.errors.ScopeError.{ScopeError}
use Rattle.argos_scope.specs.declared.errors.ScopeError.TheVariants as errors

abbrev pub error_at : NameRule → List ℕ → ℕ → ScopeError
error_at rules.Unknown name at = errors.Unknown name at
error_at rules.Duplicate name at = errors.Duplicate name at
error_at rules.NotReadable name at = errors.NotReadable name at
error_at rules.NotEmittable name at = errors.NotEmittable name at
error_at rules.Arity name at = errors.Arity name at
error_at rules.NotEarlier name at = errors.NotEarlier name at
error_at rules.NoInitial name at = errors.NoInitial name at

abbrev pub error_of_fault : NameFault → ScopeError
error_of_fault (faults.Broken r name at) = error_at r name at
error_of_fault faults.OutOfMemory = errors.OutOfMemory

abbrev pub error_of_limit : ExpansionError → ScopeError
error_of_limit (limits.Limit which count) = errors.Limit which count
error_of_limit limits.OutOfMemory = errors.OutOfMemory
