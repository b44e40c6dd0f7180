-- What the errors of scope and of acceptance become.
use Rattle.argos_core.specs.declared.module.Module.{Module}
use Rattle.argos_scope.specs.declared.errors.ScopeError.{ScopeError}
use Rattle.argos_scope.specs.declared.errors.ScopeError.TheVariants as scopes
use Rattle.argos_verdict.specs.declared.judging.AcceptError.{AcceptError}
use Rattle.argos_verdict.specs.declared.judging.AcceptError.TheVariants as accept
use Rattle.pointcuts.specs.declared.errors.AspectError.{AspectError}
use Rattle.pointcuts.specs.declared.errors.AspectError.TheVariants as errors

abbrev pub error_of_scope : ScopeError → AspectError
error_of_scope (scopes.Unknown name at) = errors.Scope (scopes.Unknown name at)
error_of_scope (scopes.Duplicate name at) = errors.Scope (scopes.Duplicate name at)
error_of_scope (scopes.NotReadable name at) = errors.Scope (scopes.NotReadable name at)
error_of_scope (scopes.NotEmittable name at) = errors.Scope (scopes.NotEmittable name at)
error_of_scope (scopes.Arity name at) = errors.Scope (scopes.Arity name at)
error_of_scope (scopes.NotEarlier name at) = errors.Scope (scopes.NotEarlier name at)
error_of_scope (scopes.NoInitial name at) = errors.Scope (scopes.NoInitial name at)
error_of_scope (scopes.Limit which count) = errors.Scope (scopes.Limit which count)
error_of_scope scopes.OutOfMemory = errors.OutOfMemory

-- of an observer that isn't accepted
abbrev pub error_of_accept : Module → AcceptError → AspectError
error_of_accept m (accept.Overlap r q x y S) = errors.Observer m (accept.Overlap r q x y S)
error_of_accept m (accept.NoReaction memory input) = errors.Observer m (accept.NoReaction memory input)
error_of_accept m (accept.Several memory input first second) = errors.Observer m (accept.Several memory input first second)
error_of_accept m (accept.Variables n) = errors.Observer m (accept.Variables n)
error_of_accept m (accept.Budget arena) = errors.Observer m (accept.Budget arena)
error_of_accept m accept.OutOfMemory = errors.OutOfMemory
