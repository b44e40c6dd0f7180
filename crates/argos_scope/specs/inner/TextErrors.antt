-- What the errors of parsing and of scope become.
use Rattle.argos_grammar.specs.declared.errors.ParseError.{ParseError}
use Rattle.argos_grammar.specs.declared.errors.ParseError.TheVariants as parses
use Rattle.argos_scope.specs.declared.errors.ScopeError.{ScopeError}
use Rattle.argos_scope.specs.declared.errors.ScopeError.TheVariants as scopes
use Rattle.argos_scope.specs.declared.text.TextError.{TextError}
use Rattle.argos_scope.specs.declared.text.TextError.TheVariants as errors

abbrev pub error_of_parse : ParseError → TextError
error_of_parse parses.OutOfMemory = errors.OutOfMemory
error_of_parse (parses.NotUtf8 at) = errors.Parse (parses.NotUtf8 at)
error_of_parse (parses.Syntax at kind) = errors.Parse (parses.Syntax at kind)
error_of_parse (parses.TooDeep at) = errors.Parse (parses.TooDeep at)

abbrev pub error_of_scope : ScopeError → TextError
error_of_scope (scopes.Unknown name at) = errors.Scope (scopes.Unknown name at)
error_of_scope (scopes.Duplicate name at) = errors.Scope (scopes.Duplicate name at)
error_of_scope (scopes.NotReadable name at) = errors.Scope (scopes.NotReadable name at)
error_of_scope (scopes.NotEmittable name at) = errors.Scope (scopes.NotEmittable name at)
error_of_scope (scopes.Arity name at) = errors.Scope (scopes.Arity name at)
error_of_scope (scopes.NotEarlier name at) = errors.Scope (scopes.NotEarlier name at)
error_of_scope (scopes.NoInitial name at) = errors.Scope (scopes.NoInitial name at)
error_of_scope (scopes.Limit which count) = errors.Scope (scopes.Limit which count)
error_of_scope scopes.OutOfMemory = errors.OutOfMemory
