-- What a refusal says of components.
use Rattle.std.specs.Prelude.{ℕ, List, Option, Some, None, IfSome}
use Rattle.argos_grammar.specs.Forms.{ComponentForm}
use Rattle.argos_names.specs.Scope.{Rule, Unknown, Duplicate, NotReadable, NotEmittable, Arity, NotEarlier, NoInitial}
use Rattle.argos_expansion.specs.Refusals.{which_of}
use Rattle.argos_scope.specs.Meaning.{ScopeFault, broken, limit, IsScopeFault}
use Rattle.argos_scope.specs.declared.errors.ScopeError.{ScopeError}
use Rattle.argos_scope.specs.declared.errors.ScopeError.TheVariants as errors

-- this rule is broken at this name
abbrev pub broken_at : Rule → List ℕ → ℕ → ScopeFault
broken_at r name at = broken (record { rule = r; mark = record { name = name; at = at } })

-- the fault that an error speaks of
abbrev pub fault_of : ScopeError → Option ScopeFault
fault_of (errors.Unknown name at) = Some (broken_at Unknown name at)
fault_of (errors.Duplicate name at) = Some (broken_at Duplicate name at)
fault_of (errors.NotReadable name at) = Some (broken_at NotReadable name at)
fault_of (errors.NotEmittable name at) = Some (broken_at NotEmittable name at)
fault_of (errors.Arity name at) = Some (broken_at Arity name at)
fault_of (errors.NotEarlier name at) = Some (broken_at NotEarlier name at)
fault_of (errors.NoInitial name at) = Some (broken_at NoInitial name at)
fault_of (errors.Limit which count) = Some (limit (which_of which) count)
fault_of errors.OutOfMemory = None

-- it is the fault of these components; want of memory says nothing
abbrev pub TellsFault : List ComponentForm → ScopeError → Type 0
TellsFault cs e = IfSome (fault_of e) (IsScopeFault cs)
