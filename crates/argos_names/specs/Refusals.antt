-- What a refusal says of components.
use Rattle.std.specs.Prelude.{ℕ, List, Option, Some, None}
use Rattle.argos_grammar.specs.Forms.{ComponentForm}
use Rattle.argos_names.specs.Scope as scope
use Rattle.argos_names.specs.Scope.{Breach, IsLeastBreach}
use Rattle.argos_names.specs.declared.errors.NameRule.{NameRule}
use Rattle.argos_names.specs.declared.errors.NameRule.TheVariants as rules
use Rattle.argos_names.specs.declared.errors.NameFault.{NameFault}
use Rattle.argos_names.specs.declared.errors.NameFault.TheVariants as faults

abbrev pub rule_of : NameRule → scope.Rule
rule_of rules.Unknown = scope.Unknown
rule_of rules.Duplicate = scope.Duplicate
rule_of rules.NotReadable = scope.NotReadable
rule_of rules.NotEmittable = scope.NotEmittable
rule_of rules.Arity = scope.Arity
rule_of rules.NotEarlier = scope.NotEarlier
rule_of rules.NoInitial = scope.NoInitial

-- a rule that is broken at this name, at this place
abbrev pub breach_at : NameRule → List ℕ → ℕ → Breach
breach_at r name at = record { rule = rule_of r; mark = record { name = name; at = at } }

-- the broken rule that a fault speaks of
abbrev pub breach_in : NameFault → Option Breach
breach_in (faults.Broken r name at) = Some (breach_at r name at)
breach_in faults.OutOfMemory = None

-- the rule that is broken first; want of memory says nothing
abbrev pub Refuses : List ComponentForm → NameFault → Type 0
Refuses cs (faults.Broken r name at) = IsLeastBreach cs (breach_at r name at)
Refuses cs faults.OutOfMemory = Unit {0}
