-- What checks of names answer.
use Rattle.std.specs.Prelude.{◌≡◌, ℕ, List, [], ◌∷◌, Option, Some, map}
use Rattle.argos_aspects.specs.Aspects.{Seen, Advice}
use Rattle.argos_aspects.specs.Views.{onset_of}
use Rattle.argos_grammar.specs.Forms.{ComponentForm, AspectForm}
use Rattle.argos_names.specs.Scope.{Breach, names_in}
use Rattle.argos_scope.specs.Faults.{fault_of}
use Rattle.argos_scope.specs.Meaning.{ScopeFault, broken}
use Rattle.argos_scope.specs.declared.errors.ScopeError.{ScopeError}
use Rattle.argos_scope.specs.declared.errors.ScopeError.TheVariants as scopes
use Rattle.line_format.specs.FileNames.{FileNames}
use Rattle.pointcuts.specs.Pointcuts.{AspectFault, scope, outputs, faults_over, AreSeen, told}
use Rattle.pointcuts.specs.declared.errors.AspectError.{AspectError}
use Rattle.pointcuts.specs.declared.errors.AspectError.TheVariants as errors

abbrev pub IsFirst : {A : Type 0} → List A → A → Type 0
IsFirst {A} xs x = (more : List A) × (xs ≡ x ∷ more)

-- the error says the first of these breaches
abbrev pub TellsFirst : List Breach → ScopeError → Type 0
TellsFirst bs e = (b : Breach) × IsFirst bs b × (fault_of e ≡ Some (broken b))

-- the same, or that no memory was given
abbrev pub TellsFirstOrNothing : List Breach → ScopeError → Type 0
TellsFirstOrNothing bs scopes.OutOfMemory = Unit {0}
TellsFirstOrNothing bs (scopes.Unknown name at) = TellsFirst bs (scopes.Unknown name at)
TellsFirstOrNothing bs (scopes.Duplicate name at) = TellsFirst bs (scopes.Duplicate name at)
TellsFirstOrNothing bs (scopes.NotReadable name at) = TellsFirst bs (scopes.NotReadable name at)
TellsFirstOrNothing bs (scopes.NotEmittable name at) = TellsFirst bs (scopes.NotEmittable name at)
TellsFirstOrNothing bs (scopes.Arity name at) = TellsFirst bs (scopes.Arity name at)
TellsFirstOrNothing bs (scopes.NotEarlier name at) = TellsFirst bs (scopes.NotEarlier name at)
TellsFirstOrNothing bs (scopes.NoInitial name at) = TellsFirst bs (scopes.NoInitial name at)
TellsFirstOrNothing bs (scopes.Limit which count) = TellsFirst bs (scopes.Limit which count)

-- the error says the first of these faults, or that no memory was given
abbrev pub TellsFirstFault : List AspectFault → AspectError → Type 0
TellsFirstFault fs (errors.Scope e) = (f : ScopeFault) × IsFirst fs (scope f) × (fault_of e ≡ Some f)
TellsFirstFault fs (errors.Outputs count) = IsFirst fs (outputs count)
TellsFirstFault fs (errors.Observer m e) = ⊥
TellsFirstFault fs errors.OutOfMemory = Unit {0}

-- the advice of a tree over a base with these names
pub record IsAdvice (n : FileNames) (t : AspectForm) (a : Advice) : Type 0 where
  pub outs : a.outs ≡ told n.outputs t.outs
  pub onset : a.onset ≡ onset_of t.current
  pub trace : a.trace ≡ map (told n.inputs) t.trace

-- the base refuses nothing of an aspect with this observer, and these are what the observer sees and the advice
pub record IsOverBase (n : FileNames) (observer : ComponentForm) (t : AspectForm) (seen : List Seen) (a : Advice) : Type 0 where
  pub none : faults_over n observer t ≡ []
  pub sees : AreSeen n (names_in observer.inputs) seen
  pub advice : IsAdvice n t a
