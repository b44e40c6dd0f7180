-- What a refusal says of an aspect.
use Rattle.std.specs.Prelude.{◌≡◌, ℕ, IsSomeAnd}
use Rattle.argos_aspects.specs.Aspects.{Aspect}
use Rattle.argos_core.specs.ModuleViews.{module_of}
use Rattle.argos_core.specs.declared.module.Module.{Module}
use Rattle.argos_grammar.specs.Forms.{AspectForm}
use Rattle.argos_scope.specs.Faults.{fault_of}
use Rattle.argos_scope.specs.declared.errors.ScopeError.{ScopeError}
use Rattle.argos_verdict.specs.Answers.{IsRefused}
use Rattle.argos_verdict.specs.declared.judging.AcceptError.{AcceptError}
use Rattle.argos_verdict.specs.declared.judging.AcceptError.TheVariants as accept
use Rattle.line_format.specs.FileNames.{FileNames}
use Rattle.pointcuts.specs.Pointcuts.{IsAspectOf, IsAspectFault, scope, outputs}
use Rattle.pointcuts.specs.declared.errors.AspectError.{AspectError}
use Rattle.pointcuts.specs.declared.errors.AspectError.TheVariants as errors

-- a name rule is broken, or a limit is passed; want of memory is none of them
abbrev pub TellsScope : AspectForm → FileNames → ScopeError → Type 0
TellsScope t n e = IsSomeAnd (fault_of e) (λ f. IsAspectFault t n (scope f))

-- the tree tells an aspect whose observer is this module, and why it isn't accepted; want of memory is no reason
pub record IsUnaccepted (t : AspectForm) (n : FileNames) (budget : ℕ) (m : Module) (e : AcceptError) : Type 0 where
  pub aspect : Aspect
  pub is : IsAspectOf t n aspect
  pub observer : module_of m ≡ aspect.observer
  pub refused : IsRefused aspect.observer budget e
  pub reason : e ≡ accept.OutOfMemory → ⊥

-- why the tree tells no aspect with an accepted observer; want of memory says nothing
abbrev pub TellsWhyNot : AspectForm → FileNames → ℕ → AspectError → Type 0
TellsWhyNot t n budget (errors.Scope e) = TellsScope t n e
TellsWhyNot t n budget (errors.Outputs count) = IsAspectFault t n (outputs count)
TellsWhyNot t n budget (errors.Observer m e) = IsUnaccepted t n budget m e
TellsWhyNot t n budget errors.OutOfMemory = Unit {0}
