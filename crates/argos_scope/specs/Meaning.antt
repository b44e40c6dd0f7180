-- What a program text means, and why it means nothing. Source: this project.
use Rattle.std.specs.Prelude.{◌≡◌, ℕ, List, [], map, Some}
use Rattle.argos_grammar.specs.Forms.{ComponentForm, ProgramForm}
use Rattle.argos_grammar.specs.Text.{IsText}
use Rattle.argos_core.specs.Process.{PlainModule}
use Rattle.argos_names.specs.Scope.{Breach, breaches, IsLeastBreach}
use Rattle.argos_expansion.specs.Expansion.{expansion, last_of}
use Rattle.argos_expansion.specs.Limits.{Which, IsWithin, IsFirstPassed}

-- no name rule is broken, no limit is passed, and this is the expansion of the last component
pub record Resolves (cs : List ComponentForm) (p : PlainModule) : Type 0 where
  pub sound : breaches cs ≡ []
  pub within : IsWithin (expansion cs).visits
  pub main : ComponentForm
  pub last : last_of cs ≡ Some main
  pub inputs : p.inputs ≡ map (λ m. m.name) main.inputs
  pub outputs : p.outputs ≡ map (λ m. m.name) main.outputs
  pub locals : p.locals ≡ (expansion cs).locals
  pub process : p.process ≡ (expansion cs).whole

abbrev pub Means : List ℕ → PlainModule → Type 0
Means bs p = (t : ProgramForm) × IsText bs t × Resolves t.components p

pub data ScopeFault : Type 0 where
  broken : Breach → ScopeFault
  limit : Which → ℕ → ScopeFault

-- the broken name rule at the least place, else the first limit that is passed
abbrev pub IsScopeFault : List ComponentForm → ScopeFault → Type 0
IsScopeFault cs (broken b) = IsLeastBreach cs b
IsScopeFault cs (limit which count) = (breaches cs ≡ []) × IsFirstPassed (expansion cs).visits which count
