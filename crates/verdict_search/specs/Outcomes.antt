-- What the search for the verdict finds. Source: this project.
use Rattle.std.specs.Prelude.{◌≡◌, ℕ, List, Bool, true, false, length}
use Rattle.argos_base.specs.SignalSets.{SignalSet}
use Rattle.eqn_completion.specs.Findings.{Finding}
use Rattle.eqn_verdict.specs.Searching.{Test, some, without, least_answers, has_answers, IsFirst}
use Rattle.eqn_verdict.specs.Verdicts.{is_bad}
use Rattle.eqn_verdict.specs.Verdicts as verdicts
use Rattle.verdict_search.specs.declared.finding.Found.{Found}
use Rattle.verdict_search.specs.declared.finding.Found.TheVariants.{One, NoReaction, Several}

-- no consistent values at the first bad point
pub record HasNoReaction (a c : ℕ) (s : Test) (K : Finding) (gs : List Finding) (y : SignalSet) : Type 0 where
  pub first_bad : IsFirst a (is_bad c s K gs) y
  pub none : some c (K y) ≡ false

-- consistent values at the first bad point, the least answers of the results there, and the least of the others
pub record HasSeveral (a c : ℕ) (s : Test) (K : Finding) (gs : List Finding) (y : SignalSet) (first second : List Bool) : Type 0 where
  pub first_bad : IsFirst a (is_bad c s K gs) y
  pub some_react : some c (K y) ≡ true
  pub first_least : first ≡ least_answers c (K y) (verdicts.at gs y)
  pub second_least : second ≡ least_answers c (without (K y) (has_answers (verdicts.at gs y) first)) (verdicts.at gs y)

-- this is the verdict
abbrev pub IsFound : ℕ → ℕ → Test → Finding → List Finding → Found → Type 0
IsFound a c s K gs One = (y : SignalSet) → length y ≡ a → is_bad c s K gs y ≡ false
IsFound a c s K gs (NoReaction y) = HasNoReaction a c s K gs y.items
IsFound a c s K gs (Several y first second) = HasSeveral a c s K gs y.items first.items second.items

-- a point has so many values, and answers are those of so many results
abbrev pub AreSized : ℕ → ℕ → Found → Type 0
AreSized a r One = Unit {0}
AreSized a r (NoReaction y) = length y.items ≡ a
AreSized a r (Several y first second) = (length y.items ≡ a) × ((length first.items ≡ r) × (length second.items ≡ r))
