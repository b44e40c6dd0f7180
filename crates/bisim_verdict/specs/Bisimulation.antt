-- Bisimulations and the due answer of a check for equivalence. Source: this project.
use Rattle.std.specs.Prelude.{◌≡◌, ◌≢◌, ℕ, ◌<◌, List, ◌++◌, true, false, Some, slice_get}
use Rattle.argos_base.specs.Names.{Spelled}
use Rattle.argos_base.specs.Orders.{IsEarlier, digits}
use Rattle.argos_base.specs.SignalSets.{SignalSet}
use Rattle.argos_core.specs.Process.{PlainModule}
use Rattle.argos_congruence.specs.Congruence.{is_shared, all_names, HaveSameNames, StartsRelatedBy, ReactTogether, IsBisimulationBy}
use Rattle.bisim_formula.specs.Formulas.{Formula, related}
use Rattle.argos_congruence.specs.NamedSets.{has_name}

-- memories m of P and n of Q satisfy the formula
abbrev pub Related : Formula → PlainModule → PlainModule → List ℕ → List ℕ → Type 0
Related F P Q m n = related P Q F m n ≡ true

-- the codes of the initial configurations satisfy the formula
abbrev pub StartsRelated : Formula → PlainModule → PlainModule → Type 0
StartsRelated F P Q = StartsRelatedBy (Related F P Q) P Q

-- the memories that satisfy the formula are a bisimulation
abbrev pub IsBisimulation : Formula → PlainModule → PlainModule → Type 0
IsBisimulation F P Q = IsBisimulationBy (Related F P Q) P Q

-- the first name that isn't shared
pub record IsFirstForeign (P Q : PlainModule) (name : Spelled) : Type 0 where
  pub place : ℕ
  pub at : slice_get (all_names P Q) place ≡ Some name
  pub foreign : is_shared P Q name ≡ false
  pub first : (k : ℕ) (other : Spelled) → k < place → slice_get (all_names P Q) k ≡ Some other → is_shared P Q other ≡ true

-- Related memories react to i with outputs that aren't the same by name, the first output of P that differs being this one.
pub record OutputsDiffer (F : Formula) (P Q : PlainModule) (m n : List ℕ) (i : SignalSet) (name : Spelled) : Type 0 where
  pub j : SignalSet
  pub o : SignalSet
  pub p : SignalSet
  pub m' : List ℕ
  pub n' : List ℕ
  pub react : ReactTogether (Related F P Q) P Q m n i j o p m' n'
  pub place : ℕ
  pub at : slice_get P.outputs place ≡ Some name
  pub differ : has_name P.outputs o name ≢ has_name Q.outputs p name
  pub first : (k : ℕ) (other : Spelled) → k < place → slice_get P.outputs k ≡ Some other → has_name P.outputs o other ≡ has_name Q.outputs p other

-- related memories react to i and lead to memories that aren't related
pub record LeavesRelation (F : Formula) (P Q : PlainModule) (m n : List ℕ) (i : SignalSet) : Type 0 where
  pub j : SignalSet
  pub o : SignalSet
  pub p : SignalSet
  pub m' : List ℕ
  pub n' : List ℕ
  pub react : ReactTogether (Related F P Q) P Q m n i j o p m' n'
  pub unrelated : related P Q F m' n' ≡ false

-- cases are compared by left memory, right memory and input
abbrev pub pair_key : List ℕ → List ℕ → SignalSet → List ℕ
pair_key m n i = m ++ n ++ digits i

-- the least memories and input set of a kind
pub record IsLeastCase (Is : List ℕ → List ℕ → SignalSet → Type 0) (m n : List ℕ) (i : SignalSet) : Type 0 where
  pub is : Is m n i
  pub first : (a b : List ℕ) (j : SignalSet) → Is a b j → ¬ (IsEarlier (pair_key a b j) (pair_key m n i))

-- some name differs
abbrev pub SomeDiffers : Formula → PlainModule → PlainModule → List ℕ → List ℕ → SignalSet → Type 0
SomeDiffers F P Q m n i = (name : Spelled) × OutputsDiffer F P Q m n i name

pub data EquivAnswer : Type 0 where
  accept : EquivAnswer
  interfaces : Spelled → EquivAnswer
  start : EquivAnswer
  outputs : List ℕ → List ℕ → SignalSet → Spelled → EquivAnswer
  leaves : List ℕ → List ℕ → SignalSet → EquivAnswer

-- The due answer: interfaces, else start, else the least outputs, else the least leaves, else accept.
abbrev pub IsEquivAnswer : Formula → PlainModule → PlainModule → EquivAnswer → Type 0
IsEquivAnswer F P Q (interfaces name) = IsFirstForeign P Q name
IsEquivAnswer F P Q start = HaveSameNames P Q × ¬ (StartsRelated F P Q)
IsEquivAnswer F P Q (outputs m n i name) = HaveSameNames P Q × StartsRelated F P Q × IsLeastCase (SomeDiffers F P Q) m n i × OutputsDiffer F P Q m n i name
IsEquivAnswer F P Q (leaves m n i) = HaveSameNames P Q × StartsRelated F P Q × ((a b : List ℕ) (j : SignalSet) → ¬ (SomeDiffers F P Q a b j)) × IsLeastCase (LeavesRelation F P Q) m n i
IsEquivAnswer F P Q accept = HaveSameNames P Q × IsBisimulation F P Q
