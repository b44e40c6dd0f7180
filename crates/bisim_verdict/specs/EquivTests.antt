-- How a check for equivalence decides: by functions of both programs' register bits and the left program's inputs. Source: this project.
use Rattle.std.specs.Prelude.{◌≡◌, ◌≢◌, ◌↔◌, ℕ, ◌+◌, ◌<◌, List, [], ◌∷◌, ◌++◌, Bool, true, false, ◌&&◌, ◌||◌, not, Some, length, slice_get}
use Rattle.argos_base.specs.Names.{Spelled}
use Rattle.argos_base.specs.SignalSets.{SignalSet}
use Rattle.argos_core.specs.Codes.{IsStructural, code_of}
use Rattle.argos_core.specs.FirstBad.{ReactsCoded}
use Rattle.argos_core.specs.Process.{PlainModule}
use Rattle.argos_core.specs.Reactions.{input_count, initial_of}
use Rattle.dd_core.specs.Functions.{Function, constant, AreEqual}
use Rattle.dd_ops.specs.Least.{IsLeast}
use Rattle.argos_congruence.specs.Moved.{moved_inputs}
use Rattle.eqn_completion.specs.Binary.{in_binary, digits_in, FitsIn}
use Rattle.bisim_verdict.specs.Bisimulation.{EquivAnswer, accept, interfaces, start, outputs, leaves, IsFirstForeign}
use Rattle.argos_congruence.specs.Congruence.{HaveSameNames}
use Rattle.bisim_formula.specs.Formulas.{Formula, related}
use Rattle.argos_congruence.specs.NamedSets.{has_name}

-- the values of the variables at two memories and an input set: left digits, right digits, inputs
abbrev pub point : List ℕ → List ℕ → List ℕ → List ℕ → SignalSet → List Bool
point lefts rights m n i = in_binary lefts m ++ (in_binary rights n ++ i)

-- the registers of a program have so many digits
abbrev pub AreWidthsOf : PlainModule → List ℕ → Type 0
AreWidthsOf P widths = (m : List ℕ) → IsStructural P.process m → FitsIn widths m

abbrev pub differs : Bool → Bool → Bool
differs true b = not b
differs false b = b

-- of these outputs, by name, some is in one set and not in the other
abbrev pub some_differ : List Spelled → PlainModule → PlainModule → SignalSet → SignalSet → Bool
some_differ [] P Q o p = false
some_differ (name ∷ names) P Q o p = differs (has_name P.outputs o name) (has_name Q.outputs p name) || some_differ names P Q o p

-- five functions of so many variables
pub record Tests : Type 0 where
  pub related : Function
  pub left : Function
  pub right : Function
  pub differ : Function
  pub next_related : Function

-- What the functions say at two memories and an input set: whether the formula holds; whether each memory is structural; and where both are, whether the reactions differ in some output, and whether the formula holds of the next memories.
pub record AreTestsOf (F : Formula) (P Q : PlainModule) (lefts rights : List ℕ) (t : Tests) : Type 0 where
  pub related_is : (m n : List ℕ) (i : SignalSet) → FitsIn lefts m → FitsIn rights n → length i ≡ input_count P → t.related (point lefts rights m n i) ≡ related P Q F m n
  pub left_is : (m n : List ℕ) (i : SignalSet) → FitsIn lefts m → FitsIn rights n → length i ≡ input_count P → (t.left (point lefts rights m n i) ≡ true) ↔ IsStructural P.process m
  pub right_is : (m n : List ℕ) (i : SignalSet) → FitsIn lefts m → FitsIn rights n → length i ≡ input_count P → (t.right (point lefts rights m n i) ≡ true) ↔ IsStructural Q.process n
  pub differ_is : (m n : List ℕ) (i o p : SignalSet) (m' n' : List ℕ) → ReactsCoded P m i o m' → ReactsCoded Q n (moved_inputs P Q i) p n' → t.differ (point lefts rights m n i) ≡ some_differ P.outputs P Q o p
  pub next_is : (m n : List ℕ) (i o p : SignalSet) (m' n' : List ℕ) → ReactsCoded P m i o m' → ReactsCoded Q n (moved_inputs P Q i) p n' → t.next_related (point lefts rights m n i) ≡ related P Q F m' n'

-- related structural memories
abbrev pub pairs : Tests → Function
pairs t x = t.related x && (t.left x && t.right x)

-- that react with different outputs
abbrev pub differing : Tests → Function
differing t x = pairs t x && t.differ x

-- that lead to unrelated ones
abbrev pub leaving : Tests → Function
leaving t x = pairs t x && not (t.next_related x)

-- the least values that make the function true are those of these memories and this input set
pub record IsLeastPoint (P Q : PlainModule) (lefts rights : List ℕ) (f : Function) (m n : List ℕ) (i : SignalSet) : Type 0 where
  pub left_fits : FitsIn lefts m
  pub right_fits : FitsIn rights n
  pub input : length i ≡ input_count P
  pub least : IsLeast (digits_in lefts + (digits_in rights + input_count P)) f (point lefts rights m n i)

-- at a point the first of the left program's outputs, by name, that differs
pub record IsFirstDiffering (P Q : PlainModule) (m n : List ℕ) (i : SignalSet) (name : Spelled) : Type 0 where
  pub o : SignalSet
  pub p : SignalSet
  pub m' : List ℕ
  pub n' : List ℕ
  pub left : ReactsCoded P m i o m'
  pub right : ReactsCoded Q n (moved_inputs P Q i) p n'
  pub place : ℕ
  pub at : slice_get P.outputs place ≡ Some name
  pub differ : has_name P.outputs o name ≢ has_name Q.outputs p name
  pub first : (k : ℕ) (other : Spelled) → k < place → slice_get P.outputs k ≡ Some other → has_name P.outputs o other ≡ has_name Q.outputs p other

abbrev pub variables : PlainModule → List ℕ → List ℕ → ℕ
variables P lefts rights = digits_in lefts + (digits_in rights + input_count P)

abbrev pub starts : Formula → PlainModule → PlainModule → Bool
starts F P Q = related P Q F (code_of P.process (initial_of P)) (code_of Q.process (initial_of Q))

-- what is found so is answered
abbrev pub IsFound : Formula → PlainModule → PlainModule → List ℕ → List ℕ → Tests → EquivAnswer → Type 0
IsFound F P Q lefts rights t (interfaces name) = IsFirstForeign P Q name
IsFound F P Q lefts rights t start = HaveSameNames P Q × (starts F P Q ≡ false)
IsFound F P Q lefts rights t (outputs m n i name) = HaveSameNames P Q × (starts F P Q ≡ true) × IsLeastPoint P Q lefts rights (differing t) m n i × IsFirstDiffering P Q m n i name
IsFound F P Q lefts rights t (leaves m n i) = HaveSameNames P Q × (starts F P Q ≡ true) × AreEqual (variables P lefts rights) (differing t) (constant false) × IsLeastPoint P Q lefts rights (leaving t) m n i
IsFound F P Q lefts rights t accept = HaveSameNames P Q × (starts F P Q ≡ true) × AreEqual (variables P lefts rights) (differing t) (constant false) × AreEqual (variables P lefts rights) (leaving t) (constant false)
