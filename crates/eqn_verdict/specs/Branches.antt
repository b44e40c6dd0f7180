-- Lines that compute a diagram. Source: this project.
use Rattle.std.specs.Prelude.{◌≡◌, ℕ, zero, suc, ◌+◌, ◌-◌, ◌<◌, List, [], ◌∷◌, ◌++◌, ◌⊎◌, Bool, true, false, if◌then◌else◌, nat_lt}
use Rattle.argos_base.specs.SignalSets.{SignalSet, has, lists}
use Rattle.eqn_core.specs.Equations.{Literal, Line, all, any, digit}
use Rattle.eqn_completion.specs.Moving.{Table, put}

abbrev pub plus : ℕ → Literal
plus k = record { bit = k; negated = false }

abbrev pub minus : ℕ → Literal
minus k = record { bit = k; negated = true }

-- the digits of word r, the most significant first; and those of the words from r on
abbrev pub digits_of : ℕ → ℕ → List Line
digits_of r zero = []
digits_of r (suc w) = digit r w ∷ digits_of r w

abbrev pub digit_lines : ℕ → List ℕ → List Line
digit_lines r [] = []
digit_lines r (w ∷ widths) = digits_of r w ++ digit_lines (suc r) widths

-- the bit of a variable, where the digits of the registers stand behind the inputs
abbrev pub variable_bit : ℕ → ℕ → ℕ → ℕ
variable_bit inputs register_bits v = if nat_lt v register_bits then inputs + v else v - register_bits

-- A node of a diagram. The ids 0 and 1 are the constants.
pub record Branch : Type 0 where
  pub id : ℕ
  pub variable : ℕ
  pub low : ℕ
  pub high : ℕ

-- the literals, and the node f
abbrev pub and_node : List Literal → ℕ → Table → Line
and_node ls zero table = any []
and_node ls (suc zero) table = all ls
and_node ls (suc (suc f)) table = all (plus (table (suc (suc f))) ∷ ls)

-- three lines a node, from bit b on
abbrev pub branch_lines : Table → List Branch → Table → ℕ → List Line
branch_lines var [] table b = []
branch_lines var (n ∷ ns) table b =
    and_node (plus (var n.variable) ∷ []) n.high table
    ∷ and_node (minus (var n.variable) ∷ []) n.low table
    ∷ any (plus b ∷ plus (suc b) ∷ [])
    ∷ branch_lines var ns (put table n.id (suc (suc b))) (suc (suc (suc b)))

abbrev pub branches_after : List Branch → Table → ℕ → Table
branches_after [] table b = table
branches_after (n ∷ ns) table b = branches_after ns (put table n.id (suc (suc b))) (suc (suc (suc b)))

-- a line for each root
abbrev pub root_lines : List ℕ → Table → List Line
root_lines [] table = []
root_lines (f ∷ roots) table = and_node [] f table ∷ root_lines roots table

-- a constant, or a node among those that stand before
abbrev pub IsReference : List ℕ → ℕ → Type 0
IsReference known f = (f < 2) ⊎ (lists known f ≡ true)

-- each node tests a variable below v, and its children are constants or stand before it
abbrev pub AreInTurn : ℕ → List ℕ → List Branch → Type 0
AreInTurn v known [] = Unit {0}
AreInTurn v known (n ∷ ns) = (n.variable < v) × IsReference known n.low × IsReference known n.high × AreInTurn v (n.id ∷ known) ns

abbrev pub AreReferences : List ℕ → List ℕ → Type 0
AreReferences known [] = Unit {0}
AreReferences known (f ∷ roots) = IsReference known f × AreReferences known roots

-- the ids of nodes, the last first, before those known
abbrev pub ids_with : List ℕ → List Branch → List ℕ
ids_with known [] = known
ids_with known (n ∷ ns) = ids_with (n.id ∷ known) ns

-- at the point p the nodes have these values
abbrev pub HaveValues : SignalSet → (ℕ → Bool) → List Branch → Type 0
HaveValues p value [] = (value 0 ≡ false) × (value 1 ≡ true)
HaveValues p value (n ∷ ns) = (value n.id ≡ (if has p n.variable then value n.high else value n.low)) × HaveValues p value ns
