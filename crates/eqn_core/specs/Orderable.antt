-- Systems that can be put in order: the conditions at which a plan is made. Source: this project.
use Rattle.std.specs.Prelude.{◌≡◌, ℕ, ◌<◌, ◌≤◌, List, ◌∷◌, ◌++◌, Bool, true, false, Some, length, slice_get}
use Rattle.argos_base.specs.Limits as limits
use Rattle.eqn_core.specs.Chains.{Chain}
use Rattle.argos_base.specs.SignalSets.{lists}
use Rattle.eqn_core.specs.Dependence.{Item, bit_item, word_item, line_reads, ItemDepends}
use Rattle.eqn_core.specs.Equations.{Choice, Case, Line, choose, Equations, registers, bit_count, word_count}
use Rattle.eqn_core.specs.Ordered.{line_below, all_below, all_between}

-- the item is the bit of a local
abbrev pub is_local : Equations → Item → Bool
is_local E (bit_item k) = lists E.locals k
is_local E (word_item k) = false

-- the line that defines x reads y, and x isn't the bit of a local
pub record DependsPastLocals (E : Equations) (x y : Item) : Type 0 where
  pub past : is_local E x ≡ false
  pub depends : ItemDepends E x y

-- what `order`, and what comes after it, asks of a system
pub record IsOrderable (E : Equations) : Type 0 where
  -- each cycle among the bits, also one through the word of a `choose`, passes a bit of a local
  pub cycles : (k : ℕ) → ¬ (Chain (DependsPastLocals E) (bit_item k) (bit_item k))
  -- each `choose` reads bits and registers alone
  pub chooses : (before : List Line) (cases : List Case) (other : Choice) (after : List Line) (w : ℕ) → E.lines ≡ before ++ choose cases other ∷ after → line_reads (choose cases other) (word_item w) ≡ true → w < registers E
  -- each number names a bit or a word that exists; bounds and places are as those of ordered systems
  pub each : (before : List Line) (line : Line) (after : List Line) → E.lines ≡ before ++ line ∷ after → line_below (bit_count E) (word_count E) line ≡ true
  pub next_sized : length E.next ≡ registers E
  pub next_exist : all_between (registers E) (word_count E) E.next ≡ true
  pub outputs_exist : all_below (bit_count E) E.outputs ≡ true
  pub locals_exist : all_below (bit_count E) E.locals ≡ true
  -- no bit stands twice among the locals
  pub locals_once : (j k x : ℕ) → slice_get E.locals j ≡ Some x → slice_get E.locals k ≡ Some x → j ≡ k
  -- limits
  pub register_limit : registers E ≤ limits.register_limit
  pub input_limit : E.inputs ≤ limits.signal_limit
  pub output_limit : length E.outputs ≤ limits.signal_limit
  pub line_limit : length E.lines ≤ limits.plan_line_limit
