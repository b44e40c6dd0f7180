-- Plans: an order in which the lines of a system can be evaluated, where its cyclic bits are taken as given. Source: this project.
use Rattle.std.specs.Prelude.{◌≡◌, ℕ, ◌<◌, List, ◌∷◌, ◌++◌, Bool, true, ◌↔◌, filter, length}
use Rattle.argos_base.specs.SignalSets.{lists}
use Rattle.eqn_core.specs.Dependence.{Item, bit_item, word_item, line_reads, Defines, IsCyclicBit}
use Rattle.eqn_core.specs.Equations.{Line, Equations, registers}

-- the list is that of the local bits that depend on themselves, in the order of the locals
pub record AreCyclicBits (E : Equations) (cyclic : List ℕ) : Type 0 where
  pub test : ℕ → Bool
  pub exact : (k : ℕ) → lists E.locals k ≡ true → (test k ≡ true) ↔ IsCyclicBit E k
  pub is : cyclic ≡ filter test E.locals

-- what a line may read where the lines of these places come before it and the bits `cyclic` are taken as given
pub data IsKnown (E : Equations) (earlier cyclic : List ℕ) : Item → Type 0 where
  input : (k : ℕ) → k < E.inputs → IsKnown E earlier cyclic (bit_item k)
  register : (k : ℕ) → k < registers E → IsKnown E earlier cyclic (word_item k)
  given : (k : ℕ) → lists cyclic k ≡ true → IsKnown E earlier cyclic (bit_item k)
  earlier_line : (x : Item) (place : ℕ) (line : Line) → Defines E place line x → lists earlier place ≡ true → IsKnown E earlier cyclic x

-- each line stands once in the order, and reads only what is known there
pub record IsPlanOf (E : Equations) (order cyclic : List ℕ) : Type 0 where
  pub sized : length order ≡ length E.lines
  pub each : (k : ℕ) → k < length E.lines → lists order k ≡ true
  pub known : (earlier : List ℕ) (place : ℕ) (later : List ℕ) (line : Line) (x y : Item) → order ≡ earlier ++ place ∷ later → Defines E place line x → line_reads line y ≡ true → IsKnown E earlier cyclic y
  pub cyclic_bits : AreCyclicBits E cyclic
