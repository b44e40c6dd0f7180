-- What the variables stand for that places name. Source: this project.
use Rattle.std.specs.Prelude.{◌≡◌, ℕ, ◌+◌, ◌<◌, ◌≤◌, List, [], ◌∷◌, ◌++◌, nat_eq, map, length, take, drop, flat_map, All}
use Rattle.std.specs.List.{IsDistinct, range_with_len}
use Rattle.argos_base.specs.Limits as limits
use Rattle.argos_base.specs.SignalSets.{SignalSet, has}
use Rattle.eqn_core.specs.Equations.{Equations, registers, bit_count}
use Rattle.eqn_completion.specs.Binary.{number, digits_in}
use Rattle.eqn_dd.specs.declared.places.Places.{Places}

-- a register's first variable, and how many it has
abbrev pub Register : Type 0
Register = ℕ × ℕ

-- the code of a register where the variables have the values x
abbrev pub register_at : SignalSet → Register → ℕ
register_at x r = number (take r.1 (drop r.0 x))

-- the memory, the input set and the values of the cyclic bits there
abbrev pub memory_at : Places → SignalSet → List ℕ
memory_at p x = map (register_at x) p.regs.items

abbrev pub inputs_at : Places → SignalSet → SignalSet
inputs_at p x = map (has x) p.inputs.items

abbrev pub cyclic_at : Places → SignalSet → SignalSet
cyclic_at p x = map (has x) p.cyclic.items

-- the variables of registers
abbrev pub register_variables : List Register → List ℕ
register_variables regs = flat_map (λ r. range_with_len r.0 r.1) regs

-- different variables below v are named, at most sixteen for each register
pub record NamesRegisters (v : ℕ) (regs : List Register) : Type 0 where
  pub narrow : All (λ r. r.1 ≤ 16) regs
  pub exist : All (λ k. k < v) (register_variables regs)
  pub different : IsDistinct nat_eq (register_variables regs)

abbrev pub all_variables : Places → List ℕ
all_variables p = register_variables p.regs.items ++ p.inputs.items ++ p.cyclic.items

-- different variables below v are named, for the registers, the inputs and the cyclic bits of a system
pub record NamesVariables (v : ℕ) (E : Equations) (cyclic : List ℕ) (p : Places) : Type 0 where
  pub registers_sized : length p.regs.items ≡ registers E
  pub inputs_sized : length p.inputs.items ≡ E.inputs
  pub cyclic_sized : length p.cyclic.items ≡ length cyclic
  pub narrow : All (λ r. r.1 ≤ 16) p.regs.items
  pub exist : All (λ k. k < v) (all_variables p)
  pub different : IsDistinct nat_eq (all_variables p)

-- registers with so many variables each, one after the other from variable k on
abbrev pub registers_from : ℕ → List ℕ → List Register
registers_from k [] = []
registers_from k (w ∷ widths) = (k, w) ∷ registers_from (k + w) widths

-- the variables are numbered from 0: those of registers that have so many, then inputs, then cyclic bits
pub record AreInTurn (widths : List ℕ) (inputs cyclic : ℕ) (p : Places) : Type 0 where
  pub registers_are : p.regs.items ≡ registers_from 0 widths
  pub inputs_are : p.inputs.items ≡ range_with_len (digits_in widths) inputs
  pub cyclic_are : p.cyclic.items ≡ range_with_len (digits_in widths + inputs) cyclic

-- a system has few registers, inputs and lines, and no more cyclic bits than bits
pub record IsPlaceable (E : Equations) (cyclic : List ℕ) : Type 0 where
  pub register_limit : registers E ≤ limits.register_limit
  pub input_limit : E.inputs ≤ limits.signal_limit
  pub line_limit : length E.lines ≤ limits.line_limit
  pub few_cyclic : length cyclic ≤ bit_count E
