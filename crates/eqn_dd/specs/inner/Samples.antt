-- A system, its plan and its layout: samples for tests.
use Rattle.std.specs.Prelude.{ℕ, List, [], ◌∷◌, None, false}
use Rattle.argos_core.specs.Layouts.{RegisterShape}
use Rattle.eqn_core.specs.Equations.{Literal, code, word, next, Line, any, within, choose, Equations}

abbrev pub plus : ℕ → Literal
plus k = record { bit = k; negated = false }

-- 0 where a bit is present, else one more where another one is, else the word as it is
abbrev pub count_on : ℕ → ℕ → ℕ → Line
count_on back on w =
    choose (record { when = plus back; choice = code 0 } ∷ record { when = plus on; choice = next w } ∷ []) (word w)

-- A register that counts on where a local is present, and goes back to 0 from 2. Bit 0 is the input, and bit
-- 1 the local, which is present where the input is or where it is present itself. Bit 2, the output, tells
-- the code 2.
abbrev pub keeper : Equations
keeper = record {
  inputs = 1;
  initial = 0 ∷ [];
  lines = any (plus 0 ∷ plus 1 ∷ []) ∷ within 0 2 2 ∷ count_on 2 1 0 ∷ [];
  outputs = 2 ∷ [];
  locals = 1 ∷ [];
  next = 1 ∷ [];
}

-- the places of its lines, each behind those that it reads
abbrev pub keeper_order : List ℕ
keeper_order = 1 ∷ 0 ∷ 2 ∷ []

abbrev pub keeper_cyclic : List ℕ
keeper_cyclic = 1 ∷ []

-- a register that holds 1 or 2
abbrev pub keeper_shape : RegisterShape
keeper_shape = record { top = 2; initial = 1; ranges = []; parent = None }
