-- Short forms of literals and cases, and two systems: samples for tests.
use Rattle.std.specs.Prelude.{ℕ, List, [], ◌∷◌, false}
use Rattle.eqn_core.specs.Equations.{Literal, Case, code, word, all, within, choose, Equations}

abbrev pub plus : ℕ → Literal
plus k = record { bit = k; negated = false }

abbrev pub pick : ℕ → ℕ → Case
pick k n = record { when = plus k; choice = code n }

-- A counter of two bits: bit 0 is the input, bit 1 the carry of the first digit, which is a local, and bit 2 the output, which is present where the count goes round. Bits 3 and 4 tell the digits. Lines stand before those that they read.
abbrev pub counter : Equations
counter = record {
  inputs = 1;
  initial = 0 ∷ 0 ∷ [];
  lines = all (plus 3 ∷ plus 0 ∷ []) ∷ all (plus 1 ∷ plus 4 ∷ []) ∷ within 0 1 1 ∷ within 1 1 1 ∷ choose (pick 1 0 ∷ pick 0 1 ∷ []) (word 0) ∷ choose (pick 2 0 ∷ pick 1 1 ∷ []) (word 1) ∷ [];
  outputs = 2 ∷ [];
  locals = 1 ∷ [];
  next = 2 ∷ 3 ∷ [];
}

-- the places of its lines, each behind those that it reads
abbrev pub counter_order : List ℕ
counter_order = 2 ∷ 3 ∷ 0 ∷ 1 ∷ 4 ∷ 5 ∷ []

-- each line but the last two reads the next one, so that the output is the input; the register keeps its code
abbrev pub chain : Equations
chain = record {
  inputs = 1;
  initial = 7 ∷ [];
  lines = all (plus 2 ∷ []) ∷ all (plus 3 ∷ []) ∷ all (plus 0 ∷ []) ∷ choose [] (word 0) ∷ [];
  outputs = 1 ∷ [];
  locals = [];
  next = 1 ∷ [];
}

abbrev pub chain_order : List ℕ
chain_order = 3 ∷ 2 ∷ 1 ∷ 0 ∷ []
