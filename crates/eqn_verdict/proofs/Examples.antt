-- Small systems: the definitions compute.
use Rattle.std.proofs.Common.{◌≡◌, ℕ, zero, suc, List, [], ◌∷◌, None, true, false, map, refl}
use Rattle.std.specs.Prelude.{drop}
use Rattle.argos_base.specs.Machines.{no_reaction, several}
use Rattle.argos_base.specs.SignalSets.{SignalSet, has}
use Rattle.argos_core.specs.Layouts.{RegisterShape}
use Rattle.eqn_core.specs.Equations.{Line, all, any, choose, code, Equations, weight_of}
use Rattle.eqn_core.specs.inner.OrderTest.{is_ordered}
use Rattle.eqn_core.specs.Solutions.{Values, bit_of, word_of}
use Rattle.eqn_completion.specs.Binary.{memory_of}
use Rattle.eqn_verdict.specs.Branches.{plus, minus, Branch}
use Rattle.eqn_verdict.specs.Diagrams.{are_same}
use Rattle.eqn_verdict.specs.Searching.{Test}
use Rattle.eqn_verdict.specs.Solved.{solved_system, in_least}
use Rattle.eqn_verdict.specs.Structural.{fits, widths_of}
use Rattle.eqn_completion.specs.Findings.{Finding}
use Rattle.eqn_verdict.specs.Verdicts.{bits_of, is_bad, fault_at}
use Rattle.eqn_completion.proofs.Completing.{rounded}

-- one register, which is always on and has the codes 1 and 2
abbrev layout : List RegisterShape
layout = record { top = 2; initial = 1; ranges = []; parent = None } ∷ []

abbrev widths : List ℕ
widths = 2 ∷ []

-- input 0; bit 1 is a local, which this line defines; bit 2, the output, is the input and the local; the register becomes 2 where the output is present, else 1
abbrev with_local : Line → Equations
with_local l = record {
  inputs = 1;
  initial = 1 ∷ [];
  lines = l ∷ all (plus 0 ∷ plus 1 ∷ []) ∷ choose (record { when = plus 2; choice = code 2 } ∷ []) (code 1) ∷ [];
  outputs = 2 ∷ [];
  locals = 1 ∷ [];
  next = 1 ∷ [];
}

abbrev order : List ℕ
order = 0 ∷ 1 ∷ 2 ∷ []

abbrev cyclic : List ℕ
cyclic = 1 ∷ []

-- the completion at these values of register bits and inputs, and of the cyclic bit
abbrev completion : Equations → SignalSet → SignalSet → Values
completion E y x = rounded E cyclic (memory_of widths y) (drop 2 y) x 4

abbrev structural : Test
structural y = fits layout (memory_of widths y)

abbrev consistent : Equations → Finding
consistent E y x = are_same (map (bit_of (completion E y x)) cyclic) x

abbrev result : Equations → ℕ → Finding
result E k y x = has (bits_of (record { outputs = map (bit_of (completion E y x)) E.outputs; next = map (word_of (completion E y x)) E.next })) k

-- of the seventeen results the output and the last two digits are enough here
abbrev results : Equations → List Finding
results E = result E 0 ∷ result E 15 ∷ result E 16 ∷ []

widths-are : widths_of layout ≡ widths
widths-are = refl

-- a local that supports itself: where the input is present there are two reactions, and the first such case is the memory 1, that is the digits 0 1
abbrev supported : Equations
supported = with_local (any (plus 1 ∷ []))

good-without_input : is_bad 1 structural (consistent supported) (results supported) (false ∷ true ∷ false ∷ []) ≡ false
good-without_input = refl

bad-with_input : is_bad 1 structural (consistent supported) (results supported) (false ∷ true ∷ true ∷ []) ≡ true
bad-with_input = refl

not_structural : is_bad 1 structural (consistent supported) (results supported) (false ∷ false ∷ true ∷ []) ≡ false
not_structural = refl

abbrev all_results : Equations → ℕ → ℕ → List Finding
all_results E k zero = []
all_results E k (suc n) = result E k ∷ all_results E (suc k) n

two-reactions : fault_at 1 1 1 (consistent supported) (all_results supported 0 17) (false ∷ true ∷ true ∷ []) ≡ several (record { outputs = false ∷ []; next = 1 ∷ [] }) (record { outputs = true ∷ []; next = 2 ∷ [] })
two-reactions = refl

-- a local that is present where it is absent: there is no reaction
abbrev opposed : Equations
opposed = with_local (any (minus 1 ∷ []))

bad-always : is_bad 1 structural (consistent opposed) (results opposed) (false ∷ true ∷ false ∷ []) ≡ true
bad-always = refl

none : fault_at 1 1 1 (consistent opposed) (all_results opposed 0 17) (false ∷ true ∷ false ∷ []) ≡ no_reaction
none = refl

-- a local that is present where it is, or the input is
abbrev needed : Equations
needed = with_local (any (plus 1 ∷ plus 0 ∷ []))

-- its least solution: present exactly where the input is
least-absent : in_least 1 structural (consistent needed) 0 (false ∷ true ∷ false ∷ []) ≡ false
least-absent = refl

least-present : in_least 1 structural (consistent needed) 0 (false ∷ true ∷ true ∷ []) ≡ true
least-present = refl

-- one node that tests the input, variable 2; the solved system has the digits of the register as the bits 1 and 2, the node's lines as 3 to 5, the cyclic bit as 6 and the output as 7
abbrev input_node : Branch
input_node = record { id = 2; variable = 2; low = 0; high = 1 }

abbrev pub solved_needed : Equations
solved_needed = solved_system needed order cyclic widths (input_node ∷ []) (2 ∷ [])

solved-is_ordered : is_ordered solved_needed ≡ true
solved-is_ordered = refl

solved-outputs : solved_needed.outputs ≡ 7 ∷ []
solved-outputs = refl

solved-weight : weight_of solved_needed ≡ 15
solved-weight = refl
