-- A system whose cyclic bits are computed from registers and inputs. Source: this project.
use Rattle.std.specs.Prelude.{◌≡◌, ℕ, ◌+◌, ◌*◌, ◌<◌, List, [], ◌++◌, Bool, ◌&&◌, map, length}
use Rattle.argos_base.specs.SignalSets.{SignalSet, has}
use Rattle.eqn_core.specs.Equations.{Equations}
use Rattle.eqn_completion.specs.Binary.{digits_in}
use Rattle.eqn_verdict.specs.Branches.{digit_lines, variable_bit, Branch, branch_lines, branches_after, root_lines, AreInTurn, AreReferences, ids_with, HaveValues}
use Rattle.eqn_completion.specs.Moving.{Table, Tables, moved_lines, tables_after, given_numbers}
use Rattle.eqn_verdict.specs.Searching.{Test, some, least}
use Rattle.eqn_completion.specs.Findings.{Finding}

-- where the memory is structural and some values are consistent, the cyclic bit with this place is in the least ones
abbrev pub in_least : ℕ → Test → Finding → ℕ → Test
in_least c structural consistent j y = structural y && (some c (consistent y) && has (least c (consistent y)) j)

abbrev pub no_table : Table
no_table k = 0

-- the digits stand behind the inputs, the nodes behind these, then the cyclic bits, then all other lines
abbrev pub first_node : Equations → List ℕ → ℕ
first_node E widths = E.inputs + digits_in widths

abbrev pub first_root : Equations → List ℕ → List Branch → ℕ
first_root E widths ns = first_node E widths + 3 * length ns

abbrev pub node_table : Equations → List ℕ → List Branch → Table
node_table E widths ns = branches_after ns no_table (first_node E widths)

abbrev pub first_tables : Equations → List ℕ → List ℕ → List Branch → Tables
first_tables E cyclic widths ns = given_numbers E cyclic (first_root E widths ns)

abbrev pub new_tables : Equations → List ℕ → List ℕ → List ℕ → List Branch → Tables
new_tables E order cyclic widths ns = tables_after E cyclic order (first_tables E cyclic widths ns)

abbrev pub solved_system : Equations → List ℕ → List ℕ → List ℕ → List Branch → List ℕ → Equations
solved_system E order cyclic widths ns roots = record {
  inputs = E.inputs;
  initial = E.initial;
  lines = digit_lines 0 widths ++ (branch_lines (variable_bit E.inputs (digits_in widths)) ns no_table (first_node E widths) ++ (root_lines roots (node_table E widths ns) ++ moved_lines E cyclic order (first_tables E cyclic widths ns)));
  outputs = map (new_tables E order cyclic widths ns).bits E.outputs;
  locals = [];
  next = map (new_tables E order cyclic widths ns).words E.next;
}

-- the nodes and roots are diagrams of the functions that say where each cyclic bit is in the least solution
pub record AreSolvedDiagrams (inputs c : ℕ) (widths : List ℕ) (structural : Test) (consistent : Finding) (ns : List Branch) (roots : List ℕ) : Type 0 where
  pub in_turn : AreInTurn (digits_in widths + inputs) [] ns
  pub references : AreReferences (ids_with [] ns) roots
  pub sized : length roots ≡ c
  pub values : SignalSet → ℕ → Bool
  pub nodes_are : (p : SignalSet) → length p ≡ digits_in widths + inputs → HaveValues p (values p) ns
  pub roots_are : (p : SignalSet) (j : ℕ) → length p ≡ digits_in widths + inputs → j < c → has (map (values p) roots) j ≡ in_least c structural consistent j p
