-- Nodes as they are counted, and blocks of no, one and several processes.
use Rattle.std.proofs.Common.{◌≡◌, ℕ, ◌+◌, ◌<◌, List, [], ◌∷◌, length, refl, ap, ◌∙◌, arith}
use Rattle.argos_core.specs.Process as plain
use Rattle.argos_grammar.specs.Forms.{Mark, ComponentForm}
use Rattle.argos_expansion.specs.Expansion.{Visit, over, alone, visit, header_visit, local_visit}
use Rattle.argos_expansion.specs.inner.Renaming.{states_size}
use Rattle.argos_expansion.specs.inner.ShapeGrowth.{Growth, automaton_shape_visit, block_growth, rest_growth}
use Rattle.argos_expansion.specs.inner.Shapes.{StateShapes, block_shape}
use Rattle.argos_expansion.specs.declared.placed.PlacedProcess.{PlacedProcess}

abbrev node : (depth signals automata codes size : ℕ) → Visit
node d s a c z = record { depth = d; signals = s; automata = a; codes = c; size = z }

pub header_node : (c : ComponentForm) (count : ℕ) → count ≡ length c.inputs + length c.outputs → node 0 count 0 0 count ≡ header_visit c
header_node c count e = ap (λ k. node 0 k 0 0 k) e

pub local_node : (depth : ℕ) (ns : List Mark) (count size : ℕ) → count ≡ length ns → size ≡ 1 + count → node depth count 0 0 size ≡ local_visit depth ns
local_node depth ns count size c s = ap (node depth count 0 0) s ∙ ap (λ k. node depth k 0 0 (1 + k)) c

pub automaton_node : (sigs : List ℕ) (depth codes : ℕ) (xs : StateShapes) (size : ℕ) → size ≡ 1 + states_size sigs xs → node depth 0 1 codes size ≡ automaton_shape_visit sigs depth codes xs
automaton_node sigs depth codes xs size s = ap (node depth 0 1 codes) s

module _ (gs : List Growth) (sigs : List ℕ) (depth next : ℕ) where
  pub block_none : (forms : List PlacedProcess) → length forms ≡ 0 → block_growth gs sigs depth next (block_shape forms) ≡ alone (plain.parallel plain.no_processes)
  block_none [] h = refl
  block_none (p ∷ forms) h = absurd (omega arith)

  pub block_many : (forms : List PlacedProcess) → 1 < length forms → block_growth gs sigs depth next (block_shape forms) ≡ over (visit depth 1) plain.parallel (rest_growth gs sigs (depth + 1) next (block_shape forms))
  block_many [] h = absurd (omega arith)
  block_many (p ∷ []) h = absurd (omega arith)
  block_many (p ∷ q ∷ forms) h = refl
