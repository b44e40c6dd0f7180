-- Nodes as functions of points and of cyclic bits. Source: this project.
use Rattle.std.specs.Prelude.{◌≡◌, ℕ, ◌+◌, List, [], ◌∷◌}
use Rattle.dd_core.specs.declared.nodes.NodeId.{NodeId}
use Rattle.dd_core.specs.Arenas.{ArenaView, function_of}
use Rattle.eqn_completion.specs.Findings.{Finding}
use Rattle.eqn_verdict.specs.Diagrams.{Splits}
use Rattle.eqn_verdict.specs.Searching.{Test}
use Rattle.verdict_search.specs.Parts.{meet}

-- the nodes denote these functions of a points and c cyclic bits
abbrev pub AreSplit : ArenaView → ℕ → ℕ → List NodeId → List Finding → Type 0
AreSplit arena a c [] [] = Unit {0}
AreSplit arena a c [] (g ∷ gs) = ⊥
AreSplit arena a c (f ∷ fs) [] = ⊥
AreSplit arena a c (f ∷ fs) (g ∷ gs) = Splits a c (function_of arena f.0) g × AreSplit arena a c fs gs

-- a node denotes the points that pass a test
abbrev pub IsTestOf : ArenaView → ℕ → ℕ → ℕ → Test → Type 0
IsTestOf arena a c f s = Splits a c (function_of arena f) (λ y x. s y)

-- the variables are a points and c cyclic bits, and the nodes denote which points are structural, the cyclic bits are consistent where those of all parts are, and others denote the results
pub record AreSearched (arena : ArenaView) (a c structural : ℕ) (parts results : List NodeId) (s : Test) (K : Finding) (gs : List Finding) : Type 0 where
  pub variables : arena.variables ≡ a + c
  pub structural_is : IsTestOf arena a c structural s
  pub consistent_is : Splits a c (meet arena parts) K
  pub results_are : AreSplit arena a c results gs
