-- What nodes of an arena denote, and what a call on an arena leaves. Source: this project.
use Rattle.std.specs.Prelude.{◌≡◌, ℕ, List, Bool, map, length, All}
use Rattle.dd_core.specs.declared.nodes.NodeId.{NodeId}
use Rattle.dd_core.specs.Functions.{Function, AreEqual}
use Rattle.dd_core.specs.Arenas.{ArenaView, Holds, function_of}
use Rattle.eqn_completion.specs.Binary.{number}

-- f is a node of the function g
pub record Denotes (arena : ArenaView) (f : ℕ) (g : Function) : Type 0 where
  pub held : Holds arena f
  pub equal : AreEqual arena.variables (function_of arena f) g

-- the values of nodes where the variables have these values
abbrev pub values_at : ArenaView → List NodeId → List Bool → List Bool
values_at arena word x = map (λ (f : NodeId). function_of arena f.0 x) word

-- a word: sixteen nodes, of its binary digits, the most significant first
pub record IsWord (arena : ArenaView) (word : List NodeId) : Type 0 where
  pub sized : length word ≡ 16
  pub held : All (λ (f : NodeId). Holds arena f.0) word

-- the code that a word is where the variables have these values
abbrev pub code_at : ArenaView → List NodeId → List Bool → ℕ
code_at arena word x = number (values_at arena word x)

-- the word is this code, which depends on the variables
pub record DenotesWord (arena : ArenaView) (word : List NodeId) (g : List Bool → ℕ) : Type 0 where
  pub is_word : IsWord arena word
  pub equal : (x : List Bool) → length x ≡ arena.variables → code_at arena word x ≡ g x
