-- The diagrams of a system's bits and words. Source: this project.
use Rattle.std.specs.Prelude.{◌≡◌, ◌≤◌, ℕ, List, ◌∷◌, ◌++◌, true, map, length, All}
use Rattle.argos_base.specs.Limits as limits
use Rattle.argos_base.specs.SignalSets.{SignalSet}
use Rattle.dd_core.specs.declared.nodes.NodeId.{NodeId}
use Rattle.dd_core.specs.Arenas.{ArenaView, Holds}
use Rattle.eqn_core.specs.Equations.{Line, Equations, registers, bit_count, word_count}
use Rattle.eqn_core.specs.Ordered.{line_below}
use Rattle.eqn_core.specs.Plans.{IsPlanOf}
use Rattle.eqn_core.specs.Solutions.{Values}
use Rattle.eqn_completion.specs.Completions.{IsCompletion}
use Rattle.eqn_dd.specs.declared.places.Places.{Places}
use Rattle.eqn_dd.specs.Denoting.{values_at, code_at, IsWord}
use Rattle.eqn_dd.specs.Placed.{memory_at, inputs_at, cyclic_at}

-- each line reads bits and words that exist, and there is a plan: so the lines can be drawn in its order
pub record IsDrawable (E : Equations) (order cyclic : List ℕ) : Type 0 where
  pub register_limit : registers E ≤ limits.register_limit
  pub input_limit : E.inputs ≤ limits.signal_limit
  pub line_limit : length E.lines ≤ limits.line_limit
  pub plan : IsPlanOf E order cyclic
  pub each : (before : List Line) (line : Line) (after : List Line) → E.lines ≡ before ++ line ∷ after → line_below (bit_count E) (word_count E) line ≡ true

-- s is the completion at the memory, the input set and the values of the cyclic bits that the variables stand for, where they have the values x
abbrev pub IsCompletionAt : Equations → List ℕ → Places → SignalSet → Values → Type 0
IsCompletionAt E cyclic places x s = IsCompletion E cyclic (memory_at places x) (inputs_at places x) (cyclic_at places x) s

-- The nodes denote the bits of the completion, and the words its words: each bit and each word has the value that its line gives it, where the variables of cyclic bits are read in place of these.
pub record DenoteCompletions (arena : ArenaView) (E : Equations) (cyclic : List ℕ) (places : Places) (bits : List NodeId) (words : List (List NodeId)) : Type 0 where
  pub bits_held : All (λ (f : NodeId). Holds arena f.0) bits
  pub bits_are : (x : SignalSet) (s : Values) → length x ≡ arena.variables → IsCompletionAt E cyclic places x s → values_at arena bits x ≡ s.bits
  pub words_held : All (IsWord arena) words
  pub words_are : (x : SignalSet) (s : Values) → length x ≡ arena.variables → IsCompletionAt E cyclic places x s → map (λ word. code_at arena word x) words ≡ s.words
