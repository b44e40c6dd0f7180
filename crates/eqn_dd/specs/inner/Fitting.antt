-- Whether a memory fits a layout, as a test that computes. A lemma says that this is what `FitsLayout` asks.
use Rattle.std.specs.Prelude.{ℕ, List, [], ◌∷◌, Option, Some, None, Bool, true, false, ◌&&◌, not, if◌then◌else◌, nat_lt, nat_le, map, length, slice_index_or}
use Rattle.argos_core.specs.Automata.{Parent}
use Rattle.argos_core.specs.Layouts.{RegisterShape}
use Rattle.argos_base.specs.SignalSets.{SignalSet}
use Rattle.dd_core.specs.declared.nodes.NodeId.{NodeId}
use Rattle.dd_core.specs.Arenas.{ArenaView}
use Rattle.eqn_dd.specs.Denoting.{code_at}

-- the codes that words are
abbrev pub codes_at : ArenaView → List (List NodeId) → SignalSet → List ℕ
codes_at arena words x = map (λ word. code_at arena word x) words

abbrev pub is_on : List ℕ → Option Parent → Bool
is_on memory None = true
is_on memory (Some up) = nat_lt up.register (length memory) && (nat_le up.first (slice_index_or memory up.register 0) && nat_le (slice_index_or memory up.register 0) up.last)

-- the code is within its shape, and above 0 exactly where the automaton is on
abbrev pub fits_shape : List ℕ → RegisterShape → ℕ → Bool
fits_shape memory s a = nat_le a s.top && (if nat_lt 0 a then is_on memory s.parent else not (is_on memory s.parent))

abbrev pub fits_shapes : List ℕ → List RegisterShape → List ℕ → Bool
fits_shapes memory [] [] = true
fits_shapes memory [] (a ∷ codes) = false
fits_shapes memory (s ∷ layout) [] = false
fits_shapes memory (s ∷ layout) (a ∷ codes) = fits_shape memory s a && fits_shapes memory layout codes
