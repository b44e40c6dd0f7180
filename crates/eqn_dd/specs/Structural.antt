-- The diagram of a layout, and how many binary digits its registers have. Source: this project.
use Rattle.std.specs.Prelude.{◌≡◌, ◌↔◌, ℕ, zero, suc, ◌+◌, ◌^◌, List, true, if◌then◌else◌, nat_le, max, map, length}
use Rattle.argos_core.specs.Layouts.{RegisterShape, FitsLayout}
use Rattle.argos_base.specs.SignalSets.{SignalSet}
use Rattle.dd_core.specs.Arenas.{ArenaView, Holds, function_of}
use Rattle.eqn_dd.specs.declared.places.Places.{Places}
use Rattle.eqn_dd.specs.Placed.{memory_at}

-- f is true exactly where the memory fits the layout
pub record DenotesLayout (arena : ArenaView) (f : ℕ) (layout : List RegisterShape) (places : Places) : Type 0 where
  pub held : Holds arena f
  pub exact : (x : SignalSet) → length x ≡ arena.variables → (function_of arena f x ≡ true) ↔ (FitsLayout layout (memory_at places x))

-- how many of the first k powers of two are at most n
abbrev pub powers_within : ℕ → ℕ → ℕ
powers_within zero n = 0
powers_within (suc k) n = (if nat_le (2 ^ k) n then 1 else 0) + powers_within k n

-- the number of binary digits of a code; 0 has one
abbrev pub digit_count : ℕ → ℕ
digit_count n = max 1 (powers_within 16 n)

-- for each register as many as its greatest code has
abbrev pub widths_of : List RegisterShape → List ℕ
widths_of layout = map (λ s. digit_count s.top) layout
