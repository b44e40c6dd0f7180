-- Whether a memory fits a layout, as a test, and how many digits its registers have. Source: this project.
use Rattle.std.specs.Prelude.{◌≡◌, ◌↔◌, ◌≤◌, ℕ, zero, suc, ◌+◌, ◌^◌, List, [], ◌∷◌, Option, Some, None, Bool, true, false, ◌&&◌, not, if◌then◌else◌, nat_lt, nat_le, max, map, length, slice_index_or, All}
use Rattle.argos_core.specs.Automata.{Parent}
use Rattle.argos_core.specs.Layouts.{RegisterShape, FitsLayout}
use Rattle.eqn_verdict.specs.Verdicts.{AreWidths}

abbrev pub is_on : List ℕ → Option Parent → Bool
is_on memory None = true
is_on memory (Some up) = nat_lt up.register (length memory) && (nat_le up.first (slice_index_or memory up.register 0) && nat_le (slice_index_or memory up.register 0) up.last)

-- each code is within its shape, and above 0 exactly where the automaton is on
abbrev pub fit : List ℕ → List RegisterShape → List ℕ → Bool
fit memory [] [] = true
fit memory [] (a ∷ codes) = false
fit memory (s ∷ layout) [] = false
fit memory (s ∷ layout) (a ∷ codes) = (nat_le a s.top && (if nat_lt 0 a then is_on memory s.parent else not (is_on memory s.parent))) && fit memory layout codes

abbrev pub fits : List RegisterShape → List ℕ → Bool
fits layout memory = fit memory layout memory

abbrev pub FitsIsTest : Type 0
FitsIsTest = (layout : List RegisterShape) (memory : List ℕ) → (fits layout memory ≡ true) ↔ (FitsLayout layout memory)

-- how many of the first k powers of two are at most n
abbrev pub powers_within : ℕ → ℕ → ℕ
powers_within zero n = 0
powers_within (suc k) n = (if nat_le (2 ^ k) n then 1 else 0) + powers_within k n

-- the number of binary digits of a code; 0 has one
abbrev pub digit_count : ℕ → ℕ
digit_count n = max 1 (powers_within 16 n)

abbrev pub widths_of : List RegisterShape → List ℕ
widths_of layout = map (λ s. digit_count s.top) layout

-- these are enough where no code is above 65,535
abbrev pub WidthsAreEnough : Type 0
WidthsAreEnough = (layout : List RegisterShape) → All (λ s. s.top ≤ 65535) layout → AreWidths layout (widths_of layout)
