-- Signals by their values. Source: this project.
use Rattle.std.specs.Prelude.{ℕ, List, [], ◌∷◌, Bool, if◌then◌else◌}

-- of the signals those whose value is true
abbrev pub chosen : List ℕ → List Bool → List ℕ
chosen [] values = []
chosen (s ∷ signals) [] = []
chosen (s ∷ signals) (v ∷ values) = if v then s ∷ chosen signals values else chosen signals values
