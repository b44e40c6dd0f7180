-- The parts of bytes between those of a kind. Source: this project.
use Rattle.std.specs.Prelude.{ℕ, List, [], ◌∷◌, Option, Some, None, Bool, true, false, ◌==◌}
use Rattle.std.specs.List.{slice_split}
use Rattle.std.specs.Borrow.{Bor}

-- the parts of what stands behind a cut
abbrev pub parts_of : ℕ → Option (Bor (List ℕ)) → List (List ℕ)
parts_of at None = []
parts_of at (Some rest) = slice_split (λ b. b == at) rest.now

-- after a space where another word stands before it
abbrev pub spaced : Bool → List ℕ → List ℕ
spaced true word = 32 ∷ word
spaced false word = word
