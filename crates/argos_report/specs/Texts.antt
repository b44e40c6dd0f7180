-- Lines of reports. Source: this project.
use Rattle.std.specs.Prelude.{ℕ, List, [], ◌∷◌, ◌++◌, codes, decimal}

abbrev pub line : List ℕ → List ℕ
line bs = bs ++ 10 ∷ []

-- a refusal of file k
abbrev pub refused_file : ℕ → List ℕ → List ℕ
refused_file k cause = line (codes "refused: file " ++ decimal k ++ codes ": " ++ cause)

-- the verdict no on file k
abbrev pub no_file : ℕ → List ℕ → List ℕ
no_file k cause = line (codes "no: file " ++ decimal k ++ codes ": " ++ cause)
