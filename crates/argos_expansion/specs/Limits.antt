-- The limits of the expansion, and which of them is passed first. Source: this project.
use Rattle.std.specs.Prelude.{◌≡◌, ℕ, List, [], ◌∷◌, ◌++◌, sum_by, Option, Some, None, nat_lt, if◌then◌else◌}
use Rattle.argos_base.specs.Limits.{depth_limit, signal_limit, automaton_limit, code_limit, size_limit}
use Rattle.argos_expansion.specs.Expansion.{Visit}

pub data Which : Type 0 where
  Signals Automata Codes Depth Size Trace : Which

-- the counts at the last of some visits: the signals, automata and size of all of them, and the depth and codes of the last
abbrev pub signals_at : List Visit → ℕ
signals_at = sum_by (λ v. v.signals)

abbrev pub automata_at : List Visit → ℕ
automata_at = sum_by (λ v. v.automata)

abbrev pub size_at : List Visit → ℕ
size_at = sum_by (λ v. v.size)

-- the first limit that is passed at visit v, after those before, with the number that is reached there
abbrev pub passed : List Visit → Visit → Option (Which × ℕ)
passed before v = let all = before ++ v ∷ [] in
    if nat_lt depth_limit v.depth then Some (Depth, v.depth)
    else (if nat_lt signal_limit (signals_at all) then Some (Signals, signals_at all)
    else (if nat_lt automaton_limit (automata_at all) then Some (Automata, automata_at all)
    else (if nat_lt code_limit v.codes then Some (Codes, v.codes)
    else (if nat_lt size_limit (size_at all) then Some (Size, size_at all) else None))))

-- no limit is passed at any of the visits, where those before have been
abbrev pub WithinFrom : List Visit → List Visit → Type 0
WithinFrom before [] = Unit {0}
WithinFrom before (v ∷ vs) = (passed before v ≡ None) × WithinFrom (before ++ v ∷ []) vs

abbrev pub IsWithin : List Visit → Type 0
IsWithin = WithinFrom []

-- the first limit that the visits pass
pub record IsFirstPassed (vs : List Visit) (which : Which) (count : ℕ) : Type 0 where
  pub before : List Visit
  pub at : Visit
  pub after : List Visit
  pub split : vs ≡ before ++ at ∷ after
  pub within : IsWithin before
  pub passes : passed before at ≡ Some (which, count)
