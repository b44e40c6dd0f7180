-- What is left of an input, what was appended to an output, and when a fault may be answered. `None` tells nothing of content. Source: this project.
use Rattle.std.specs.Prelude.{◌≡◌, ℕ, ◌+◌, ◌-◌, ◌^◌, ◌≤◌, min, List, [], ◌++◌, Option, None, Some, Result, OnOk, OnErr}

-- these bytes, and then those that are told
abbrev pub ahead : List ℕ → Option (List ℕ) → Option (List ℕ)
ahead bs None = None
ahead bs (Some xs) = Some (bs ++ xs)

-- the bytes that are told, and then these
abbrev pub behind : Option (List ℕ) → List ℕ → Option (List ℕ)
behind None bs = None
behind (Some xs) bs = Some (xs ++ bs)

-- where the bytes are told, none is left
abbrev pub IsAtEnd : Option (List ℕ) → Type 0
IsAtEnd None = Unit {0}
IsAtEnd (Some xs) = xs ≡ []

-- the count rose, or stands at its last value
abbrev pub Rose : ℕ → ℕ → Type 0
Rose before now = min (before + 1) (2 ^ 64 - 1) ≤ now

-- the count of faults didn't fall, rose where the call failed, and stayed where it succeeded
pub record HasCause {T E : Type 0} (before now : ℕ) (result : Result T E) : Type 0 where
  pub later : before ≤ now
  pub failed : OnErr result (Rose before now)
  pub kept : OnOk result (now ≡ before)
