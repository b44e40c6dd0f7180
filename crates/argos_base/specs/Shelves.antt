-- What a shelf tells, and what a load may answer. Source: this project.
use Rattle.std.specs.Prelude.{◌≡◌, ℕ, ◌+◌, ◌-◌, ◌^◌, ◌<◌, ◌≤◌, min, List, [], length, Option, None, Some, Result, Ok, Err, IsTrue, Bool, Vec, String, string_bytes, nat_eq, bytes_eq, find}
use Rattle.std.specs.List.{list_any}
use Rattle.std.specs.declared.alloc.Global.{Global}
use Rattle.argos_base.specs.Limits.{text_limit}
use Rattle.argos_base.specs.Outside.{Rose}
use Rattle.argos_base.specs.declared.shelf.LoadError.{LoadError}
use Rattle.argos_base.specs.declared.shelf.LoadError.TheVariants.{Failed, TooLong, OutOfMemory}

-- the file of each name, the number of loads so far, and which load of which name may fail
pub record Files : Type 0 where
  pub file : List ℕ → List ℕ
  pub loads : ℕ
  pub fails : ℕ → List ℕ → Bool

-- one more, up to the last value of a count
abbrev pub one_more : ℕ → ℕ
one_more n = min (n + 1) (2 ^ 64 - 1)

-- each load is counted, and no file changes
abbrev pub after_load : Option Files → Option Files
after_load None = None
after_load (Some f) = Some (record f { loads = one_more f.loads })

-- what a load of this name may answer, where the files are told
abbrev pub Answers : Option Files → List ℕ → Result (Vec ℕ Global) LoadError → Type 0
Answers None name r = Unit {0}
Answers (Some f) name (Ok v) = v.items ≡ f.file name
Answers (Some f) name (Err Failed) = IsTrue (f.fails f.loads name)
Answers (Some f) name (Err (TooLong n)) = text_limit < length (f.file name)
Answers (Some f) name (Err OutOfMemory) = Unit {0}

-- what holds of an answer whether or not the files are told: a file is short, a failure was counted, and a shelf stops taking one byte behind the most that a file may have
abbrev pub IsCaused : ℕ → ℕ → Result (Vec ℕ Global) LoadError → Type 0
IsCaused before now (Ok v) = length v.items ≤ text_limit
IsCaused before now (Err Failed) = Rose before now
IsCaused before now (Err (TooLong n)) = n ≡ text_limit + 1
IsCaused before now (Err OutOfMemory) = Unit {0}

-- a load that gives a file, or that doesn't fail otherwise, leaves the count of faults
abbrev pub LeavesFaults : ℕ → ℕ → Result (Vec ℕ Global) LoadError → Type 0
LeavesFaults before now (Err Failed) = before ≤ now
LeavesFaults before now _ = now ≡ before

-- a list of files by name
abbrev pub Entry : Type 0
Entry = String Global × Vec ℕ Global

-- the first file of a name
abbrev pub entry_of : List Entry → List ℕ → Option Entry
entry_of es name = find (λ e. bytes_eq (string_bytes e.0) name) es

-- its bytes, and none where no file has the name
abbrev pub bytes_of : Option Entry → List ℕ
bytes_of None = []
bytes_of (Some e) = e.1.items

abbrev pub file_of : List Entry → List ℕ → List ℕ
file_of es name = bytes_of (entry_of es name)

abbrev pub has_number : List ℕ → ℕ → Bool
has_number ks n = list_any (λ k. nat_eq k n) ks

-- what a copy of some bytes may be, for a shelf that stops taking one byte behind the most that a file may have
abbrev pub Copies : List ℕ → Result (Vec ℕ Global) LoadError → Type 0
Copies bs (Ok v) = (v.items ≡ bs) × (length bs ≤ text_limit)
Copies bs (Err Failed) = ⊥
Copies bs (Err (TooLong n)) = (n ≡ text_limit + 1) × (text_limit < length bs)
Copies bs (Err OutOfMemory) = Unit {0}

-- a whole file, or one byte more than a file may have that was taken of a longer one
abbrev pub IsFile : Result (Vec ℕ Global) LoadError → Type 0
IsFile (Ok v) = length v.items ≤ text_limit
IsFile (Err (TooLong n)) = n ≡ text_limit + 1
IsFile (Err Failed) = Unit {0}
IsFile (Err OutOfMemory) = Unit {0}
