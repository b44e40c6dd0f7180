-- What the devices in memory are, and which bytes each of their calls moves. Source: this project.
use Rattle.std.specs.Prelude.{◌≡◌, ℕ, ◌+◌, List, [], Bool, true, false, ◌||◌, length, min, is_none, nat_eq, MatchResult, Result}
use Rattle.argos_base.specs.Shelves.{Files, Entry, one_more, entry_of, file_of, has_number}
use Rattle.argos_base.specs.declared.outside.Failed.{Failed}

-- bytes to be pulled: what is left, how many a pull gives at most, which pulls fail, by number from 0, how many there were, and the faults
pub record Supply : Type 0 where
  pub left : List ℕ
  pub step : ℕ
  pub fails : List ℕ
  pub pulls : ℕ
  pub faults : ℕ

-- a supply of which nothing was pulled
abbrev pub full_supply : List ℕ → ℕ → List ℕ → Supply
full_supply bytes step fails = record { left = bytes; step = step; fails = fails; pulls = 0; faults = 0 }

-- A listed pull fails, and no other. Another one gives as many bytes as the step, the room of the buffer and what is left allow.
abbrev pub PullsListed : Supply → ℕ → Result ℕ Failed → Type 0
PullsListed s room result = MatchResult result
    (λ n. (has_number s.fails s.pulls ≡ false) × (n ≡ min (min s.step room) (length s.left)))
    (λ e. has_number s.fails s.pulls ≡ true)

-- behind a pull: it is counted, and step and list stay
pub record IsPulled (old new : Supply) : Type 0 where
  pub pulls : new.pulls ≡ one_more old.pulls
  pub step : new.step ≡ old.step
  pub fails : new.fails ≡ old.fails

-- bytes that were pushed: what is held, how many more there is room for, how many a push takes at most, which pushes fail, by number from 0,
-- how many there were, and the faults
pub record Store : Type 0 where
  pub held : List ℕ
  pub room : ℕ
  pub step : ℕ
  pub fails : List ℕ
  pub pushes : ℕ
  pub faults : ℕ

-- an empty store
abbrev pub empty_store : ℕ → ℕ → List ℕ → Store
empty_store room step fails = record { held = []; room = room; step = step; fails = fails; pushes = 0; faults = 0 }

-- how many bytes of a piece of this length go in
abbrev pub taken_by : Store → ℕ → ℕ
taken_by s piece = min (min s.step piece) s.room

-- A listed push fails, and one that finds no place; no other does. Another one takes as many bytes as the step, the piece and the room allow.
abbrev pub PushesListed : Store → ℕ → Result ℕ Failed → Type 0
PushesListed s piece result = MatchResult result
    (λ n. (has_number s.fails s.pushes ≡ false) × (n ≡ taken_by s piece))
    (λ e. (has_number s.fails s.pushes || nat_eq (taken_by s piece) 0) ≡ true)

-- behind a push of so many bytes: it is counted, the room is smaller by what went in, and step and list stay
pub record IsPushed (old new : Store) : Type 0 where
  pub pushes : new.pushes ≡ one_more old.pushes
  pub step : new.step ≡ old.step
  pub fails : new.fails ≡ old.fails
  pub room : length new.held + new.room ≡ length old.held + old.room

-- bytes that were pushed where no push is made to fail: what is held, how many more there is room for, and the faults
pub record Filling : Type 0 where
  pub held : List ℕ
  pub room : ℕ
  pub faults : ℕ

-- A push takes as many bytes as the piece and the room allow, and fails where the room is full.
abbrev pub FillsUp : Filling → ℕ → Result ℕ Failed → Type 0
FillsUp s piece result = MatchResult result (λ n. n ≡ min piece s.room) (λ e. s.room ≡ 0)

-- files by name of which no load fails, and how many loads there were
pub record SureRack : Type 0 where
  pub entries : List Entry
  pub loads : ℕ

-- files by name, which loads fail, by number from 0, how many there were, and the faults
pub record Rack : Type 0 where
  pub entries : List Entry
  pub fails : List ℕ
  pub loads : ℕ
  pub faults : ℕ

-- the next load of this name fails: it is listed, or no file has the name
abbrev pub fails_next : Rack → List ℕ → Bool
fails_next r name = has_number r.fails r.loads || is_none (entry_of r.entries name)

-- files of which no load fails; under every other name stands the empty one
abbrev pub sure_files : List Entry → ℕ → Files
sure_files es loads = record { file = file_of es; loads = loads; fails = λ n name. false }

-- files of which the loads with these numbers may fail, and every load of another name
abbrev pub failing_files : List Entry → List ℕ → ℕ → Files
failing_files es fail loads = record { file = file_of es; loads = loads; fails = λ n name. has_number fail n || is_none (entry_of es name) }
