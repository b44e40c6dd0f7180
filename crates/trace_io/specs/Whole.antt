-- A trace that was pulled whole, and what is left of it. Source: this project.
use Rattle.std.specs.Prelude.{◌≡◌, ℕ, ◌+◌, ◌≤◌, List, [], ◌∷◌, Option, Bool, true, false, Result, Ok, Err}
use Rattle.argos_base.specs.Limits.{text_limit}
use Rattle.argos_base.specs.Names.{Spelled}
use Rattle.argos_base.specs.Outside.{IsAtEnd, Rose}
use Rattle.argos_base.specs.SignalSets.{SignalSet}
use Rattle.trace_io.specs.Lines.{Stop, at_end, failed, full, LineKind, Taken, End, used_up, bad_line, raws_from, sets_from}
use Rattle.trace_io.specs.Lines as plain
use Rattle.trace_io.specs.declared.errors.LineKind as declared
use Rattle.trace_io.specs.declared.errors.LineKind.TheVariants as kinds
use Rattle.trace_io.specs.declared.errors.TraceError.{TraceError}
use Rattle.trace_io.specs.declared.errors.TraceError.TheVariants.{BadLine, ReadFault, Long}

-- the bytes that are left, how pulling stopped, and the number of the next line
pub record Reading : Type 0 where
  pub bytes : List ℕ
  pub stop : Stop
  pub number : ℕ

-- where nothing was read yet
abbrev pub unread : Taken → Reading
unread t = record { bytes = t.bytes; stop = t.stop; number = 1 }

-- the sets of the lines that are left, and how they end
abbrev pub lines_left : List Spelled → Reading → List SignalSet × End
lines_left names r = sets_from names r.stop r.number (raws_from r.stop r.bytes)

-- how pulling stops with so many bytes taken, this left, and these counts of faults before and now
abbrev pub IsStopped : Stop → ℕ → Option (List ℕ) → ℕ → ℕ → Type 0
IsStopped at_end count left before now = (count ≤ text_limit) × IsAtEnd left
IsStopped failed count left before now = (count ≤ text_limit) × Rose before now
IsStopped full count left before now = count ≡ text_limit + 1

abbrev pub kind_of : declared.LineKind → LineKind
kind_of kinds.Unknown = plain.Unknown
kind_of kinds.Spelling = plain.Spelling
kind_of kinds.TooLong = plain.TooLong
kind_of kinds.TooMany = plain.TooMany

-- how the lines end where an error is answered
abbrev pub end_of : TraceError → End
end_of (BadLine number kind) = bad_line number (kind_of kind)
end_of (ReadFault number) = used_up failed
end_of Long = used_up full

-- a read fault tells the number of the next line
abbrev pub IsNumbered : TraceError → ℕ → Type 0
IsNumbered (BadLine number kind) next = number ≡ next
IsNumbered (ReadFault number) next = number ≡ next
IsNumbered Long next = Unit {0}

-- one more line was read: its set stands first among those that were left. At the end, or at an error, none is left.
abbrev pub ReadsNext : List Spelled → Reading → Reading → SignalSet → Result Bool TraceError → Type 0
ReadsNext names r r' set (Ok true) = (lines_left names r ≡ (set ∷ (lines_left names r').0, (lines_left names r').1)) × (r'.number ≡ r.number + 1)
ReadsNext names r r' set (Ok false) = lines_left names r ≡ ([], used_up at_end)
ReadsNext names r r' set (Err e) = (lines_left names r ≡ ([], end_of e)) × IsNumbered e r.number

-- the set and the trace stay where no line was read
abbrev pub StayUnread : Result Bool TraceError → Reading → Reading → SignalSet → SignalSet → Type 0
StayUnread (Ok true) r r' set set' = Unit {0}
StayUnread (Ok false) r r' set set' = (r' ≡ r) × (set' ≡ set)
StayUnread (Err e) r r' set set' = (r' ≡ r) × (set' ≡ set)
