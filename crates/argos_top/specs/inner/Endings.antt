-- How a call ends, whichever way: what it was to write and the status that follows, and how much of that was appended. The clauses of the top call are drawn from it.
use Rattle.std.specs.Prelude.{◌≡◌, ℕ, ◌+◌, List, [], ◌++◌, Option, length}
use Rattle.argos_base.specs.Outside.{ahead, behind, IsAtEnd, Rose}
use Rattle.argos_base.specs.SignalSets.{SignalSet}
use Rattle.dd_core.specs.Arenas.{ArenaView}
use Rattle.argos_words.specs.Words.{Words}
use Rattle.trace_io.specs.Lines.{at_end, failed, full, Taken, End, used_up, bad_line, input_lines}
use Rattle.trace_io.specs.Whole.{IsStopped}
use Rattle.argos_load.specs.Calls.{Call}
use Rattle.argos_top.specs.Devices.{Devices}
use Rattle.argos_top.specs.Clauses.{IsPart, DueWhereTold, FaultBytes, BudgetBytes, Simulates}
use Rattle.argos_load.specs.Runnables.{Runnable, input_names, output_names, HasTrace}
use Rattle.argos_load.specs.Said.{Answer, Yes, Said, read_fault_line, bad_line_text, long_trace_text}
use Rattle.argos_load.specs.Said as said
use Rattle.argos_top.specs.Simulation.{output_lines}
use Rattle.argos_load.specs.declared.stop.Stop as early
use Rattle.argos_load.specs.declared.stop.Stop.TheVariants as stop
use Rattle.argos_top.specs.declared.status.Status.{Status}
use Rattle.argos_top.specs.declared.status.Status.TheVariants as status

-- the status of an answer
abbrev pub status_of : Answer → Status
status_of said.Yes = status.Yes
status_of said.No = status.No
status_of said.Usage = status.Usage
status_of said.Refused = status.Refused

-- how writing these bytes ends, where this status follows: they were all appended, or the sink failed behind a part of them
pub data Pushes (bytes : List ℕ) (follows : Status) (sink : Call (Option (List ℕ))) (r : Status) : Type 0 where
  whole : r ≡ follows → sink.told' ≡ behind sink.told bytes → sink.faults' ≡ sink.faults → Pushes bytes follows sink r
  sink_failed : (part : List ℕ) → r ≡ status.WriteFault → IsPart part bytes → sink.told' ≡ behind sink.told part → Rose sink.faults sink.faults' → Pushes bytes follows sink r

-- nothing was written for want of memory
pub record NoMemory (sink : Call (Option (List ℕ))) (r : Status) : Type 0 where
  pub is : r ≡ status.OutOfMemory
  pub held : sink.told' ≡ sink.told
  pub still : sink.faults' ≡ sink.faults

-- what a call is to write, and the status that follows
pub data IsMeant (words : Words) (d : Devices) : List ℕ → Status → Type 0 where
  answer : (s : Said) → DueWhereTold words d s → (Simulates words → s.answer ≡ Yes → IsAtEnd d.source.told') → IsMeant words d s.bytes (status_of s.answer)
  fault : (bs : List ℕ) → FaultBytes words d bs → IsMeant words d bs status.ReadFault
  budget : (arena : ArenaView) (bs : List ℕ) → BudgetBytes words d arena bs → IsMeant words d bs (status.Budget arena)

pub data Ending (words : Words) (d : Devices) (r : Status) : Type 0 where
  meant : (bytes : List ℕ) (follows : Status) → IsMeant words d bytes follows → Pushes bytes follows d.sink r → Ending words d r
  no_memory : NoMemory d.sink r → Ending words d r

-- what follows the lines, where so many were good, and the status
abbrev pub tail_of : End → ℕ → List ℕ
tail_of (used_up at_end) count = []
tail_of (used_up full) count = long_trace_text
tail_of (used_up failed) count = read_fault_line (count + 1)
tail_of (bad_line n kind) count = bad_line_text n kind

abbrev pub status_after : End → Status
status_after (used_up at_end) = status.Yes
status_after (used_up full) = status.Refused
status_after (used_up failed) = status.ReadFault
status_after (bad_line n kind) = status.Refused

-- how a simulation ends, where the outputs are those of a trace, whichever it is
pub data Ran (x : Runnable) (source sink : Call (Option (List ℕ))) (r : Status) : Type 0 where
  unstarted : NoMemory sink r → Ran x source sink r
  ran : (taken : Taken) (outputs : List SignalSet) → source.told ≡ ahead taken.bytes source.told' → IsStopped taken.stop (length taken.bytes) source.told' source.faults source.faults'
      → ∥ HasTrace x (input_lines taken (input_names x)).0 outputs ∥₁
      → Pushes (output_lines (output_names x) outputs ++ tail_of (input_lines taken (input_names x)).1 (length (input_lines taken (input_names x)).0)) (status_after (input_lines taken (input_names x)).1) sink r
      → Ran x source sink r

-- how the report of a stage that ends the call early ends
abbrev pub Reports : early.Stop → Call (Option (List ℕ)) → Status → Type 0
Reports (stop.Refused text) sink r = Pushes text.items status.Refused sink r
Reports (stop.No text) sink r = Pushes text.items status.No sink r
Reports (stop.ReadFault text) sink r = Pushes text.items status.ReadFault sink r
Reports (stop.Budget text arena) sink r = Pushes text.items (status.Budget arena) sink r
Reports stop.OutOfMemory sink r = NoMemory sink r
