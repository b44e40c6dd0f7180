-- How a simulation goes through its lines.
use Rattle.std.specs.Prelude.{◌≡◌, ℕ, ◌+◌, List, ◌++◌, Option, Some, None, Result, Ok, Err, length}
use Rattle.argos_base.specs.Names.{Spelled}
use Rattle.argos_base.specs.Outside.{behind, Rose}
use Rattle.argos_base.specs.Runs.{Follows}
use Rattle.argos_base.specs.SignalSets.{SignalSet}
use Rattle.trace_io.specs.Lines.{End, at_end, used_up}
use Rattle.line_format.specs.FileNames.{FileNames}
use Rattle.trace_io.specs.Whole.{Reading, lines_left, end_of, IsNumbered}
use Rattle.trace_io.specs.declared.errors.TraceError.{TraceError}
use Rattle.trace_io.specs.declared.writer.WriteFault.{WriteFault}
use Rattle.argos_load.specs.Calls.{Call}
use Rattle.argos_top.specs.Clauses.{IsPart}
use Rattle.argos_load.specs.Runnables.{Runnable, input_names, output_names, HasTrace}
use Rattle.argos_top.specs.Simulation.{output_lines}

-- so the lines end, where no error or this one was answered, and so many were good
abbrev pub EndsAs : End → ℕ → Option TraceError → Type 0
EndsAs end count None = end ≡ used_up at_end
EndsAs end count (Some e) = (end ≡ end_of e) × IsNumbered e (count + 1)

-- what reacts from x on goes through these inputs with these outputs
abbrev pub Passes : {S : Type 0} → (S → SignalSet → SignalSet → S → Type 0) → S → List SignalSet → List SignalSet → Type 0
Passes {S} reacts x inputs outputs = (states : List S) × Follows reacts x inputs outputs states

-- the first of the lines were gone through, and a part of their outputs was appended before the sink failed
pub record Halts {S : Type 0} (reacts : S → SignalSet → SignalSet → S → Type 0) (start : S) (names : List Spelled) (lines : List SignalSet) (sink : Call (Option (List ℕ))) : Type 0 where
  pub done : List SignalSet
  pub rest : List SignalSet
  pub split : lines ≡ done ++ rest
  pub outputs : List SignalSet
  pub passes : Passes reacts start done outputs
  pub part : List ℕ
  pub is_part : IsPart part (output_lines names outputs)
  pub appended : sink.told' ≡ behind sink.told part
  pub rose : Rose sink.faults sink.faults'

-- all lines were gone through, and their outputs were appended
pub record Finishes {S : Type 0} (reacts : S → SignalSet → SignalSet → S → Type 0) (start : S) (names : List Spelled) (lines : List SignalSet × End) (sink : Call (Option (List ℕ))) (error : Option TraceError) : Type 0 where
  pub outputs : List SignalSet
  pub passes : Passes reacts start lines.0 outputs
  pub appended : sink.told' ≡ behind sink.told (output_lines names outputs)
  pub still : sink.faults' ≡ sink.faults
  pub ends : EndsAs lines.1 (length lines.0) error

abbrev pub GoesThrough : {S : Type 0} → (S → SignalSet → SignalSet → S → Type 0) → S → List Spelled → List SignalSet × End → Call (Option (List ℕ)) → Result (Option TraceError) WriteFault → Type 0
GoesThrough reacts start names lines sink (Ok error) = Finishes reacts start names lines sink error
GoesThrough reacts start names lines sink (Err fault) = Halts reacts start names lines.0 sink

-- what reacts so from the start runs x under its names: what it passes through is a trace, and a trace of the first lines goes on to all of them
pub record IsRunOf {S : Type 0} (reacts : S → SignalSet → SignalSet → S → Type 0) (start : S) (n : FileNames) (x : Runnable) : Type 0 where
  pub inputs : input_names x ≡ n.inputs
  pub outputs : output_names x ≡ n.outputs
  pub passes : (is os : List SignalSet) → Passes reacts start is os → HasTrace x is os
  pub goes_on : (trace : Reading) (done rest os : List SignalSet) → (lines_left n.inputs trace).0 ≡ done ++ rest → HasTrace x done os → (more : List SignalSet) × HasTrace x (done ++ rest) (os ++ more)
