use Rattle.std.proofs.Common.{◌≡◌, ◌-◌, ◌≤◌, length, take}
use Rattle.argos_base.specs.Outside.{behind}
use Rattle.trace_io.proofs.push.push_all.Given as goal

-- the front of the piece was appended
abbrev pub invariant-loop-at : goal.invariant-loop-at
invariant-loop-at g l =
    let held = g.W.Sink.held in
    let faults = g.W.Sink.faults in
    record {
      within : l.at ≤ length l.piece;
      appended : held l.sink ≡ behind (held l.initial.sink) (take l.at l.piece);
      still : faults l.sink ≡ faults l.initial.sink;
    }

abbrev pub decreases-loop-at : goal.decreases-loop-at
decreases-loop-at g l = length l.piece - l.at
