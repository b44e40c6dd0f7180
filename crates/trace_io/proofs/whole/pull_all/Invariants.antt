use Rattle.std.proofs.Common.{◌≡◌, ◌+◌, ◌-◌, ◌≤◌, vec_len}
use Rattle.argos_base.specs.Limits.{text_limit}
use Rattle.argos_base.specs.Outside.{ahead}
use Rattle.trace_io.proofs.whole.pull_all.Given as goal

-- what was taken stood before what is left
abbrev pub invariant-loop-buf : goal.invariant-loop-buf
invariant-loop-buf g l =
    let left = g.S.Source.left in
    let faults = g.S.Source.faults in
    record {
      short : vec_len l.bytes ≤ text_limit + 1;
      taken : left l.initial.source ≡ ahead l.bytes.items (left l.source);
      later : faults l.initial.source ≤ faults l.source;
    }

abbrev pub decreases-loop-buf : goal.decreases-loop-buf
decreases-loop-buf g l = text_limit + 1 - vec_len l.bytes
