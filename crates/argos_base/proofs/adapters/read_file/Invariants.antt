use Rattle.std.proofs.Common.{◌-◌, ◌≤◌, vec_len}
use Rattle.argos_base.proofs.adapters.read_file.Given as goal

-- at most one byte more than a file may have was taken
abbrev pub invariant-loop-buf : goal.invariant-loop-buf
invariant-loop-buf g l = vec_len l.bytes ≤ 1048577

abbrev pub decreases-loop-buf : goal.decreases-loop-buf
decreases-loop-buf g l = 1048577 - vec_len l.bytes
