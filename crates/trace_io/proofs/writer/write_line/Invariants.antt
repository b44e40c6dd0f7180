use Rattle.std.proofs.Common.{◌≡◌, ◌*◌, ◌≤◌, vec_len, vec_capacity}
use Rattle.std.specs.List.{join_with_byte}
use Rattle.trace_io.proofs.JoinedWords.{has_some, present_before}
use Rattle.trace_io.proofs.writer.write_line.Given as goal

-- the names so far that are present
abbrev pub invariant-loop-k : goal.invariant-loop-k
invariant-loop-k l = record {
  joined : l.line.items ≡ join_with_byte 32 (present_before l.k l.set l.names);
  some_joined : l.some ≡ has_some (present_before l.k l.set l.names);
  short : vec_len l.line ≤ 65 * l.k;
  room : vec_capacity l.fn.line ≤ vec_capacity l.line;
}
