use Rattle.std.proofs.Common.{◌+◌, ◌≤◌, length}
use Rattle.c_step.specs.inner.Drafts.{stage_of, IsSound}
use Rattle.c_step.proofs.ReadSteps.{StandsAt}
use Rattle.c_step.proofs.reading.read_c.Given as goal

abbrev pub invariant-lines : goal.invariant-lines
invariant-lines l = record { at : StandsAt l.bytes l.reader.number (stage_of l.draft) l.reader.rest.now; sound : IsSound l.draft; count : l.reader.number + length l.reader.rest.now ≤ length l.bytes + 1 }

abbrev pub decreases-lines : goal.decreases-lines
decreases-lines l = length l.reader.rest.now
