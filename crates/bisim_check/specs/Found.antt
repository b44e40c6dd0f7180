-- What a check for equivalence finds, as the answer that it is. Source: this project.
use Rattle.std.specs.Prelude.{◌≤◌}
use Rattle.argos_core.specs.Process.{PlainModule}
use Rattle.bisim_check.specs.Jobs.{job_variables}
use Rattle.bisim_check.specs.declared.found.EquivFound.{EquivFound}
use Rattle.bisim_check.specs.declared.found.EquivFound.TheVariants as found
use Rattle.bisim_verdict.specs.Bisimulation.{EquivAnswer, accept, interfaces, start, outputs, leaves}

abbrev pub answer_of : EquivFound → EquivAnswer
answer_of found.Accept = accept
answer_of (found.Interfaces name) = interfaces name
answer_of found.Start = start
answer_of (found.Outputs left right input name) = outputs left.items right.items input name
answer_of (found.Leaves left right input) = leaves left.items right.items input

-- what is answered before any job needs no variables
abbrev pub FitsJob : PlainModule → PlainModule → EquivAnswer → Type 0
FitsJob P Q (interfaces name) = Unit {0}
FitsJob P Q start = Unit {0}
FitsJob P Q (outputs m n i name) = job_variables P Q ≤ 1024
FitsJob P Q (leaves m n i) = job_variables P Q ≤ 1024
FitsJob P Q accept = job_variables P Q ≤ 1024
