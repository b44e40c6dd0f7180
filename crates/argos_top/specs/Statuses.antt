-- What a status says. Source: this project.
use Rattle.std.specs.Prelude.{ℕ, Option, Some, None}
use Rattle.argos_load.specs.Said as said
use Rattle.argos_load.specs.Said.{Answer}
use Rattle.argos_top.specs.declared.status.Status.{Status}
use Rattle.argos_top.specs.declared.status.Status.TheVariants.{Yes, No, Usage, Refused, ReadFault, WriteFault, Budget, OutOfMemory}

-- the number that the process ends with
abbrev pub number_of : Status → ℕ
number_of Yes = 0
number_of No = 1
number_of Usage = 2
number_of Refused = 3
number_of ReadFault = 4
number_of WriteFault = 5
number_of (Budget arena) = 6
number_of OutOfMemory = 7

-- the answer that a status gives, where it is neither a fault nor want of nodes or memory
abbrev pub answer_of : Status → Option Answer
answer_of Yes = Some said.Yes
answer_of No = Some said.No
answer_of Usage = Some said.Usage
answer_of Refused = Some said.Refused
answer_of ReadFault = None
answer_of WriteFault = None
answer_of (Budget arena) = None
answer_of OutOfMemory = None
