-- Laws of the C step of an ordered system. Source: this project.
use Rattle.std.specs.Prelude.{◌≡◌, ℕ, ◌+◌, List, length, IsTrue}
use Rattle.argos_base.specs.SignalSets.{SignalSet}
use Rattle.eqn_core.specs.Equations.{Equations, registers}
use Rattle.eqn_core.specs.Ordered.{IsOrdered, all_below}
use Rattle.eqn_core.specs.Solutions.{SystemReacts, RunsThrough}
use Rattle.line_format.specs.FileNames.{FileNames, HasNames}
use Rattle.c_step.specs.CStep.{CStep, IsCStep}
use Rattle.c_step.specs.CRuns.{CReacts, CRunsThrough}
use Rattle.c_emit.specs.COf.{c_of}

-- at a memory of 16-bit codes the C step reacts exactly as the system
abbrev pub CReactsAsSystem : Type 0
CReactsAsSystem = (E : Equations) (n : FileNames) (m : List ℕ) (i o : SignalSet) (m' : List ℕ) → IsOrdered E → HasNames E n → IsTrue (all_below 65536 m)
    → (SystemReacts E m i o m' → CReacts (c_of E n) m i o m') × (CReacts (c_of E n) m i o m' → SystemReacts E m i o m')

-- the step has exactly the runs of the system, and its registers hold the same memories
abbrev pub HasRunsOf : Equations → CStep → Type 0
HasRunsOf E s = (inputs outputs : List SignalSet) (memories : List (List ℕ)) → (RunsThrough E inputs outputs memories → CRunsThrough s inputs outputs memories) × (CRunsThrough s inputs outputs memories → RunsThrough E inputs outputs memories)

abbrev pub CRunsAsSystem : Type 0
CRunsAsSystem = (E : Equations) (n : FileNames) → IsOrdered E → HasNames E n → HasRunsOf E (c_of E n)

-- one statement for each input, line, output and register
abbrev pub HasStatementsOf : Equations → CStep → Type 0
HasStatementsOf E s = length s.statements ≡ E.inputs + (length E.lines + (length E.outputs + registers E))

abbrev pub CStatementsCounted : Type 0
CStatementsCounted = (E : Equations) (n : FileNames) → IsOrdered E → HasStatementsOf E (c_of E n)

-- and it keeps what a step keeps: it reads nothing too early, and assigns each output
abbrev pub CStepsOfSystems : Type 0
CStepsOfSystems = (E : Equations) (n : FileNames) → IsOrdered E → HasNames E n → IsCStep (c_of E n)
