use Rattle.std.proofs.Common.{◌≡◌, [], drop}
use Rattle.argos_names.proofs.Processes.{names_from}
use Rattle.argos_names.proofs.rules.process.names_of.Given as goal

-- the names so far, and the states that are left
abbrev pub invariant-loop-state : goal.invariant-loop-state
invariant-loop-state l = names_from l.names.keys (drop l.state-index l.states) ≡ names_from [] l.states
