use Rattle.std.proofs.Common.{◌≡◌, ◌+◌, drop}
use Rattle.argos_grammar.specs.Views.{states_of}
use Rattle.argos_expansion.specs.Expansion.{codes_in}
use Rattle.argos_expansion.proofs.rules.codes_in.Given as goal

-- the codes so far, and those of the states that are left
abbrev pub invariant-loop-state : goal.invariant-loop-state
invariant-loop-state l = l.codes + codes_in (states_of (drop l.state-index l.states)) ≡ codes_in (states_of l.states)
