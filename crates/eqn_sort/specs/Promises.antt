-- What two systems have in common. Source: this project.
use Rattle.std.specs.Prelude.{◌↔◌, ℕ, List}
use Rattle.argos_base.specs.SignalSets.{SignalSet}
use Rattle.eqn_core.specs.Equations.{Equations}
use Rattle.eqn_core.specs.Solutions.{SystemReacts, RunsThrough}

-- at all memories F has exactly the reactions of E
abbrev pub HasReactionsOf : Equations → Equations → Type 0
HasReactionsOf F E = (m : List ℕ) (i o : SignalSet) (n : List ℕ) → (SystemReacts F m i o n) ↔ (SystemReacts E m i o n)

-- from its initial codes F has exactly the runs of E, through the same memories
abbrev pub HasRunsOf : Equations → Equations → Type 0
HasRunsOf F E = (inputs outputs : List SignalSet) (memories : List (List ℕ)) → (RunsThrough F inputs outputs memories) ↔ (RunsThrough E inputs outputs memories)
