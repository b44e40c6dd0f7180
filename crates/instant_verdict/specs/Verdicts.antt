-- What a verdict on one reaction says of a system. Source: this project.
use Rattle.std.specs.Prelude.{List}
use Rattle.argos_base.specs.Machines.{CodedReaction, no_reaction, several, AlwaysReactsOnce, IsFirstBadOf}
use Rattle.argos_core.specs.Layouts.{RegisterShape, FitsLayout}
use Rattle.eqn_core.specs.Equations.{Equations}
use Rattle.eqn_core.specs.Solutions.{SystemReacts}
use Rattle.instant_verdict.specs.declared.reactions.Reaction.{Reaction}
use Rattle.instant_verdict.specs.declared.reactions.Verdict.{Verdict}
use Rattle.instant_verdict.specs.declared.reactions.Verdict.TheVariants.{One, NoReaction, Several}

abbrev pub coded : Reaction → CodedReaction
coded r = record { outputs = r.outputs; next = r.next.items }

-- One: at each memory that fits the layout and to each input there is exactly one reaction. Else the first case in which there isn't,
-- and what there is in it.
abbrev pub IsVerdictOn : Equations → List RegisterShape → Verdict → Type 0
IsVerdictOn E layout One = AlwaysReactsOnce (FitsLayout layout) E.inputs (SystemReacts E)
IsVerdictOn E layout (NoReaction memory input) =
    IsFirstBadOf (FitsLayout layout) E.inputs (SystemReacts E) memory.items input no_reaction
IsVerdictOn E layout (Several memory input first second) =
    IsFirstBadOf (FitsLayout layout) E.inputs (SystemReacts E) memory.items input (several (coded first) (coded second))
