use Rattle.argos_core.proofs.FittingMemories.{fitting_is_structural}
use Rattle.argos_core.proofs.StructuralFits.{structural_fits}
use Rattle.argos_core.proofs.laws.memories_fit_layouts.Goals as goal

pub returns : goal.returns
returns c = λ p memory. (fitting_is_structural p memory, structural_fits p memory)
