use Rattle.argos_core.specs.ModuleViews.{module_of}
use Rattle.bisim_formula.proofs.Lending.{all_lent}
use Rattle.bisim_formula.proofs.resolving.registers_of.Goals as goal

pub returns : goal.returns
returns c = all_lent (module_of c.args.«module».now) c.automata_of.result c.args.«module».now.kept c.automata_of.ensures
