use Rattle.eqn_dd.proofs.Denoted.{denoted_diagrams, denoted_layouts}
use Rattle.eqn_dd.proofs.laws.denoted.Goals as goal

pub returns-clause-diagrams : goal.returns-clause-diagrams
returns-clause-diagrams c = denoted_diagrams

pub returns-clause-layouts : goal.returns-clause-layouts
returns-clause-layouts c = denoted_layouts
