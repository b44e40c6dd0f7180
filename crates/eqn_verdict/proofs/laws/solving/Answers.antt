use Rattle.eqn_verdict.proofs.NodeCount.{listed_are_nodes}
use Rattle.eqn_verdict.proofs.ArenaNodes.{arenas_give_diagrams}
use Rattle.eqn_verdict.proofs.Solving.{least_is_chosen, solved_are_ordered, solved_react, solved_are_small}
use Rattle.eqn_verdict.proofs.laws.solving.Goals as goal

pub returns-clause-least : goal.returns-clause-least
returns-clause-least c = least_is_chosen

pub returns-clause-ordered : goal.returns-clause-ordered
returns-clause-ordered c = solved_are_ordered

pub returns-clause-reacts : goal.returns-clause-reacts
returns-clause-reacts c = solved_react

pub returns-clause-small : goal.returns-clause-small
returns-clause-small c = solved_are_small

pub returns-clause-arenas : goal.returns-clause-arenas
returns-clause-arenas c = arenas_give_diagrams

pub returns-clause-nodes : goal.returns-clause-nodes
returns-clause-nodes c = listed_are_nodes
