use Rattle.eqn_completion.proofs.Acyclic.{acyclic_react_once}
use Rattle.eqn_completion.proofs.Sorting.{sorted_are_ordered, sorted_react, sorted_are_small}
use Rattle.eqn_completion.proofs.laws.sorting.Goals as goal

pub returns-clause-once : goal.returns-clause-once
returns-clause-once c = acyclic_react_once

pub returns-clause-ordered : goal.returns-clause-ordered
returns-clause-ordered c = sorted_are_ordered

pub returns-clause-reacts : goal.returns-clause-reacts
returns-clause-reacts c = sorted_react

pub returns-clause-small : goal.returns-clause-small
returns-clause-small c = sorted_are_small
