use Rattle.std.proofs.Common.{map}
use Rattle.eqn_dd.specs.inner.Fitting.{codes_at}
use Rattle.eqn_dd.proofs.StructureSteps.{word_there, parent_read, parent_missing, parent_none}
use Rattle.eqn_dd.proofs.structure.parent_is_on.Goals as goal

pub within-requires : goal.within-requires
within-requires c =
    let at = c.in-Some-get.ensures.lookup.3 in
    word_there _ c.args.arena.now c.args.words.now c.in-Some.register.0 c.in-Some-get.word.now c.deref.result.now at.0 at.1 c.deref.ensures.value c.requires

pub returns-in-Some-get-clause-denotes : goal.returns-in-Some-get-clause-denotes
returns-in-Some-get-clause-denotes c =
    let at = c.in-Some-get.ensures.lookup.3 in
    parent_read _ c.args.words.now c.within.result c.in-Some.is at.0 at.1 c.deref.ensures.value c.within.ensures.adds c.within.ensures.denotes

pub returns-in-None-get-clause-denotes : goal.returns-in-None-get-clause-denotes
returns-in-None-get-clause-denotes c = parent_missing _ c.args.words.now c.variables.ensures.arena c.in-Some.is c.in-None-get.ensures.lookup.3

pub returns-in-None-clause-denotes : goal.returns-in-None-clause-denotes
returns-in-None-clause-denotes c = parent_none (λ x. codes_at c.args.arena.now (map (λ w. w.items) c.args.words.now) x) c.variables.ensures.arena c.in-None.is
