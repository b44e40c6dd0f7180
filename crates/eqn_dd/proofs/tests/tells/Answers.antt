use Rattle.std.proofs.Common.{refl, arith}
use Rattle.eqn_dd.proofs.Samples.{word_from}
use Rattle.eqn_dd.proofs.tests.tells.Goals as goal

pub word_is-requires-clause-word : goal.word_is-requires-clause-word
word_is-requires-clause-word g c =
    word_from (λ w. w.items) c.args.arena.now c.args.diagrams.now.words.items c.args.diagrams.now.words.items
    c.loop-k.k c.index.result.now c.deref-in-loop-k.result.now refl
    (omega (arith, c.loop-k-test.true, c.args.diagrams.now.words.ok.0)) c.index.ensures
    c.deref-in-loop-k.ensures.value c.requires.words
