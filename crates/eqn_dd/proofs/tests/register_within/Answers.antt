use Rattle.eqn_dd.proofs.Samples.{word_from, first_inside}
use Rattle.eqn_dd.proofs.tests.register_within.Goals as goal

pub within-requires : goal.within-requires
within-requires c =
    let lookup = c.in-Some.ensures.lookup in
    word_from (λ w. w.items) c.in_ok-arena.arena c.in_ok-arena.diagrams.words.items c.deref.result.now 0
    c.in-Some.word.now c.deref-in-Some.result.now c.deref.ensures.value
    (first_inside _ lookup.0) lookup.1 c.deref-in-Some.ensures.value c.in_ok-arena.ensures.words
