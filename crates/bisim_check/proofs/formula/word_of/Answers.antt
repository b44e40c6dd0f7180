use Rattle.bisim_check.proofs.Atoms.{word_present, word_absent}
use Rattle.bisim_check.proofs.formula.word_of.Goals as goal

pub returns-in-Some : goal.returns-in-Some
returns-in-Some c =
    let at = c.in-Some.ensures.lookup.3 in
    word_present c.args.words.now c.args.register.0 c.in-Some.word.now c.deref.result.now at.0 at.1 c.deref.ensures.value

pub returns-in-None : goal.returns-in-None
returns-in-None c = word_absent c.args.words.now c.args.register.0 c.in-None.ensures.lookup.3
