use Rattle.eqn_dd.proofs.TableWords.{word_at}
use Rattle.eqn_dd.proofs.lines.read_word.Goals as goal

pub returns : goal.returns
returns c = word_at (λ w. w.items) c.args.table.now.words.items c.args.word c.index.result.now c.deref.result.now c.requires c.index.ensures c.deref.ensures.value
