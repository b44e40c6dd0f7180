use Rattle.std.proofs.Common.{sym}
use Rattle.trace_io.proofs.WordSets.{joins}
use Rattle.trace_io.proofs.words.add_word.Goals as goal

pub returns-in-Some : goal.returns-in-Some
returns-in-Some c seen is = joins c.args.names.now seen c.args.word.now c.args.set.now c.set.new.self c.in-Some.signal.0 c.requires.table.distinct (sym c.in-Some.ensures) is c.set.ensures
