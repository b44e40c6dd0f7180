use Rattle.eqn_build.proofs.LiteralLists.{literals_at-set}
use Rattle.eqn_build.proofs.tables.put_literal.Goals as goal

pub returns-clause-each : goal.returns-clause-each
returns-clause-each c = λ q. literals_at-set c.args.lists.now.items c.args.number c.push.new.self c.args.literal c.index_mut.result.now q c.requires.exists (cc (c.index_mut.ensures.value, c.in_ok-push.ensures.ok))
