use Rattle.eqn_core.specs.Views.{literal_of}
use Rattle.eqn_dd.specs.inner.Tables.{view_of}
use Rattle.eqn_dd.proofs.TableSteps.{literal_off, literal_on}
use Rattle.eqn_dd.proofs.lines.choose.Goals as goal

pub returns-then-literal-clause-denotes : goal.returns-then-literal-clause-denotes
returns-then-literal-clause-denotes c = literal_off (view_of c.args.table.now) (literal_of c.args.literal) c.args.yes.0 c.args.no.0 c.ite.result c.requires.literal c.read-test.ensures c.if-literal.true c.ite.ensures.made

pub returns-else-literal-clause-denotes : goal.returns-else-literal-clause-denotes
returns-else-literal-clause-denotes c = literal_on (view_of c.args.table.now) (literal_of c.args.literal) c.args.yes.0 c.args.no.0 c.ite-else-literal.result c.requires.literal c.read-test.ensures c.if-literal.false c.ite-else-literal.ensures.made
