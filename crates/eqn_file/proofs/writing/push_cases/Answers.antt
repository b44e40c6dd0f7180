use Rattle.eqn_file.proofs.PieceTexts.{cases_push}
use Rattle.eqn_file.proofs.writing.push_cases.Goals as goal

pub loop-case-preserved : goal.loop-case-preserved
loop-case-preserved c = cases_push c.args.text.now.items c.loop-case.text.items c.extend_from_slice.new.self.items c.push_literal.new.text.items c.push_pick.new.text.items c.args.cases.now c.loop-case.case-index _ c.loop-case-test.true c.loop-case.invariant (c.in_ok-extend_from_slice.ensures {u = tt}).items (c.in_ok-push_literal.ensures {u = tt}) (c.in_ok-push_pick.ensures {u = tt})
