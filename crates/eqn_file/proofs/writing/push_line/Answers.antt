use Rattle.std.proofs.lemmas.Result.{on_ok_weaker}
use Rattle.eqn_file.proofs.PieceTexts.{all_text, any_text, choose_text}
use Rattle.eqn_file.proofs.writing.push_line.Goals as goal

pub returns-in_ok-extend_from_slice-in-All : goal.returns-in_ok-extend_from_slice-in-All
returns-in_ok-extend_from_slice-in-All c = on_ok_weaker c.push_literals.result (all_text c.args.text.now.items c.extend_from_slice.new.self.items c.push_literals.new.text.items c.args.line.now c.in-All.literals c.deref.result.now c.in-All.is c.deref.ensures (c.in_ok-extend_from_slice-in-All.ensures {u = tt}).items) c.push_literals.ensures

pub returns-in_ok-extend_from_slice-in-Any : goal.returns-in_ok-extend_from_slice-in-Any
returns-in_ok-extend_from_slice-in-Any c = on_ok_weaker c.push_literals-in-Any.result (any_text c.args.text.now.items c.extend_from_slice-in-Any.new.self.items c.push_literals-in-Any.new.text.items c.args.line.now c.in-Any.literals c.deref-in-Any.result.now c.in-Any.is c.deref-in-Any.ensures (c.in_ok-extend_from_slice-in-Any.ensures {u = tt}).items) c.push_literals-in-Any.ensures

pub returns-in_ok-extend_from_slice-in-Choose-2 : goal.returns-in_ok-extend_from_slice-in-Choose-2
returns-in_ok-extend_from_slice-in-Choose-2 c = on_ok_weaker c.push_pick.result (choose_text c.args.text.now.items c.extend_from_slice-in-Choose.new.self.items c.push_cases.new.text.items c.extend_from_slice-in-Choose-2.new.self.items c.push_pick.new.text.items c.args.line.now c.in-Choose.cases c.in-Choose.other c.deref-in-Choose.result.now c.in-Choose.is c.deref-in-Choose.ensures (c.in_ok-extend_from_slice-in-Choose.ensures {u = tt}).items (c.in_ok-push_cases-in-Choose.ensures {u = tt}) (c.in_ok-extend_from_slice-in-Choose-2.ensures {u = tt}).items) c.push_pick.ensures
