use Rattle.c_step.proofs.WrittenPieces.{within_pieces}
use Rattle.c_step.proofs.writing.push_within.Goals as goal

pub returns : goal.returns
returns c =
    within_pieces c.args.word c.args.lo c.args.hi c.args.text.now.items c.push_number.new.text.items c.extend_from_slice.new.self.items c.push_word.new.text.items c.extend_from_slice-2.new.self.items c.push_word-2.new.text.items c.extend_from_slice-3.new.self.items c.push_number-2.new.text.items
    c.extend_from_slice-4.new.self.items (c.in_ok-push_number.ensures {u = tt}) (c.in_ok-extend_from_slice.ensures {u = tt}).items (c.in_ok-push_word.ensures {u = tt}) (c.in_ok-extend_from_slice-2.ensures {u = tt}).items (c.in_ok-push_word-2.ensures {u = tt})
    (c.in_ok-extend_from_slice-3.ensures {u = tt}).items (c.in_ok-push_number-2.ensures {u = tt}) (c.in_ok-extend_from_slice-4.ensures {u = tt}).items
