use Rattle.c_step.proofs.WrittenPieces.{sizes_pieces}
use Rattle.c_step.proofs.writing.push_sizes.Goals as goal

pub returns : goal.returns
returns c =
    sizes_pieces c.args.words c.args.bits c.args.text.now.items c.extend_from_slice.new.self.items c.push_number.new.text.items c.extend_from_slice-2.new.self.items c.push_number-2.new.text.items c.extend_from_slice-3.new.self.items (c.in_ok-extend_from_slice.ensures {u = tt}).items
    (c.in_ok-push_number.ensures {u = tt}) (c.in_ok-extend_from_slice-2.ensures {u = tt}).items (c.in_ok-push_number-2.ensures {u = tt}) (c.in_ok-extend_from_slice-3.ensures {u = tt}).items
