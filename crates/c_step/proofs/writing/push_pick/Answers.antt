use Rattle.std.proofs.Common.{◌++◌, ap, sym, ◌∙◌}
use Rattle.eqn_core.specs.Views.{choice_of}
use Rattle.c_step.specs.CFile.{choice_text}
use Rattle.c_step.proofs.WrittenPieces.{next_pieces}
use Rattle.c_step.proofs.writing.push_pick.Goals as goal

pub returns-in_ok-extend_from_slice-in-Next-2 : goal.returns-in_ok-extend_from_slice-in-Next-2
returns-in_ok-extend_from_slice-in-Next-2 c =
    next_pieces c.in-Next.word c.args.text.now.items c.push_word-in-Next.new.text.items c.extend_from_slice-in-Next.new.self.items c.push_word-in-Next-2.new.text.items c.extend_from_slice-in-Next-2.new.self.items (c.in_ok-push_word-in-Next.ensures {u = tt})
    (c.in_ok-extend_from_slice-in-Next.ensures {u = tt}).items (c.in_ok-push_word-in-Next-2.ensures {u = tt}) (c.in_ok-extend_from_slice-in-Next-2.ensures {u = tt}).items
    ∙ ap (λ p. c.args.text.now.items ++ choice_text (choice_of p)) (sym c.in-Next.is)
