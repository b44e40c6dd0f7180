use Rattle.std.proofs.Common.{arith}
use Rattle.std.proofs.lemmas.List.{length-map}
use Rattle.eqn_dd.specs.inner.Tables.{view_of}
use Rattle.eqn_dd.proofs.TableWords.{pick_below, word_held}
use Rattle.eqn_dd.proofs.lines.picked.Goals as goal

pub next_word-requires : goal.next_word-requires
next_word-requires c =
    let below = pick_below _ _ (rw c.in-Next.is at c.requires.pick) in
    word_held (view_of c.args.table.now) c.in-Next.word c.read_word-in-Next.result.now c.requires.table (omega (arith, below, length-map c.args.table.now.words.items (λ w. w.items))) c.read_word-in-Next.ensures
