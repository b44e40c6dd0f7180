use Rattle.std.proofs.Common.{◌<◌, nat_lt, length, ap, arith}
use Rattle.std.proofs.lemmas.List.{length-map}
use Rattle.argos_base.proofs.Bools.{and_first, and_second}
use Rattle.eqn_core.proofs.Walks.{All-literals}
use Rattle.eqn_core.specs.Views.{line_of}
use Rattle.eqn_dd.specs.inner.Tables.{view_of}
use Rattle.eqn_dd.proofs.TableWords.{pick_below, place_below, within_drawn, digit_drawn}
use Rattle.eqn_dd.proofs.lines.draw_line.Goals as goal

pub all_of-requires-clause-literals : goal.all_of-requires-clause-literals
all_of-requires-clause-literals c = rw c.deref.ensures (All-literals _ _ (rw c.in-All.is at c.requires.line))

pub any_of-requires-clause-literals : goal.any_of-requires-clause-literals
any_of-requires-clause-literals c = rw c.deref-in-Any.ensures (All-literals _ _ (rw c.in-Any.is at c.requires.line))

pub returns-in_ok-within-in-Within-clause-denotes : goal.returns-in_ok-within-in-Within-clause-denotes
returns-in_ok-within-in-Within-clause-denotes c =
    let fine = rw c.in-Within.is at c.requires.line in
    let below : c.in-Within.word < length c.args.table.now.words.items = pick_below c.in-Within.word (length c.args.table.now.words.items) (and_first (nat_lt c.in-Within.word (length c.args.table.now.words.items)) _ fine) in
    within_drawn c.args.arena.now (view_of c.args.table.now) c.in-Within.word c.in-Within.lo c.in-Within.hi c.read_word.result.now (line_of c.args.line.now) (ap line_of c.in-Within.is)
    (omega (arith, below, length-map c.args.table.now.words.items (λ w. w.items))) c.read_word.ensures c.in_ok-within-in-Within.ensures.denotes

pub returns-in-Digit-clause-denotes : goal.returns-in-Digit-clause-denotes
returns-in-Digit-clause-denotes c =
    let both = rw c.in-Digit.is at c.requires.line in
    let below : c.in-Digit.word < length c.args.table.now.words.items = pick_below c.in-Digit.word (length c.args.table.now.words.items) (and_first (nat_lt c.in-Digit.word (length c.args.table.now.words.items)) _ both) in
    digit_drawn (view_of c.args.table.now) c.in-Digit.word c.in-Digit.place c.read_word-in-Digit.result.now (line_of c.args.line.now) (record { 0 = 0 }) c.requires.table (ap line_of c.in-Digit.is)
    (omega (arith, below, length-map c.args.table.now.words.items (λ w. w.items))) (place_below c.in-Digit.place 15 (and_second (nat_lt c.in-Digit.word (length c.args.table.now.words.items)) _ both)) c.read_word-in-Digit.ensures
