use Rattle.std.proofs.Common.{arith}
use Rattle.eqn_core.specs.Views.{literal_of}
use Rattle.argos_base.proofs.Bools.{and_first}
use Rattle.eqn_dd.specs.inner.Tables.{view_of}
use Rattle.eqn_dd.proofs.Denotations.{adds_in_turn}
use Rattle.eqn_dd.proofs.TableWords.{pick_below, ok_case_off, ok_case_on}
use Rattle.eqn_dd.proofs.lines.take_case.Goals as goal

pub returns-then-case-clause-adds : goal.returns-then-case-clause-adds
returns-then-case-clause-adds c = adds_in_turn 48 16 64 (omega arith) c.in_ok-own.ensures.adds c.choose_word.ensures.adds

pub returns-clause-adds : goal.returns-clause-adds
returns-clause-adds c = adds_in_turn 48 16 64 (omega arith) c.in_ok-own.ensures.adds c.choose_word-else-case.ensures.adds

pub returns-then-case-clause-denotes : goal.returns-then-case-clause-denotes
returns-then-case-clause-denotes c =
    ok_case_off (view_of c.args.table.now) (literal_of c.args.case.when) c.requires.table (pick_below _ _ (and_first _ _ c.requires.case)) c.read-test.ensures c.in_ok-own.ensures.adds (rw c.deref.ensures.value c.in_ok-own.ensures.denotes) c.requires.other
    (λ w. w.items) c.choose_word.result c.if-case.true c.choose_word.ensures.adds c.choose_word.ensures.denotes

pub returns-clause-denotes : goal.returns-clause-denotes
returns-clause-denotes c =
    ok_case_on (view_of c.args.table.now) (literal_of c.args.case.when) c.requires.table (pick_below _ _ (and_first _ _ c.requires.case)) c.read-test.ensures c.in_ok-own.ensures.adds (rw c.deref-else-case.ensures.value c.in_ok-own.ensures.denotes) c.requires.other
    (λ w. w.items) c.choose_word-else-case.result c.if-case.false c.choose_word-else-case.ensures.adds c.choose_word-else-case.ensures.denotes
