use Rattle.std.proofs.Common.{◌+◌, ◌-◌, ◌*◌, IsTrue, false, map, length, sym, subst, arith}
use Rattle.std.proofs.lemmas.List.{length-map}
use Rattle.eqn_core.specs.declared.system.Pick.TheVariants.{Code}
use Rattle.eqn_core.specs.Equations as plain
use Rattle.eqn_core.specs.Ordered.{case_below}
use Rattle.eqn_core.specs.Views.{case_of, choice_of}
use Rattle.eqn_dd.specs.inner.Tables.{view_of}
use Rattle.eqn_dd.proofs.Denotations.{adds_in_turn}
use Rattle.eqn_dd.proofs.TableSteps.{item_read}
use Rattle.eqn_dd.proofs.TableWords.{cases_more, case_there}
use Rattle.eqn_dd.proofs.lines.chosen.Goals as goal

pub take_case-requires-clause-case : goal.take_case-requires-clause-case
take_case-requires-clause-case c =
    let k = c.loop-left.left - 1 in
    let below = c.loop-left.invariant.inside in
    let one = item_read case_of c.args.cases.now k (record { when = record { bit = 0; negated = false }; pick = Code 0 }) (omega (arith, below, length-map c.args.cases.now case_of)) in
    subst (λ (d : plain.Case). IsTrue (case_below (length c.args.table.now.bits.items) (length c.args.table.now.words.items) d)) (sym one)
    (case_there (length c.args.table.now.bits.items) (length c.args.table.now.words.items) (map case_of c.args.cases.now) k _ (omega (arith, below)) c.requires.cases)

pub returns-in_err-word-2-clause-adds : goal.returns-in_err-word-2-clause-adds
returns-in_err-word-2-clause-adds c =
    let before = c.loop-left.invariant in
    adds_in_turn _ 64 (64 * (1 + length c.args.cases.now)) (omega (arith, before.inside, length-map c.args.cases.now case_of)) before.adds c.take_case.ensures.adds

pub loop-left-preserved : goal.loop-left-preserved
loop-left-preserved c =
    let k = c.loop-left.left - 1 in
    let below = c.loop-left.invariant.inside in
    let one = item_read case_of c.args.cases.now k (record { when = record { bit = 0; negated = false }; pick = Code 0 }) (omega (arith, below, length-map c.args.cases.now case_of)) in
    cases_more (view_of c.args.table.now) (map case_of c.args.cases.now) (choice_of c.args.other) _ c.requires.table (omega arith) one c.loop-left.invariant c.in_ok-word-2.ensures.adds
    (rw c.deref.ensures.value at c.in_ok-word-2.ensures.denotes)
