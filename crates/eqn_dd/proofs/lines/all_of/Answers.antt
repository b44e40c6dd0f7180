use Rattle.std.proofs.Common.{◌-◌, false, map, length, arith}
use Rattle.std.proofs.lemmas.List.{length-map}
use Rattle.eqn_core.specs.Views.{literal_of}
use Rattle.eqn_dd.specs.inner.Tables.{view_of}
use Rattle.eqn_dd.proofs.Denotations.{adds_in_turn, adds_fewer}
use Rattle.eqn_dd.proofs.TableSteps.{item_read, table_later, all_none, all_more, all_whole}
use Rattle.eqn_dd.proofs.lines.all_of.Goals as goal

pub loop-left-init : goal.loop-left-init
loop-left-init c =
    all_none c.args.arena.now (view_of c.args.table.now) (map literal_of c.args.literals.now) _
    c.variables.ensures.arena (omega (arith, length-map c.args.literals.now literal_of))

pub choose-requires-clause-table : goal.choose-requires-clause-table
choose-requires-clause-table c = table_later c.loop-left.invariant.adds.keeps c.requires.table

pub choose-requires-clause-literal : goal.choose-requires-clause-literal
choose-requires-clause-literal c =
    c.requires.literals (c.loop-left.left - 1) (record { bit = 0; negated = false })
    (omega (arith, c.loop-left.invariant.inside, length-map c.args.literals.now literal_of))

pub returns-in_err-met-clause-adds : goal.returns-in_err-met-clause-adds
returns-in_err-met-clause-adds c =
    let before = c.loop-left.invariant in
    adds_in_turn (length (map literal_of c.args.literals.now) - c.loop-left.left) 1 (length c.args.literals.now)
    (omega (arith, before.inside, length-map c.args.literals.now literal_of)) before.adds c.choose.ensures.adds

pub loop-left-preserved : goal.loop-left-preserved
loop-left-preserved c =
    let k = c.loop-left.left - 1 in
    let before = c.loop-left.invariant in
    let at = item_read literal_of c.args.literals.now k (record { bit = 0; negated = false })
    (omega (arith, before.inside, length-map c.args.literals.now literal_of)) in
    all_more (map literal_of c.args.literals.now) _ c.requires.table (omega arith) at before
    c.in_ok-met.ensures.adds c.in_ok-met.ensures.denotes

pub returns-clause-adds : goal.returns-clause-adds
returns-clause-adds c =
    adds_fewer _ (length c.args.literals.now) (omega (arith, length-map c.args.literals.now literal_of))
    c.loop-left.invariant.adds

pub returns-clause-denotes : goal.returns-clause-denotes
returns-clause-denotes c = all_whole (omega arith) c.loop-left.invariant
