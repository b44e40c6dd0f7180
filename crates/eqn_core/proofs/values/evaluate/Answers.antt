use Rattle.std.proofs.Common.{◌≡◌, List, [], map, drop, subst, arith}
use Rattle.std.proofs.lemmas.List.{at_drop_all}
use Rattle.eqn_core.specs.Equations as plain
use Rattle.eqn_core.specs.Views.{line_of}
use Rattle.eqn_core.proofs.Evaluation.{Evaluates, Completes-at_end}
use Rattle.eqn_core.proofs.values.evaluate.Goals as goal

pub returns : goal.returns
returns c =
    let l = c.loop-line in
    let lines = map line_of c.args.lines.now in
    let none : map line_of (drop l.line-index c.args.lines.now) ≡ [] = at_drop_all (map line_of) c.args.lines.now l.line-index c.loop-line-test.false in
    let ends : Evaluates lines c.args.bit c.args.word c.args.bits.now c.args.words.now [] l.bit l.word l.bits l.words =
    subst (λ (left : List plain.Line). Evaluates lines c.args.bit c.args.word c.args.bits.now c.args.words.now left l.bit l.word l.bits l.words) none l.invariant
    in Completes-at_end lines c.args.bit c.args.word c.args.bits.now c.args.words.now l.bit l.word l.bits l.words c.requires.order (omega (arith, c.requires.bits)) (omega (arith, c.requires.words)) ends
