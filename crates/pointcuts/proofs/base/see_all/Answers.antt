use Rattle.std.proofs.Common.{◌≡◌, []}
use Rattle.std.specs.Prelude.{flat_map}
use Rattle.argos_grammar.specs.Views.{mark_of, marks_of}
use Rattle.line_format.specs.FileNames.{names_of}
use Rattle.pointcuts.specs.Pointcuts.{base_scope, seeing}
use Rattle.pointcuts.specs.inner.Finding.{TellsFirstOrNothing}
use Rattle.pointcuts.proofs.Finding.{nothing_here, first_here, or_nothing, seen_more, error_found}
use Rattle.pointcuts.proofs.base.see_all.Goals as goal

pub returns-in_err-signal-clause-known : goal.returns-in_err-signal-clause-known
returns-in_err-signal-clause-known c =
    let f = seeing (base_scope (names_of c.args.base.now)) in
    let inputs = c.args.inputs.now in
    let all = flat_map f (marks_of inputs) in
    let e = c.in_err-signal.field-0.0 in
    error_found (TellsFirstOrNothing all) (λ _. all ≡ []) c.from_residual.result e c.from_residual.ensures.1
    (or_nothing all e (first_here mark_of f inputs c.loop-input.input-index c.input-item.result e c.loop-input-test.true c.input-item.is c.loop-input.invariant.0 c.in_err-signal.ensures.known))

pub loop-input-preserved : goal.loop-input-preserved
loop-input-preserved c =
    let n = names_of c.args.base.now in
    let f = seeing (base_scope n) in
    let inputs = c.args.inputs.now in
    let i = c.loop-input.input-index in
    let item = c.input-item.result in (
      nothing_here mark_of f inputs i item c.loop-input-test.true c.input-item.is c.loop-input.invariant.0 c.in_ok-signal.ensures.known,
      seen_more n inputs i item c.loop-input.seen.items c.push.new.self.items c.in_ok-signal.signal c.loop-input-test.true c.input-item.is c.in-Ok.ensures.items c.loop-input.invariant.1 c.in_ok-signal.ensures.seen,
    )
