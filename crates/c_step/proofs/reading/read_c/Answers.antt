use Rattle.std.proofs.Common.{ℕ, sym, subst, arith}
use Rattle.std.proofs.lemmas.Result.{err_from_is_err_and}
use Rattle.c_step.specs.CFile.{IsCText}
use Rattle.c_step.specs.CStep.{CStep}
use Rattle.c_step.specs.inner.Drafts.{stage_of}
use Rattle.c_step.proofs.ReadSteps.{StandsAt, empty_if, goes_on, no_line, refused, is_text}
use Rattle.c_step.proofs.reading.read_c.Goals as goal

pub returns-in_err-line-clause-fault : goal.returns-in_err-line-clause-fault
returns-in_err-line-clause-fault c =
    let out = err_from_is_err_and c.from_residual.result c.from_residual.ensures.1 in
    let missed = c.in_err-line.ensures {u = tt} in
    rw (out.1, out.2) (no_line c.args.bytes.now c.lines.reader.number (stage_of c.lines.draft) c.lines.reader.rest.now c.in_err-line.field-0.0 c.lines.invariant.at missed.missing (sym (c.lines-test.ensures {u = tt})) missed.kind)

pub lines-preserved : goal.lines-preserved
lines-preserved c =
    let cut = c.in_ok-line.ensures {u = tt} in
    let moved = c.in_ok-take.ensures {u = tt} in
    record {
      at = subst (λ (n : ℕ). StandsAt c.args.bytes.now n (stage_of c.take.new.self) c.due_line.new.reader.rest.now) (sym cut.number) (goes_on c.args.bytes.now c.lines.reader.number c.lines.draft c.take.new.self c.lines.reader.rest.now c.in_ok-line.line.rest.now c.due_line.new.reader.rest.now c.lines.invariant.at cut.line moved);
      sound = moved.sound;
      count = omega (arith, c.lines.invariant.count, cut.number, cut.shorter);
    }

pub returns-in_err-take-clause-fault : goal.returns-in_err-take-clause-fault
returns-in_err-take-clause-fault c =
    let out = err_from_is_err_and c.from_residual-in_err-take.result c.from_residual-in_err-take.ensures.1 in
    let cut = c.in_ok-line.ensures {u = tt} in
    rw (out.1, out.2) (refused c.args.bytes.now c.lines.reader.number c.in_ok-line.line.at c.lines.draft c.take.new.self c.lines.reader.rest.now c.in_ok-line.line.rest.now c.due_line.new.reader.rest.now c.in_err-take.field-0.0 c.lines.invariant.at cut.line (sym (c.lines-test.ensures {u = tt})) cut.at
    (c.in_err-take.ensures {u = tt}))

pub into_step-requires : goal.into_step-requires
into_step-requires c = (is_text c.args.bytes.now c.lines.reader.number (stage_of c.lines.draft) c.lines.reader.rest.now c.lines.invariant.at (sym (c.lines-test.ensures {u = tt})) (empty_if c.lines.reader.rest.now (c.if-is_empty.ensures {u = tt}))).step

pub returns-then-is_empty-clause-text : goal.returns-then-is_empty-clause-text
returns-then-is_empty-clause-text c =
    subst (λ (s : CStep). IsCText c.args.bytes.now s) (sym c.into_step.ensures) (is_text c.args.bytes.now c.lines.reader.number (stage_of c.lines.draft) c.lines.reader.rest.now c.lines.invariant.at (sym (c.lines-test.ensures {u = tt})) (empty_if c.lines.reader.rest.now (c.if-is_empty.ensures {u = tt})))
