use Rattle.std.proofs.Common.{refl}
use Rattle.std.specs.Prelude.{codes}
use Rattle.std.proofs.lemmas.Result.{err_from_is_err_and}
use Rattle.eqn_file.specs.EquationFile.{head, stage, no_system, no_names, head_due}
use Rattle.eqn_file.specs.inner.Sections.{Stops}
use Rattle.eqn_file.proofs.PartSteps.{IsNextLine}
use Rattle.eqn_file.proofs.ReadSteps.{line_absent, fixed_ok, fixed_err, head_fixed}
use Rattle.eqn_file.proofs.reading.head.Goals as goal

pub returns-in_err-due_line-clause-err : goal.returns-in_err-due_line-clause-err
returns-in_err-due_line-clause-err c =
    let e = c.in_err-due_line.ensures {u = tt} in
    let m : Stops (stage head_due no_system no_names) c.args.reader.now c.in_err-due_line.field-0.0 = line_absent (stage head_due no_system no_names) c.args.reader.now c.in_err-due_line.field-0.0 e.missing e.kind refl in
    let out = err_from_is_err_and c.from_residual.result c.from_residual.ensures.1 in
    rw (out.1, out.2) m

pub returns-clause-ok : goal.returns-clause-ok
returns-clause-ok c =
    let e = c.in_ok-due_line.ensures {u = tt} in
    let next : IsNextLine c.args.reader.now c.due_line.new.reader c.in_ok-due_line.field-0.at c.in_ok-due_line.field-0.bytes.now = record { cut = e.line; line = e.at; number = e.number } in
    fixed_ok (stage head_due no_system no_names) head (codes "argos-eq 1") head_fixed c.args.reader.now c.due_line.new.reader c.in_ok-due_line.field-0.at c.in_ok-due_line.field-0.bytes.now c.fixed_line.result next c.fixed_line.ensures.text

pub returns-clause-err : goal.returns-clause-err
returns-clause-err c =
    let e = c.in_ok-due_line.ensures {u = tt} in
    let next : IsNextLine c.args.reader.now c.due_line.new.reader c.in_ok-due_line.field-0.at c.in_ok-due_line.field-0.bytes.now = record { cut = e.line; line = e.at; number = e.number } in
    fixed_err (stage head_due no_system no_names) head (codes "argos-eq 1") head_fixed c.args.reader.now c.due_line.new.reader c.in_ok-due_line.field-0.at c.in_ok-due_line.field-0.bytes.now c.fixed_line.result next c.fixed_line.ensures.text c.fixed_line.ensures.kind
