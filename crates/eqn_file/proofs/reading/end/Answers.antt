use Rattle.std.proofs.Common.{refl}
use Rattle.std.specs.Prelude.{codes}
use Rattle.std.proofs.lemmas.Result.{err_from_is_err_and}
use Rattle.eqn_core.specs.Equations.{Equations}
use Rattle.line_format.specs.FileNames.{FileNames}
use Rattle.eqn_file.specs.EquationFile.{the_end, stage, end_due}
use Rattle.eqn_file.specs.inner.Sections.{Stops}
use Rattle.eqn_file.specs.inner.Stages.{at_end}
use Rattle.eqn_file.proofs.PartSteps.{IsNextLine}
use Rattle.eqn_file.proofs.ReadSteps.{line_absent, fixed_goes, fixed_stops, end_fixed, rest_stops, some_left}
use Rattle.eqn_file.proofs.reading.end.Goals as goal

pub returns-in_err-due_line-clause-err : goal.returns-in_err-due_line-clause-err
returns-in_err-due_line-clause-err c =
    let e = c.in_err-due_line.ensures {u = tt} in
    let m : (E : Equations) (n : FileNames) → Stops (stage end_due E n) c.args.reader.now c.in_err-due_line.field-0.0 = λ E n. line_absent (stage end_due E n) c.args.reader.now c.in_err-due_line.field-0.0 e.missing e.kind refl in
    let out = err_from_is_err_and c.from_residual.result c.from_residual.ensures.1 in
    rw (out.1, out.2) m

pub returns-in_err-fixed_line-clause-err : goal.returns-in_err-fixed_line-clause-err
returns-in_err-fixed_line-clause-err c =
    let e = c.in_ok-due_line.ensures {u = tt} in
    let next : IsNextLine c.args.reader.now c.due_line.new.reader c.in_ok-due_line.field-0.at c.in_ok-due_line.field-0.bytes.now = record { cut = e.line; line = e.at; number = e.number } in
    let f = c.in_err-fixed_line.ensures {u = tt} in
    let m : (E : Equations) (n : FileNames) → Stops (stage end_due E n) c.args.reader.now c.in_err-fixed_line.field-0.0 =
    λ E n. fixed_stops (stage end_due E n) the_end (codes "end") (end_fixed E n) c.args.reader.now c.due_line.new.reader c.in_ok-due_line.field-0.at c.in_ok-due_line.field-0.bytes.now c.in_err-fixed_line.field-0.0 next f.text f.kind in
    let out = err_from_is_err_and c.from_residual-in_err-fixed_line.result c.from_residual-in_err-fixed_line.ensures.1 in
    rw (out.1, out.2) m

pub returns-then-is_empty-clause-ok : goal.returns-then-is_empty-clause-ok
returns-then-is_empty-clause-ok c =
    let e = c.in_ok-due_line.ensures {u = tt} in
    let next : IsNextLine c.args.reader.now c.due_line.new.reader c.in_ok-due_line.field-0.at c.in_ok-due_line.field-0.bytes.now = record { cut = e.line; line = e.at; number = e.number } in
    λ E n. fixed_goes (stage end_due E n) the_end (codes "end") (end_fixed E n) c.args.reader.now c.due_line.new.reader c.in_ok-due_line.field-0.at c.in_ok-due_line.field-0.bytes.now next (c.in_ok-fixed_line.ensures {u = tt}).text

pub returns-else-is_empty-clause-err : goal.returns-else-is_empty-clause-err
returns-else-is_empty-clause-err c =
    let e = c.in_ok-due_line.ensures {u = tt} in
    let next : IsNextLine c.args.reader.now c.due_line.new.reader c.in_ok-due_line.field-0.at c.in_ok-due_line.field-0.bytes.now = record { cut = e.line; line = e.at; number = e.number } in
    λ E n. rest_stops (stage end_due E n) (at_end E n) c.args.reader.now c.due_line.new.reader _
    (fixed_goes (stage end_due E n) the_end (codes "end") (end_fixed E n) c.args.reader.now c.due_line.new.reader c.in_ok-due_line.field-0.at c.in_ok-due_line.field-0.bytes.now next (c.in_ok-fixed_line.ensures {u = tt}).text) refl
    (some_left c.due_line.new.reader.rest.now c.is_empty.result c.is_empty.ensures c.if-is_empty.false) refl
