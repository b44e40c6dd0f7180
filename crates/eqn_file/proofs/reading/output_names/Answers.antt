use Rattle.std.proofs.Common.{ℕ, refl}
use Rattle.std.proofs.lemmas.Result.{err_from_is_err_and, IfOk-weaker, IfErr-weaker}
use Rattle.std.specs.Prelude.{codes}
use Rattle.eqn_file.specs.EquationFile.{output_count, output_name}
use Rattle.eqn_file.specs.inner.WordReading.{one_name}
use Rattle.eqn_file.specs.inner.Sections.{Stops, stood_before}
use Rattle.eqn_file.specs.inner.Stages.{at_inputs, at_outputs}
use Rattle.eqn_file.proofs.PartSteps.{IsNextLine}
use Rattle.eqn_file.proofs.ReadSteps.{line_absent, count_goes, count_stops, part_moves, part_fails, outputs_head, outputs_part}
use Rattle.eqn_file.proofs.reading.output_names.Goals as goal

pub returns-in_err-due_line-clause-err : goal.returns-in_err-due_line-clause-err
returns-in_err-due_line-clause-err c =
    let e = c.in_err-due_line.ensures {u = tt} in
    let m : (I : ℕ) → Stops (at_inputs I 0 c.args.inputs.now) c.args.reader.now c.in_err-due_line.field-0.0 = λ I. line_absent (at_inputs I 0 c.args.inputs.now) c.args.reader.now c.in_err-due_line.field-0.0 e.missing e.kind refl in
    let out = err_from_is_err_and c.from_residual.result c.from_residual.ensures.1 in
    rw (out.1, out.2) m

pub returns-in_err-count-clause-err : goal.returns-in_err-count-clause-err
returns-in_err-count-clause-err c =
    let e = c.in_ok-due_line.ensures {u = tt} in
    let next : IsNextLine c.args.reader.now c.due_line.new.reader c.in_ok-due_line.field-0.at c.in_ok-due_line.field-0.bytes.now = record { cut = e.line; line = e.at; number = e.number } in
    let m : (I : ℕ) → Stops (at_inputs I 0 c.args.inputs.now) c.args.reader.now c.in_err-count.field-0.0 =
    λ I. count_stops (at_inputs I 0 c.args.inputs.now) output_count (codes "outputs") 0 16385 (outputs_head I c.args.inputs.now) c.args.reader.now c.due_line.new.reader c.in_ok-due_line.field-0.at c.in_ok-due_line.field-0.bytes.now c.in_err-count.field-0.0 next (c.in_err-count.ensures {u = tt}).gives in
    let out = err_from_is_err_and c.from_residual-in_err-count.result c.from_residual-in_err-count.ensures.1 in
    rw (out.1, out.2) m

pub returns-clause-ok : goal.returns-clause-ok
returns-clause-ok c =
    let e = c.in_ok-due_line.ensures {u = tt} in
    let next : IsNextLine c.args.reader.now c.due_line.new.reader c.in_ok-due_line.field-0.at c.in_ok-due_line.field-0.bytes.now = record { cut = e.line; line = e.at; number = e.number } in
    IfOk-weaker c.names.result _ _ (λ v go. λ I. part_moves output_name one_name (stood_before c.args.inputs.now) (at_outputs I c.args.inputs.now) (at_inputs I 0 c.args.inputs.now) c.args.reader.now c.due_line.new.reader c.names.new.reader c.in_ok-count.count v (outputs_part I c.args.inputs.now) (count_goes (at_inputs I 0 c.args.inputs.now) output_count (codes "outputs") 0 16385 (outputs_head I c.args.inputs.now) c.args.reader.now c.due_line.new.reader c.in_ok-due_line.field-0.at c.in_ok-due_line.field-0.bytes.now c.in_ok-count.count next (c.in_ok-count.ensures {u = tt}).gives) (go output_name)) c.names.ensures.ok

pub returns-clause-err : goal.returns-clause-err
returns-clause-err c =
    let e = c.in_ok-due_line.ensures {u = tt} in
    let next : IsNextLine c.args.reader.now c.due_line.new.reader c.in_ok-due_line.field-0.at c.in_ok-due_line.field-0.bytes.now = record { cut = e.line; line = e.at; number = e.number } in
    IfErr-weaker c.names.result _ _ (λ e' fails. λ I. part_fails output_name one_name (stood_before c.args.inputs.now) (at_outputs I c.args.inputs.now) (at_inputs I 0 c.args.inputs.now) c.args.reader.now c.due_line.new.reader c.in_ok-count.count e' (outputs_part I c.args.inputs.now) (count_goes (at_inputs I 0 c.args.inputs.now) output_count (codes "outputs") 0 16385 (outputs_head I c.args.inputs.now) c.args.reader.now c.due_line.new.reader c.in_ok-due_line.field-0.at c.in_ok-due_line.field-0.bytes.now c.in_ok-count.count next (c.in_ok-count.ensures {u = tt}).gives) (fails output_name)) c.names.ensures.err
