use Rattle.std.proofs.Common.{refl}
use Rattle.std.proofs.lemmas.Result.{err_from_is_err_and, IfErr-weaker}
use Rattle.std.specs.Prelude.{codes}
use Rattle.eqn_file.specs.EquationFile.{input_count, input_name}
use Rattle.eqn_file.specs.inner.WordReading.{one_name}
use Rattle.eqn_file.specs.inner.Sections.{Stops, stood_before}
use Rattle.eqn_file.specs.inner.Stages.{behind_head, at_inputs}
use Rattle.eqn_file.proofs.PartSteps.{IsNextLine, ok_then}
use Rattle.eqn_file.proofs.ReadSteps.{line_absent, count_goes, count_stops, part_moves, part_fails, inputs_counted, inputs_head, inputs_part_at}
use Rattle.eqn_file.proofs.reading.input_names.Goals as goal

pub returns-in_err-due_line-clause-err : goal.returns-in_err-due_line-clause-err
returns-in_err-due_line-clause-err c =
    let e = c.in_err-due_line.ensures {u = tt} in
    let m : Stops behind_head c.args.reader.now c.in_err-due_line.field-0.0 = line_absent behind_head c.args.reader.now c.in_err-due_line.field-0.0 e.missing e.kind refl in
    let out = err_from_is_err_and c.from_residual.result c.from_residual.ensures.1 in
    rw (out.1, out.2) m

pub returns-in_err-count-clause-err : goal.returns-in_err-count-clause-err
returns-in_err-count-clause-err c =
    let e = c.in_ok-due_line.ensures {u = tt} in
    let next : IsNextLine c.args.reader.now c.due_line.new.reader c.in_ok-due_line.field-0.at c.in_ok-due_line.field-0.bytes.now = record { cut = e.line; line = e.at; number = e.number } in
    let m : Stops behind_head c.args.reader.now c.in_err-count.field-0.0 =
    count_stops behind_head input_count (codes "inputs") 0 16385 inputs_head c.args.reader.now c.due_line.new.reader c.in_ok-due_line.field-0.at c.in_ok-due_line.field-0.bytes.now c.in_err-count.field-0.0 next (c.in_err-count.ensures {u = tt}).gives in
    let out = err_from_is_err_and c.from_residual-in_err-count.result c.from_residual-in_err-count.ensures.1 in
    rw (out.1, out.2) m

pub returns-clause-ok : goal.returns-clause-ok
returns-clause-ok c =
    let e = c.in_ok-due_line.ensures {u = tt} in
    let next : IsNextLine c.args.reader.now c.due_line.new.reader c.in_ok-due_line.field-0.at c.in_ok-due_line.field-0.bytes.now = record { cut = e.line; line = e.at; number = e.number } in
    ok_then c.names-2.result _ _ _ c.names-2.ensures.ok c.names-2.ensures.count
    (λ v go size. inputs_counted c.args.reader.now c.names-2.new.reader c.in_ok-count.count v size (part_moves input_name one_name (stood_before c.new.result) (at_inputs c.in_ok-count.count) behind_head c.args.reader.now c.due_line.new.reader c.names-2.new.reader c.in_ok-count.count v (inputs_part_at c.in_ok-count.count c.new.result c.new.ensures) (count_goes behind_head input_count (codes "inputs") 0 16385 inputs_head c.args.reader.now c.due_line.new.reader c.in_ok-due_line.field-0.at c.in_ok-due_line.field-0.bytes.now c.in_ok-count.count next (c.in_ok-count.ensures {u = tt}).gives) (go input_name)))

pub returns-clause-err : goal.returns-clause-err
returns-clause-err c =
    let e = c.in_ok-due_line.ensures {u = tt} in
    let next : IsNextLine c.args.reader.now c.due_line.new.reader c.in_ok-due_line.field-0.at c.in_ok-due_line.field-0.bytes.now = record { cut = e.line; line = e.at; number = e.number } in
    IfErr-weaker c.names-2.result _ _ (λ e' fails. part_fails input_name one_name (stood_before c.new.result) (at_inputs c.in_ok-count.count) behind_head c.args.reader.now c.due_line.new.reader c.in_ok-count.count e' (inputs_part_at c.in_ok-count.count c.new.result c.new.ensures) (count_goes behind_head input_count (codes "inputs") 0 16385 inputs_head c.args.reader.now c.due_line.new.reader c.in_ok-due_line.field-0.at c.in_ok-due_line.field-0.bytes.now c.in_ok-count.count next (c.in_ok-count.ensures {u = tt}).gives) (fails input_name)) c.names-2.ensures.err
