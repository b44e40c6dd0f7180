use Rattle.std.proofs.Common.{ℕ, List, refl}
use Rattle.std.proofs.lemmas.Result.{err_from_is_err_and, IfOk-weaker, IfErr-weaker}
use Rattle.argos_base.specs.Names.{Spelled}
use Rattle.std.specs.Prelude.{codes}
use Rattle.eqn_file.specs.EquationFile.{register_count, a_code}
use Rattle.eqn_file.specs.inner.WordReading.{one_number}
use Rattle.eqn_file.specs.inner.Sections.{Stops, too_large}
use Rattle.eqn_file.specs.inner.Stages.{names, at_outputs, at_codes}
use Rattle.eqn_file.proofs.PartSteps.{IsNextLine}
use Rattle.eqn_file.proofs.ReadSteps.{line_absent, count_goes, count_stops, part_moves, part_fails, registers_head, codes_part}
use Rattle.eqn_file.proofs.reading.registers.Goals as goal

pub returns-in_err-due_line-clause-err : goal.returns-in_err-due_line-clause-err
returns-in_err-due_line-clause-err c =
    let e = c.in_err-due_line.ensures {u = tt} in
    let m : (I : ℕ) (ins outs : List Spelled) → Stops (at_outputs I ins 0 outs) c.args.reader.now c.in_err-due_line.field-0.0 = λ I ins outs. line_absent (at_outputs I ins 0 outs) c.args.reader.now c.in_err-due_line.field-0.0 e.missing e.kind refl in
    let out = err_from_is_err_and c.from_residual.result c.from_residual.ensures.1 in
    rw (out.1, out.2) m

pub returns-in_err-count-clause-err : goal.returns-in_err-count-clause-err
returns-in_err-count-clause-err c =
    let e = c.in_ok-due_line.ensures {u = tt} in
    let next : IsNextLine c.args.reader.now c.due_line.new.reader c.in_ok-due_line.field-0.at c.in_ok-due_line.field-0.bytes.now = record { cut = e.line; line = e.at; number = e.number } in
    let m : (I : ℕ) (ins outs : List Spelled) → Stops (at_outputs I ins 0 outs) c.args.reader.now c.in_err-count.field-0.0 =
    λ I ins outs. count_stops (at_outputs I ins 0 outs) register_count (codes "registers") 1 100001 (registers_head I ins outs) c.args.reader.now c.due_line.new.reader c.in_ok-due_line.field-0.at c.in_ok-due_line.field-0.bytes.now c.in_err-count.field-0.0 next (c.in_err-count.ensures {u = tt}).gives in
    let out = err_from_is_err_and c.from_residual-in_err-count.result c.from_residual-in_err-count.ensures.1 in
    rw (out.1, out.2) m

pub returns-clause-ok : goal.returns-clause-ok
returns-clause-ok c =
    let e = c.in_ok-due_line.ensures {u = tt} in
    let next : IsNextLine c.args.reader.now c.due_line.new.reader c.in_ok-due_line.field-0.at c.in_ok-due_line.field-0.bytes.now = record { cut = e.line; line = e.at; number = e.number } in
    IfOk-weaker c.codes.result _ _ (λ v go. λ I ins outs. part_moves a_code one_number (λ _. too_large) (at_codes I (names ins outs)) (at_outputs I ins 0 outs) c.args.reader.now c.due_line.new.reader c.codes.new.reader c.in_ok-count.count v.items (codes_part I (names ins outs)) (count_goes (at_outputs I ins 0 outs) register_count (codes "registers") 1 100001 (registers_head I ins outs) c.args.reader.now c.due_line.new.reader c.in_ok-due_line.field-0.at c.in_ok-due_line.field-0.bytes.now c.in_ok-count.count next (c.in_ok-count.ensures {u = tt}).gives) go) c.codes.ensures.ok

pub returns-clause-err : goal.returns-clause-err
returns-clause-err c =
    let e = c.in_ok-due_line.ensures {u = tt} in
    let next : IsNextLine c.args.reader.now c.due_line.new.reader c.in_ok-due_line.field-0.at c.in_ok-due_line.field-0.bytes.now = record { cut = e.line; line = e.at; number = e.number } in
    IfErr-weaker c.codes.result _ _ (λ e' fails. λ I ins outs. part_fails a_code one_number (λ _. too_large) (at_codes I (names ins outs)) (at_outputs I ins 0 outs) c.args.reader.now c.due_line.new.reader c.in_ok-count.count e' (codes_part I (names ins outs)) (count_goes (at_outputs I ins 0 outs) register_count (codes "registers") 1 100001 (registers_head I ins outs) c.args.reader.now c.due_line.new.reader c.in_ok-due_line.field-0.at c.in_ok-due_line.field-0.bytes.now c.in_ok-count.count next (c.in_ok-count.ensures {u = tt}).gives) fails) c.codes.ensures.err
