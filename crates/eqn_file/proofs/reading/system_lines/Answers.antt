use Rattle.std.proofs.Common.{◌≡◌, ℕ, List, length, refl}
use Rattle.std.proofs.lemmas.Result.{err_from_is_err_and, IfOk-weaker, IfErr-weaker}
use Rattle.line_format.specs.FileNames.{FileNames}
use Rattle.std.specs.Prelude.{codes}
use Rattle.eqn_file.specs.EquationFile.{line_count, a_line}
use Rattle.eqn_file.specs.inner.WordReading.{read_line}
use Rattle.eqn_file.specs.inner.Sections.{Stops, reads_ahead}
use Rattle.eqn_file.specs.inner.Stages.{at_codes, at_lines}
use Rattle.eqn_file.proofs.PartSteps.{IsNextLine}
use Rattle.eqn_file.proofs.ReadSteps.{line_absent, count_goes, count_stops, part_moves, part_fails, lines_head, lines_part}
use Rattle.std.proofs.Common.{map}
use Rattle.eqn_core.specs.Views.{line_of}
use Rattle.eqn_file.proofs.reading.system_lines.Goals as goal

pub returns-in_err-due_line-clause-err : goal.returns-in_err-due_line-clause-err
returns-in_err-due_line-clause-err c =
    let e = c.in_err-due_line.ensures {u = tt} in
    let m : (n : FileNames) (init : List ℕ) → length init ≡ c.args.before.words → Stops (at_codes c.args.before.bits n 0 init) c.args.reader.now c.in_err-due_line.field-0.0 = λ n init sized. line_absent (at_codes c.args.before.bits n 0 init) c.args.reader.now c.in_err-due_line.field-0.0 e.missing e.kind refl in
    let out = err_from_is_err_and c.from_residual.result c.from_residual.ensures.1 in
    rw (out.1, out.2) m

pub returns-in_err-count-clause-err : goal.returns-in_err-count-clause-err
returns-in_err-count-clause-err c =
    let e = c.in_ok-due_line.ensures {u = tt} in
    let next : IsNextLine c.args.reader.now c.due_line.new.reader c.in_ok-due_line.field-0.at c.in_ok-due_line.field-0.bytes.now = record { cut = e.line; line = e.at; number = e.number } in
    let m : (n : FileNames) (init : List ℕ) → length init ≡ c.args.before.words → Stops (at_codes c.args.before.bits n 0 init) c.args.reader.now c.in_err-count.field-0.0 =
    λ n init sized. count_stops (at_codes c.args.before.bits n 0 init) line_count (codes "lines") 0 100000001 (lines_head c.args.before.bits n init) c.args.reader.now c.due_line.new.reader c.in_ok-due_line.field-0.at c.in_ok-due_line.field-0.bytes.now c.in_err-count.field-0.0 next (c.in_err-count.ensures {u = tt}).gives in
    let out = err_from_is_err_and c.from_residual-in_err-count.result c.from_residual-in_err-count.ensures.1 in
    rw (out.1, out.2) m

pub returns-clause-ok : goal.returns-clause-ok
returns-clause-ok c =
    let e = c.in_ok-due_line.ensures {u = tt} in
    let next : IsNextLine c.args.reader.now c.due_line.new.reader c.in_ok-due_line.field-0.at c.in_ok-due_line.field-0.bytes.now = record { cut = e.line; line = e.at; number = e.number } in
    IfOk-weaker c.lines.result _ _ (λ v go. λ n init sized. part_moves a_line read_line (reads_ahead c.args.before.bits c.args.before.words) (at_lines c.args.before.bits n init) (at_codes c.args.before.bits n 0 init) c.args.reader.now c.due_line.new.reader c.lines.new.reader c.in_ok-count.count (map line_of v.lines.items) (lines_part c.args.before.bits c.args.before.words n init sized) (count_goes (at_codes c.args.before.bits n 0 init) line_count (codes "lines") 0 100000001 (lines_head c.args.before.bits n init) c.args.reader.now c.due_line.new.reader c.in_ok-due_line.field-0.at c.in_ok-due_line.field-0.bytes.now c.in_ok-count.count next (c.in_ok-count.ensures {u = tt}).gives) go) c.lines.ensures.ok

pub returns-clause-err : goal.returns-clause-err
returns-clause-err c =
    let e = c.in_ok-due_line.ensures {u = tt} in
    let next : IsNextLine c.args.reader.now c.due_line.new.reader c.in_ok-due_line.field-0.at c.in_ok-due_line.field-0.bytes.now = record { cut = e.line; line = e.at; number = e.number } in
    IfErr-weaker c.lines.result _ _ (λ e' fails. λ n init sized. part_fails a_line read_line (reads_ahead c.args.before.bits c.args.before.words) (at_lines c.args.before.bits n init) (at_codes c.args.before.bits n 0 init) c.args.reader.now c.due_line.new.reader c.in_ok-count.count e' (lines_part c.args.before.bits c.args.before.words n init sized) (count_goes (at_codes c.args.before.bits n 0 init) line_count (codes "lines") 0 100000001 (lines_head c.args.before.bits n init) c.args.reader.now c.due_line.new.reader c.in_ok-due_line.field-0.at c.in_ok-due_line.field-0.bytes.now c.in_ok-count.count next (c.in_ok-count.ensures {u = tt}).gives) fails) c.lines.ensures.err
