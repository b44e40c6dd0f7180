use Rattle.std.proofs.Common.{[], ◌∷◌, ap, length, length-append, arith}
use Rattle.argos_base.specs.Names.{Spelled}
use Rattle.std.proofs.lemmas.Result.{err_from_is_err_and}
use Rattle.eqn_file.specs.EquationFile.{FileLine}
use Rattle.eqn_file.specs.inner.WordReading.{one_name}
use Rattle.eqn_file.specs.inner.Sections.{FailsIn, stood_before}
use Rattle.eqn_file.proofs.PartSteps.{IsNextLine, part_goes, part_ends, part_missing, part_stops, name_error}
use Rattle.eqn_file.proofs.parts.names.Goals as goal

pub returns-in_err-line-clause-err : goal.returns-in_err-line-clause-err
returns-in_err-line-clause-err c =
    let e = c.in_err-line.ensures {u = tt} in
    let m : (say : Spelled → FileLine) → FailsIn say one_name (stood_before c.args.before.now) c.args.reader.now c.args.count c.in_err-line.field-0.0 =
    λ say. part_missing say one_name (stood_before c.args.before.now) c.args.reader.now c.loop.reader c.args.count c.loop.counter c.loop.names c.in_err-line.field-0.0 c.loop-test.true (c.loop.invariant.goes say) e.missing e.kind in
    let out = err_from_is_err_and c.from_residual.result c.from_residual.ensures.1 in
    rw (out.1, out.2) m

pub returns-in_err-add_name-clause-err : goal.returns-in_err-add_name-clause-err
returns-in_err-add_name-clause-err c =
    let e = c.in_ok-line.ensures {u = tt} in
    let next : IsNextLine c.loop.reader c.due_line.new.reader c.in_ok-line.line.at c.in_ok-line.line.bytes.now = record { cut = e.line; line = e.at; number = e.number } in
    let g = name_error c.in_ok-line.line.at c.in_ok-line.line.bytes.now c.args.before.now c.loop.names c.add_name.new.names c.in_err-add_name.field-0.0 (c.in_err-add_name.ensures {u = tt}) in
    let m : (say : Spelled → FileLine) → FailsIn say one_name (stood_before c.args.before.now) c.args.reader.now c.args.count c.in_err-add_name.field-0.0 =
    λ say. part_stops (λ (n : Spelled). n) say one_name (stood_before c.args.before.now) c.args.reader.now c.loop.reader c.due_line.new.reader c.args.count c.loop.counter c.loop.names c.in_ok-line.line.at c.in_ok-line.line.bytes.now c.in_err-add_name.field-0.0
    c.loop-test.true (c.loop.invariant.goes say) next g in
    let out = err_from_is_err_and c.from_residual-in_err-add_name.result c.from_residual-in_err-add_name.ensures.1 in
    rw (out.1, out.2) m

pub loop-preserved : goal.loop-preserved
loop-preserved c =
    let e = c.in_ok-line.ensures {u = tt} in
    let g = c.in_ok-add_name.ensures {u = tt} in
    let next : IsNextLine c.loop.reader c.due_line.new.reader c.in_ok-line.line.at c.in_ok-line.line.bytes.now = record { cut = e.line; line = e.at; number = e.number } in
    record {
      goes = λ say. part_goes say one_name (stood_before c.args.before.now) c.args.reader.now c.loop.reader c.due_line.new.reader c.args.count c.loop.counter c.loop.names c.add_name.new.names c.in_ok-line.line.at c.in_ok-line.line.bytes.now g.0
          c.loop-test.true (c.loop.invariant.goes say) next g.1 g.2 g.3;
      count = omega (arith, length-append c.loop.names (g.0 ∷ []), ap length g.3, c.loop.invariant.count);
      number = omega (arith, e.number, c.loop.invariant.number);
    }

pub returns-clause-ok : goal.returns-clause-ok
returns-clause-ok c = λ say. part_ends say one_name (stood_before c.args.before.now) c.args.reader.now c.loop.reader c.args.count c.loop.counter c.loop.names c.loop-test.false (c.loop.invariant.goes say)
