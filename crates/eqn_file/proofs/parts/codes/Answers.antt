use Rattle.std.proofs.Common.{[], ◌∷◌, ap, length, length-append, arith}
use Rattle.std.proofs.lemmas.Result.{err_from_is_err_and}
use Rattle.eqn_file.specs.EquationFile.{a_code}
use Rattle.eqn_file.specs.inner.WordReading.{one_number}
use Rattle.eqn_file.specs.inner.Sections.{FailsIn, too_large}
use Rattle.eqn_file.proofs.PartSteps.{IsNextLine, part_goes, part_missing, part_stops}
use Rattle.eqn_file.proofs.parts.codes.Goals as goal

pub returns-in_err-line-clause-err : goal.returns-in_err-line-clause-err
returns-in_err-line-clause-err c =
    let e = c.in_err-line.ensures {u = tt} in
    let m : FailsIn a_code one_number (λ _. too_large) c.args.reader.now c.args.count c.in_err-line.field-0.0 =
    part_missing a_code one_number (λ _. too_large) c.args.reader.now c.loop.reader c.args.count c.loop.counter c.loop.codes.items c.in_err-line.field-0.0 c.loop-test.true c.loop.invariant.goes e.missing e.kind in
    let out = err_from_is_err_and c.from_residual.result c.from_residual.ensures.1 in
    rw (out.1, out.2) m

pub returns-in_err-code-clause-err : goal.returns-in_err-code-clause-err
returns-in_err-code-clause-err c =
    let e = c.in_ok-line.ensures {u = tt} in
    let next : IsNextLine c.loop.reader c.due_line.new.reader c.in_ok-line.line.at c.in_ok-line.line.bytes.now = record { cut = e.line; line = e.at; number = e.number } in
    let m : FailsIn a_code one_number (λ _. too_large) c.args.reader.now c.args.count c.in_err-code.field-0.0 =
    part_stops (λ n. n) a_code one_number (λ _. too_large) c.args.reader.now c.loop.reader c.due_line.new.reader c.args.count c.loop.counter c.loop.codes.items c.in_ok-line.line.at c.in_ok-line.line.bytes.now c.in_err-code.field-0.0
    c.loop-test.true c.loop.invariant.goes next (c.in_err-code.ensures {u = tt}) in
    let out = err_from_is_err_and c.from_residual-in_err-code.result c.from_residual-in_err-code.ensures.1 in
    rw (out.1, out.2) m

pub loop-preserved : goal.loop-preserved
loop-preserved c =
    let e = c.in_ok-line.ensures {u = tt} in
    let g = c.in_ok-code.ensures {u = tt} in
    let p = (c.in_ok-push.ensures {u = tt}).items in
    let next : IsNextLine c.loop.reader c.due_line.new.reader c.in_ok-line.line.at c.in_ok-line.line.bytes.now = record { cut = e.line; line = e.at; number = e.number } in
    record {
      goes = part_goes a_code one_number (λ _. too_large) c.args.reader.now c.loop.reader c.due_line.new.reader c.args.count c.loop.counter c.loop.codes.items c.push.new.self.items c.in_ok-line.line.at c.in_ok-line.line.bytes.now c.in_ok-code.field-0
          c.loop-test.true c.loop.invariant.goes next g.0 g.1 p;
      count = omega (arith, length-append c.loop.codes.items (c.in_ok-code.field-0 ∷ []), ap length p, c.loop.invariant.count);
      number = omega (arith, e.number, c.loop.invariant.number);
    }
