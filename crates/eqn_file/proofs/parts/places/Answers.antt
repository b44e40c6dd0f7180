use Rattle.std.proofs.Common.{ℕ, [], ◌∷◌, ap, length, length-append, arith}
use Rattle.std.proofs.lemmas.Result.{err_from_is_err_and}
use Rattle.eqn_file.specs.EquationFile.{FileLine}
use Rattle.eqn_file.specs.inner.WordReading.{keyed}
use Rattle.eqn_file.specs.inner.Sections.{FailsIn, outside}
use Rattle.eqn_file.proofs.PartSteps.{IsNextLine, part_goes, part_ends, part_missing, part_stops}
use Rattle.eqn_file.proofs.parts.places.Goals as goal

pub returns-in_err-line-clause-err : goal.returns-in_err-line-clause-err
returns-in_err-line-clause-err c =
    let e = c.in_err-line.ensures {u = tt} in
    let m : (say : ℕ → FileLine) → FailsIn say (keyed c.args.word.now) (λ _. outside c.args.start c.args.end) c.args.reader.now c.args.count c.in_err-line.field-0.0 =
    λ say. part_missing say (keyed c.args.word.now) (λ _. outside c.args.start c.args.end) c.args.reader.now c.loop.reader c.args.count c.loop.counter c.loop.places.items c.in_err-line.field-0.0 c.loop-test.true (c.loop.invariant.goes say) e.missing e.kind in
    let out = err_from_is_err_and c.from_residual.result c.from_residual.ensures.1 in
    rw (out.1, out.2) m

pub returns-in_err-keyed_number-clause-err : goal.returns-in_err-keyed_number-clause-err
returns-in_err-keyed_number-clause-err c =
    let e = c.in_ok-line.ensures {u = tt} in
    let next : IsNextLine c.loop.reader c.due_line.new.reader c.in_ok-line.line.at c.in_ok-line.line.bytes.now = record { cut = e.line; line = e.at; number = e.number } in
    let m : (say : ℕ → FileLine) → FailsIn say (keyed c.args.word.now) (λ _. outside c.args.start c.args.end) c.args.reader.now c.args.count c.in_err-keyed_number.field-0.0 =
    λ say. part_stops (λ n. n) say (keyed c.args.word.now) (λ _. outside c.args.start c.args.end) c.args.reader.now c.loop.reader c.due_line.new.reader c.args.count c.loop.counter c.loop.places.items c.in_ok-line.line.at c.in_ok-line.line.bytes.now c.in_err-keyed_number.field-0.0
    c.loop-test.true (c.loop.invariant.goes say) next (c.in_err-keyed_number.ensures {u = tt}).gives in
    let out = err_from_is_err_and c.from_residual-in_err-keyed_number.result c.from_residual-in_err-keyed_number.ensures.1 in
    rw (out.1, out.2) m

pub loop-preserved : goal.loop-preserved
loop-preserved c =
    let e = c.in_ok-line.ensures {u = tt} in
    let g = (c.in_ok-keyed_number.ensures {u = tt}).gives in
    let p = (c.in_ok-push.ensures {u = tt}).items in
    let next : IsNextLine c.loop.reader c.due_line.new.reader c.in_ok-line.line.at c.in_ok-line.line.bytes.now = record { cut = e.line; line = e.at; number = e.number } in
    record {
      goes = λ say. part_goes say (keyed c.args.word.now) (λ _. outside c.args.start c.args.end) c.args.reader.now c.loop.reader c.due_line.new.reader c.args.count c.loop.counter c.loop.places.items c.push.new.self.items c.in_ok-line.line.at c.in_ok-line.line.bytes.now c.in_ok-keyed_number.field-0
          c.loop-test.true (c.loop.invariant.goes say) next g.0 g.1 p;
      count = omega (arith, length-append c.loop.places.items (c.in_ok-keyed_number.field-0 ∷ []), ap length p, c.loop.invariant.count);
      number = omega (arith, e.number, c.loop.invariant.number);
    }

pub returns-clause-ok : goal.returns-clause-ok
returns-clause-ok c = λ say. part_ends say (keyed c.args.word.now) (λ _. outside c.args.start c.args.end) c.args.reader.now c.loop.reader c.args.count c.loop.counter c.loop.places.items c.loop-test.false (c.loop.invariant.goes say)
