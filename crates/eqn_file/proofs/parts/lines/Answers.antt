use Rattle.std.proofs.Common.{map, arith}
use Rattle.eqn_core.specs.Views.{line_of}
use Rattle.std.proofs.lemmas.Result.{err_from_is_err_and}
use Rattle.eqn_file.specs.EquationFile.{a_line}
use Rattle.eqn_file.specs.inner.Words.{split}
use Rattle.eqn_file.specs.inner.WordReading.{read_line}
use Rattle.eqn_file.specs.inner.Sections.{FailsIn, reads_ahead}
use Rattle.std.proofs.Common.{Ok, Err}
use Rattle.eqn_file.proofs.PartSteps.{IsNextLine, part_goes, part_missing, part_stops, gives_within, map-line_of, bits-push, words-push, one_bit, one_word}
use Rattle.eqn_file.proofs.parts.lines.Goals as goal

pub returns-in_err-due_line-clause-err : goal.returns-in_err-due_line-clause-err
returns-in_err-due_line-clause-err c =
    let e = c.in_err-due_line.ensures {u = tt} in
    let m : FailsIn a_line read_line (reads_ahead c.args.before.bits c.args.before.words) c.args.reader.now c.args.count c.in_err-due_line.field-0.0 =
    part_missing a_line read_line (reads_ahead c.args.before.bits c.args.before.words) c.args.reader.now c.loop.reader c.args.count c.loop.counter (map line_of c.loop.lines.items) c.in_err-due_line.field-0.0 c.loop-test.true c.loop.invariant.goes e.missing e.kind in
    let out = err_from_is_err_and c.from_residual.result c.from_residual.ensures.1 in
    rw (out.1, out.2) m

pub returns-in_err-line-clause-err : goal.returns-in_err-line-clause-err
returns-in_err-line-clause-err c =
    let e = c.in_ok-due_line.ensures {u = tt} in
    let next : IsNextLine c.loop.reader c.due_line.new.reader c.in_ok-due_line.field-0.at c.in_ok-due_line.field-0.bytes.now = record { cut = e.line; line = e.at; number = e.number } in
    let g = gives_within _ _ _ _ c.in_ok-due_line.field-0.at (read_line (split c.in_ok-due_line.field-0.bytes.now)) (Err c.in_err-line.field-0.0) c.loop.invariant.bits c.loop.invariant.words (c.in_err-line.ensures {u = tt}) in
    let m : FailsIn a_line read_line (reads_ahead c.args.before.bits c.args.before.words) c.args.reader.now c.args.count c.in_err-line.field-0.0 =
    part_stops line_of a_line read_line (reads_ahead c.args.before.bits c.args.before.words) c.args.reader.now c.loop.reader c.due_line.new.reader c.args.count c.loop.counter (map line_of c.loop.lines.items) c.in_ok-due_line.field-0.at c.in_ok-due_line.field-0.bytes.now c.in_err-line.field-0.0
    c.loop-test.true c.loop.invariant.goes next g in
    let out = err_from_is_err_and c.from_residual-in_err-line.result c.from_residual-in_err-line.ensures.1 in
    rw (out.1, out.2) m

pub loop-preserved : goal.loop-preserved
loop-preserved c =
    let e = c.in_ok-due_line.ensures {u = tt} in
    let next : IsNextLine c.loop.reader c.due_line.new.reader c.in_ok-due_line.field-0.at c.in_ok-due_line.field-0.bytes.now = record { cut = e.line; line = e.at; number = e.number } in
    let g = gives_within _ _ _ _ c.in_ok-due_line.field-0.at (read_line (split c.in_ok-due_line.field-0.bytes.now)) (Ok c.in_ok-line.line) c.loop.invariant.bits c.loop.invariant.words (c.in_ok-line.ensures {u = tt}) in
    let p = (c.in_ok-push.ensures {u = tt}).items in
    record {
      goes = part_goes a_line read_line (reads_ahead c.args.before.bits c.args.before.words) c.args.reader.now c.loop.reader c.due_line.new.reader c.args.count c.loop.counter (map line_of c.loop.lines.items) (map line_of c.push.new.self.items) c.in_ok-due_line.field-0.at c.in_ok-due_line.field-0.bytes.now (line_of c.in_ok-line.line)
          c.loop-test.true c.loop.invariant.goes next g.0 g.1 (map-line_of c.loop.lines.items c.push.new.self.items c.in_ok-line.line p);
      bits = omega (arith, bits-push c.loop.lines.items c.push.new.self.items c.in_ok-line.line p, c.behind-bounds.ensures.bits, c.loop.invariant.bits);
      words = omega (arith, words-push c.loop.lines.items c.push.new.self.items c.in_ok-line.line p, c.behind-bounds.ensures.words, c.loop.invariant.words);
      few_bits = omega (arith, c.behind-bounds.ensures.bits, one_bit (line_of c.in_ok-line.line), c.loop.invariant.few_bits);
      few_words = omega (arith, c.behind-bounds.ensures.words, one_word (line_of c.in_ok-line.line), c.loop.invariant.few_words);
      number = omega (arith, e.number, c.loop.invariant.number);
    }
