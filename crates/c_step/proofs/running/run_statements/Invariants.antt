use Rattle.std.proofs.Common.{◌≡◌, map, drop, length, IsTrue}
use Rattle.std.specs.List.{list_all}
use Rattle.c_step.specs.CRuns.{all_done}
use Rattle.c_step.specs.inner.Ranges.{arrays, statement_within}
use Rattle.c_step.specs.Views.{statement_of}
use Rattle.c_step.proofs.running.run_statements.Given as goal

abbrev pub invariant-loop-statement : goal.invariant-loop-statement
invariant-loop-statement l = record {
  done : all_done l.input (map statement_of (drop l.statement-index l.statements)) (arrays l.words l.bits l.output) ≡ all_done l.input (map statement_of l.statements) (arrays l.initial.words l.initial.bits l.initial.output);
  sized : length l.output ≡ length l.initial.output;
  left : IsTrue (list_all (statement_within (length l.input) (length l.output) (length l.words) (length l.bits)) (map statement_of (drop l.statement-index l.statements)));
}
